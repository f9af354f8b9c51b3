-- Looking put into a history leaves the instrument after it as it was.
use mathlib.Core.Path.{◌≡◌, refl, sym, ap, ◌∙◌}
use mathlib.Core.Bool.{Bool, true, false, cond, ◌&&◌, ◌||◌}
use mathlib.Core.List.{List, [], ◌∷◌, ◌++◌}
use mathlib.Core.Option.{Option, none, some}
use Prim.Native.Nat.{ℕ, ◌≤◌}
use native.Mathlib.Omega.{arith}
use borrow.Author.Tests.{eq-eqb, ne_eqb, eqb-true}
use lib.Dec.{eqb}
use lib.IntN.{ℤ, pos}
use Rattle.config.specs.Config.{judged}
use Rattle.config.specs.declared.Config.{Config}
use Rattle.config.specs.Verdict.{Accepted}
use Rattle.exact.proofs.Z.{either}
use Rattle.register.specs.Registers.{at}
use Rattle.receiver.specs.Receiver.{ends}
use Rattle.receiver.specs.Since.{ending, since}
use Rattle.command.specs.declared.Asked.TheVariants.{Write}
use Rattle.form.specs.Change.{change}
use Rattle.form.specs.Grammar.{Says}
use Rattle.form.proofs.Meaning.{says_parse}
use Rattle.alarms.specs.Alarms.{setpoint_of}
use Rattle.alarms.proofs.Laws.{present_setpoint}
use Rattle.instrument.specs.Instrument.{with_alarms, alarm_of, shut, write_register}
use Rattle.instrument.specs.declared.Instrument.{Instrument}
use Rattle.effect.specs.Effect.{written}
use Rattle.effect.specs.declared.Settled.{Settled}
use Rattle.answer.specs.Answer.{number}
use Rattle.answer.specs.declared.Answer.{Answer}
use Rattle.meter.specs.Meter.{received}
use Rattle.promises.proofs.Leaves.{leaves}
use Rattle.looking.specs.History.{Event, sample, key, byte, History, meter_after, node_of, half}
use Rattle.looking.specs.Kept.{Entry, told, keeps, kept}
use Rattle.looking.specs.Inserted.{refusal, Idle, read, other_node, refused, rewrites, Inserted, power_up, event, print_key, begins, part, sample_between, key_between, ended as string_ended, dropped}
use Rattle.looking.proofs.Ends.{not_ends, drop_not_ends, drop_ending, end_ending}
use Rattle.looking.proofs.Does.{carried_by}
use Rattle.looking.proofs.State.{given_add, holds}
use Rattle.looking.proofs.Whole.{half_more, half_none}
use Rattle.looking.proofs.NoChange.{read_changes_not, other_changes_not, keeps_idle}

-- ── a string that is refused leaves the instrument as it is ──

-- a refusal is a number from 3 to 9
abbrev Refusing : ℕ → Type 0
Refusing n = (3 ≤ n) × (n ≤ 9)

one_of : {X : Type 0} {t u : Bool} → (t ≡ true → X) → (u ≡ true → X) → (t || u) ≡ true → X
one_of {t = true} p q e = p refl
one_of {t = false} p q e = q e

refusing : (n k : ℕ) → 3 ≤ k → k ≤ 9 → eqb n k ≡ true → Refusing n
refusing n k from to e = let q = eqb-true n k e in (omega arith, omega arith)

are_refused : (a : Answer) → refusal a ≡ true → Refusing (number a)
are_refused a =
    let n : ℕ = number a in
    one_of
    (one_of
    (one_of (one_of (refusing n 3 (omega arith) (omega arith)) (refusing n 4 (omega arith) (omega arith))) (refusing n 6 (omega arith) (omega arith)))
    (refusing n 8 (omega arith) (omega arith)))
    (refusing n 9 (omega arith) (omega arith))

-- ── a setpoint's present value, written again, changes nothing ──

module _ (c : Config) (i : Instrument) (r : ℕ) (from : at "E" ≤ r) (to : r ≤ at "H") where
  -- the present value
  abbrev present : ℤ
  present = setpoint_of i.alarms (alarm_of r)

  same_value : write_register c.working i r present ≡ i
  unfolding write_register
  same_value = rw (ne_eqb r (at "I") (λ e. omega arith)) (ap (with_alarms i) (present_setpoint i.alarms (alarm_of r)))

  same_written : (written c.working i r present).instrument ≡ i
  same_written = either (λ (s : Settled). s.instrument ≡ i) (shut i.outputs.mode r) refl same_value

  rewritten : (s : List ℕ) (t : Bool) → Says s (node_of c) (Write r present) → carried_by c i (cond t (some (told s)) none) ≡ i
  rewritten s true x = rw (says_parse x, eq-eqb (node_of c) (node_of c) refl) same_written
  rewritten s false x = refl

-- ── one event after two histories ──

half_same : (e : Event) (h g : History) → half g ≡ half h → half (e ∷ g) ≡ half (e ∷ h)
unfolding since
half_same (sample x) h g q = q
half_same (key k place buffer) h g q = q
half_same (byte b place buffer) h g q = ap (λ (s : List ℕ). cond (ending b) [] (s ++ b ∷ [])) q

module _ (c : Config) (accepted : judged c ≡ Accepted) where
  -- what an event does to the instrument after a history
  moved : (h : History) (e : Event) → (meter_after c (e ∷ h)).instrument ≡ carried_by c (meter_after c h).instrument (keeps c (half h) e)
  moved h e =
      holds c accepted (e ∷ h)
      ∙ sym (given_add c (keeps c (half h) e) (kept c h))
      ∙ ap (λ (i : Instrument). carried_by c i (keeps c (half h) e)) (sym (holds c accepted h))

  -- a byte of which nothing is kept moves nothing
  byte_still : (h : History) (b place : ℕ) (buffer : List ℕ) → keeps c (half h) (byte b place buffer) ≡ none
      → (meter_after c (byte b place buffer ∷ h)).instrument ≡ (meter_after c h).instrument
  byte_still h b place buffer e = moved h (byte b place buffer) ∙ ap (carried_by c (meter_after c h).instrument) e

  idle_still : (h : History) (s : List ℕ) (b place : ℕ) (buffer : List ℕ) → half h ≡ s → Idle c (meter_after c h).instrument s (received (meter_after c h) b buffer place).outcome.answer
      → (meter_after c (byte b place buffer ∷ h)).instrument ≡ (meter_after c h).instrument
  idle_still h s b place buffer q (read a x) =
      byte_still h b place buffer (keeps_idle c (half h) b place buffer (rw q (read_changes_not (node_of c) s x)))
  idle_still h s b place buffer q (other_node n e d) =
      byte_still h b place buffer (keeps_idle c (half h) b place buffer (rw q (other_changes_not (node_of c) s n e d)))
  idle_still h s b place buffer q (refused e) =
      let n = are_refused (received (meter_after c h) b buffer place).outcome.answer e in ((leaves (meter_after c h)).refused b buffer place n.0 n.1).instrument
  idle_still h s b place buffer q (rewrites r from to x) =
      moved h (byte b place buffer)
      ∙ rw q (rewritten c (meter_after c h).instrument r from to s (ends b && change (node_of c) s) x)

  -- ── the whole ──

  -- the instruments are the same, and so is the string half received, but for one that is being put in
  abbrev Same : History → History → Option (List ℕ) → Type 0
  Same h g none = ((meter_after c g).instrument ≡ (meter_after c h).instrument) × (half g ≡ half h)
  Same h g (some s) = ((meter_after c g).instrument ≡ (meter_after c h).instrument) × (half h ≡ []) × (half g ≡ s)

  event_same : (e : Event) (h g : History) → keeps c (half g) e ≡ keeps c (half h) e → (meter_after c g).instrument ≡ (meter_after c h).instrument
      → (meter_after c (e ∷ g)).instrument ≡ (meter_after c (e ∷ h)).instrument
  event_same e h g k q =
      moved g e ∙ ap (λ (o : Option Entry). carried_by c (meter_after c g).instrument o) k ∙ ap (λ (i : Instrument). carried_by c i (keeps c (half h) e)) q ∙ sym (moved h e)

  print_same : (h g : History) (going : Option (List ℕ)) (place : ℕ) (buffer : List ℕ) → Same h g going → Same h (key (pos 6) place buffer ∷ g) going
  print_same h g none place buffer q = (moved g (key (pos 6) place buffer) ∙ q.0, q.1)
  print_same h g (some s) place buffer q = (moved g (key (pos 6) place buffer) ∙ q.0, q.1, q.2)

  same : {h g : History} {going : Option (List ℕ)} → Inserted c h g going → Same h g going
  same power_up = (refl, refl)
  same (event {h} {g} e x) =
      let q = same x in
      (event_same e h g (ap (λ (s : List ℕ). keeps c s e) q.1) q.0, half_same e h g q.1)
  same (print_key {h} {g} {going} place buffer x) = print_same h g going place buffer (same x)
  same (begins n x) = let q = same x in (q.0, sym q.1 ∙ n, n)
  same (part {h} {g} {s} b place buffer e x) =
      let q = same x in
      (byte_still g b place buffer (rw (not_ends b e)) ∙ q.0, q.1, half_more b place buffer g e ∙ ap (λ (l : List ℕ). l ++ b ∷ []) q.2)
  same (sample_between {h} {g} y x) = let q = same x in (event_same (sample y) h g refl q.0, q.1, q.2)
  same (key_between {h} {g} k place buffer x) = let q = same x in (event_same (key k place buffer) h g refl q.0, q.1, q.2)
  same (string_ended {h} {g} {s} b place buffer e i x) =
      let q = same x in
      (idle_still g s b place buffer q.2 i ∙ q.0, half_none b place buffer g (end_ending b e) ∙ sym q.1)
  same (dropped {h} {g} b place buffer e x) =
      let q = same x in
      (byte_still g b place buffer (rw (drop_not_ends b e)) ∙ q.0, half_none b place buffer g (drop_ending b e) ∙ sym q.1)

  pub unmoved : (h g : History) → Inserted c h g none → (meter_after c g).instrument ≡ (meter_after c h).instrument
  unmoved h g x = (same x).0
