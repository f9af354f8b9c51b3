-- Max and min of a meter are those of its samples and their own resets. Assumes nothing.
use mathlib.Core.Path.{◌≡◌, refl, sym, ap, ◌∙◌}
use mathlib.Core.Bool.{Bool, true, false, cond, ◌&&◌}
use mathlib.Core.List.{List, [], ◌∷◌}
use Prim.Native.Nat.{ℕ}
use borrow.Author.Tests.{eqb-true}
use lib.Dec.{eqb}
use lib.IntN.{ℤ, pos, nat_abs}
use Rattle.exact.specs.Sign.{eq_z}
use Rattle.exact.proofs.Z.{either, eq_z_true}
use Rattle.reading.specs.declared.Reading.{Reading}
use Rattle.extremes.specs.Extremes.{reset}
use Rattle.extremes.specs.History.{Event, held}
use Rattle.extremes.specs.declared.Side.{Side}
use Rattle.extremes.specs.declared.Side.TheVariants.{Max, Min}
use Rattle.extremes.proofs.Takes.{takes_closest}
use Rattle.register.specs.Registers.{at}
use Rattle.alarms.specs.Alarms.{bit}
use Rattle.config.specs.Config.{judged}
use Rattle.config.specs.declared.Config.{Config}
use Rattle.config.specs.declared.Talking.{Talking}
use Rattle.config.specs.declared.Working.{Working}
use Rattle.config.specs.Verdict.{Accepted}
use Rattle.command.specs.Parse.{parse}
use Rattle.command.specs.declared.Asked.{Asked}
use Rattle.command.specs.declared.Asked.TheVariants.{Read, Print, Reset, Write, Status, BadForm as BadString}
use Rattle.command.specs.Parse.{Parsed}
use Rattle.std.specs.Prelude.{None, Some}
use Rattle.instrument.specs.Instrument.{shut, reset_register, write_register, write_status}
use Rattle.instrument.specs.declared.Instrument.{Instrument}
use Rattle.instrument.proofs.Soundness.{chosen}
use Rattle.effect.specs.Effect as effects
use Rattle.effect.specs.Effect.{Effect, leaves, stands, settled, written}
use Rattle.effect.specs.declared.Settled.{Settled}
use Rattle.looking.specs.History.{History}
use Rattle.looking.specs.Kept.{Entry, measured, pressed, told, kept}
use Rattle.looking.specs.Given.{given}
use Rattle.looking.specs.Captured.{present, is_reset, reset_to, resetting, to_max, to_min, Captured}
use Rattle.looking.proofs.Looking.{looking}

-- ---- what an effect leaves of reading, max and min: it resets the first where a is true, the second where b is

record Left (i : Instrument) (a b : Bool) (j : Instrument) : Type 0 where
  reading : j.measured.reading ≡ i.measured.reading
  max : j.measured.max ≡ cond a (reset i.measured.reading) i.measured.max
  min : j.measured.min ≡ cond b (reset i.measured.reading) i.measured.min

module _ (t : Talking) (w : Working) (i : Instrument) where
  untouched : Left i false false i
  untouched = record { reading = refl; max = refl; min = refl }

  -- R of a register
  resets_left : (r : ℕ) → Left i (eqb r (at "C")) (eqb r (at "D")) (reset_register w i r)
  unfolding reset_register
  resets_left r =
      let P : Instrument → Type 0 = Left i (eqb r (at "C")) (eqb r (at "D")) in
      chosen P (eqb r (at "B")) (λ e. rw (eqb-true r (at "B") e) (record { reading = refl; max = refl; min = refl }))
      (λ _. chosen P (eqb r (at "C")) (λ e. rw (eqb-true r (at "C") e) (record { reading = refl; max = refl; min = refl }))
      (λ c. chosen P (eqb r (at "D")) (λ e. rw (eqb-true r (at "D") e) (record { reading = refl; max = refl; min = refl }))
      (λ d. rw (c, d) (record { reading = refl; max = refl; min = refl }))))

  -- ---- a string

  written_left : (r : ℕ) (z : ℤ) → Left i false false (written w i r z).instrument
  unfolding write_register
  written_left r z =
      either (λ (s : Settled). Left i false false s.instrument) (shut i.outputs.mode r) untouched
      (either (Left i false false) (eqb r (at "I")) (record { reading = refl; max = refl; min = refl }) (record { reading = refl; max = refl; min = refl }))

  status_left : (b : ℕ) → Left i false false (write_status w i b)
  unfolding write_status
  status_left b = either (Left i false false) (bit b 4) (record { reading = refl; max = refl; min = refl }) (record { reading = refl; max = refl; min = refl })

  carried_left : (a : Asked) → Left i (is_reset (at "C") a) (is_reset (at "D") a) (leaves (effects.carried t w i a))
  carried_left (Read r) = untouched
  carried_left Print = untouched
  carried_left (Reset r) = resets_left r
  carried_left (Write r z) = written_left r z
  carried_left (Status b) = status_left b
  carried_left BadString = untouched

  node_left : (same : Bool) (a : Asked) (other : Effect) → leaves other ≡ i → Left i (same && is_reset (at "C") a) (same && is_reset (at "D") a) (leaves (cond same (effects.carried t w i a) other))
  node_left true a other e = carried_left a
  node_left false a other e = rw e untouched

  told_left : (p : Parsed) → Left i (reset_to (nat_abs t.node) (at "C") p) (reset_to (nat_abs t.node) (at "D") p) (leaves (effects.addressed t w i p))
  told_left None = untouched
  told_left (Some (n, a)) = node_left (eqb n (nat_abs t.node)) a _ refl

  -- ---- a key

  pressed_left : (k : ℤ) → Left i (eq_z k (pos 3)) (eq_z k (pos 4)) (leaves (effects.pressed t w i k))
  unfolding reset_register
  pressed_left k =
      let P : Effect → Type 0 = λ e. Left i (eq_z k (pos 3)) (eq_z k (pos 4)) (leaves e) in
      chosen P (eq_z k (pos 1)) (λ e. rw (eq_z_true k (pos 1) e) (either (λ s. Left i false false (leaves (stands s))) w.totalizer.batch (record { reading = refl; max = refl; min = refl }) untouched))
      (λ _. chosen P (eq_z k (pos 2)) (λ e. rw (eq_z_true k (pos 2) e) (record { reading = refl; max = refl; min = refl }))
      (λ _. chosen P (eq_z k (pos 3)) (λ e. rw (eq_z_true k (pos 3) e) (record { reading = refl; max = refl; min = refl }))
      (λ c. chosen P (eq_z k (pos 4)) (λ e. rw (eq_z_true k (pos 4) e) (record { reading = refl; max = refl; min = refl }))
      (λ d. chosen P (eq_z k (pos 5)) (λ e. rw (eq_z_true k (pos 5) e) (record { reading = refl; max = refl; min = refl }))
      (λ _. chosen P (eq_z k (pos 6)) (λ e. rw (eq_z_true k (pos 6) e) untouched)
      (λ _. rw (c, d) untouched))))))

-- ---- the kept list

-- an event more, or none
held_more : (side : Side) (capture : ℤ) (t : Bool) (r : Reading) (h : List Event) → held side capture (resetting t r h) ≡ cond t (reset r) (held side capture h)
unfolding held
held_more side capture true r h = refl
held_more side capture false r h = refl

record Holds (c : Config) (ks : List Entry) : Type 0 where
  reading : (given c ks).measured.reading ≡ present c ks
  max : (given c ks).measured.max ≡ held Max c.working.capture (to_max c ks)
  min : (given c ks).measured.min ≡ held Min c.working.capture (to_min c ks)

-- what leaves its reading, and max and min but for their resets
after_left : (c : Config) (ks : List Entry) (a b : Bool) (j : Instrument) → Left (given c ks) a b j → Holds c ks
    → (j.measured.reading ≡ present c ks) × (j.measured.max ≡ held Max c.working.capture (resetting a (present c ks) (to_max c ks))) × (j.measured.min ≡ held Min c.working.capture (resetting b (present c ks) (to_min c ks)))
after_left c ks a b j l p = (
  l.reading ∙ p.reading,
  (rw (p.reading, p.max) at l.max) ∙ sym (held_more Max c.working.capture a (present c ks) (to_max c ks)),
  (rw (p.reading, p.min) at l.min) ∙ sym (held_more Min c.working.capture b (present c ks) (to_min c ks)),
)

holds : (c : Config) (ks : List Entry) → Holds c ks
unfolding held
holds c [] = record { reading = refl; max = refl; min = refl }
holds c (measured x ∷ ks) = let p = holds c ks in record { reading = refl; max = rw p.max; min = rw p.min }
holds c (pressed k ∷ ks) =
    let l = after_left c ks (eq_z k (pos 3)) (eq_z k (pos 4)) _ (pressed_left c.talking c.working (given c ks) k) (holds c ks) in
    record { reading = l.0; max = l.1; min = l.2 }
holds c (told s ∷ ks) =
    let l = after_left c ks _ _ _ (told_left c.talking c.working (given c ks) (parse s)) (holds c ks) in
    record { reading = l.0; max = l.1; min = l.2 }

pub captured : (c : Config) → judged c ≡ Accepted → (h : History) → Captured c h
captured c accepted h =
    let p = holds c (kept c h) in
    let is = (looking c accepted).holds h in
    record {
      max = ap (λ (i : Instrument). i.measured.max) is ∙ p.max;
      min = ap (λ (i : Instrument). i.measured.min) is ∙ p.min;
      max_takes = takes_closest Max c.working.capture (to_max c (kept c h));
      min_takes = takes_closest Min c.working.capture (to_min c (kept c h));
    }
