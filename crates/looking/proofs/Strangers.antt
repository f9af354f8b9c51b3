-- A string for another node empties the receiver and does nothing else, and whatever draws a reply is key 6 or a read for this node.
use mathlib.Core.Path.{◌≡◌, refl, sym, ap, subst, ◌∙◌}
use mathlib.Core.Bool.{Bool, true, false, cond}
use mathlib.Core.List.{List}
use mathlib.Core.Logic.{◌≢◌}
use mathlib.Core.Option.{some}
use Prim.Native.Nat.{ℕ, ◌≤◌}
use native.Mathlib.Omega.{arith}
use borrow.Author.Tests.{ne_eqb, eqb-true, ltb-false}
use lib.Dec.{eqb}
use lib.IntN.{ℤ, pos, nat_abs}
use lib.ListN.{length}
use Rattle.exact.specs.Sign.{eq_z}
use Rattle.exact.proofs.Z.{either, eq_z_true}
use Rattle.config.specs.Config.{judged}
use Rattle.config.specs.declared.Config.{Config}
use Rattle.config.specs.declared.Talking.{Talking}
use Rattle.config.specs.declared.Working.{Working}
use Rattle.config.specs.Verdict.{Accepted}
use Rattle.receiver.specs.Receiver.{bytes, too_long, ends, drops, limit, over, kind, heard}
use Rattle.receiver.specs.Since.{ending, hearing}
use Rattle.receiver.specs.declared.Kind.TheVariants.{End, Drop, Part}
use Rattle.command.specs.Addressed as addresses
use Rattle.command.specs.Addressed.{parsed_node}
use Rattle.command.proofs.Addressed.{parsed_node_lem}
use Rattle.command.specs.Parse.{parse}
use Rattle.command.specs.declared.Asked.{Asked}
use Rattle.command.specs.declared.Asked.TheVariants.{Read, Print, Reset, Write, Status, BadForm}
use Rattle.command.specs.Parse.{Parsed}
use Rattle.std.specs.Prelude.{None, Some}
use Rattle.form.specs.Grammar.{Says}
use Rattle.form.proofs.Meaning.{asked}
use Rattle.instrument.specs.Instrument.{shut}
use Rattle.instrument.specs.declared.Instrument.{Instrument}
use Rattle.effect.specs.Effect.{Effect, stands, replies, settled, settle, written, carried, addressed, pressed}
use Rattle.effect.specs.declared.Settled.{Settled}
use Rattle.answer.specs.Answer.{number}
use Rattle.answer.specs.declared.Answer.TheVariants.{Done, Stored, OtherNode, Dropped, TooLong, UnknownKey, NotStarted}
use Rattle.meter.specs.Door.{sound, hears, reach_of}
use Rattle.meter.specs.Meter.{outcome, Step, step, takes, settled_in, by_kind, received}
use Rattle.meter.specs.declared.Held.{Held}
use Rattle.meter.specs.declared.Meter.{Meter}
use Rattle.promises.specs.Rows as rows
use Rattle.promises.specs.Rows.{emptied}
use Rattle.promises.proofs.Door.{stands_open, keyed_in, received_in, received_as, ended_as, at_end}
use Rattle.looking.specs.History.{Event, sample, key, byte, History, outcome_of, meter_after, node_of, half}
use Rattle.looking.specs.Kept.{prints}
use Rattle.looking.specs.Sent as sent
use Rattle.looking.specs.Sent.{Reads}
use Rattle.looking.specs.Looking.{Draws}
use Rattle.looking.proofs.Ends.{end_kind, part_kind, drop_kind}
use Rattle.looking.proofs.State.{sound_after, heard_after, config_after}

-- ── a string for another node ──

other_parsed : (m : Meter) (p : Parsed) (n : ℕ) → parsed_node p ≡ some n → n ≢ rows.node_of m
    → addressed m.config.talking m.config.working m.instrument p ≡ stands (settled OtherNode m.instrument)
other_parsed m None n e d = absurd (let z : ◌≡◌ {A = ℕ} 0 1 = cc in omega arith)
other_parsed m (Some (k, a)) n e d = let q : k ≡ n = cc in rw (ne_eqb k (rows.node_of m) (λ r. d (sym q ∙ r)))

other_ended : (m : Meter) (s : List ℕ) (n : ℕ) (t : Bool) → addresses.addressed s ≡ some n → n ≢ rows.node_of m
    → ended_as m (cond t too_long (bytes s)) ≡ stands (settled (cond t TooLong OtherNode) m.instrument)
other_ended m s n true e d = refl
other_ended m s n false e d = other_parsed m (parse s) n (parsed_node_lem s ∙ e) d

-- ── what draws a reply ──

found : (s : List ℕ) (n : ℕ) (a : Asked) → parse s ≡ Some (n, a) → a ≢ BadForm → Says s n a
found s n a p h = (asked s n a).1 (p, h)

module _ (t : Talking) (w : Working) (i : Instrument) (buffer : List ℕ) (place : ℕ) where
  abbrev node : ℕ
  node = nat_abs t.node

  -- where an effect draws a reply, X holds
  abbrev Drawn : Type 0 → Effect → Type 0
  Drawn X e = number (settle i e buffer place).settled.answer ≡ 2 → X

  -- what is settled as it stands draws none
  abbrev Silent : Settled → Type 0
  Silent s = number s.answer ≢ 2

  write_silent : (r : ℕ) (z : ℤ) → Silent (written w i r z)
  write_silent r z = either Silent (shut i.outputs.mode r) (λ e. omega arith) (λ e. omega arith)

  drawn_asked : (s : List ℕ) (n : ℕ) (a : Asked) → parse s ≡ Some (n, a) → Drawn ((b : Asked) × Reads s n b) (carried t w i a)
  drawn_asked s n (Read r) p e = (Read r, sent.read (found s n (Read r) p (λ k. let z : ◌≡◌ {A = ℕ} 0 1 = cc in omega arith)))
  drawn_asked s n Print p e = (Print, sent.print (found s n Print p (λ k. let z : ◌≡◌ {A = ℕ} 0 1 = cc in omega arith)))
  drawn_asked s n (Reset r) p e = absurd (omega arith)
  drawn_asked s n (Write r z) p e = absurd (write_silent r z e)
  drawn_asked s n (Status b) p e = absurd (omega arith)
  drawn_asked s n BadForm p e = absurd (omega arith)

  drawn_node : (s : List ℕ) (n : ℕ) (a : Asked) (u : Bool) → parse s ≡ Some (n, a) → eqb n node ≡ u
      → Drawn ((b : Asked) × Reads s node b) (cond u (carried t w i a) (stands (settled OtherNode i)))
  drawn_node s n a true p q e = drawn_asked s node a (p ∙ ap (λ (k : ℕ). Some (k, a)) (eqb-true n node q)) e
  drawn_node s n a false p q e = absurd (omega arith)

  drawn_parsed : (s : List ℕ) (p : Parsed) → parse s ≡ p → Drawn ((b : Asked) × Reads s node b) (addressed t w i p)
  drawn_parsed s None p e = absurd (omega arith)
  drawn_parsed s (Some (n, a)) p e = drawn_node s n a (eqb n node) p refl e

  -- of keys 1 to 5 and of unknown ones none is answered by 2
  drawn_print : (reply : List ℕ) (u : Bool) → Drawn (u ≡ true) (cond u (replies reply i) (stands (settled UnknownKey i)))
  drawn_print reply true e = refl
  drawn_print reply false e = absurd (omega arith)

  abbrev ByKey : ℤ → Effect → Type 0
  ByKey k = Drawn (prints k ≡ true)

  drawn_key : (k : ℤ) → ByKey k (pressed t w i k)
  drawn_key k =
      either (ByKey k) (eq_z k (pos 1)) (λ e. absurd (either Silent w.totalizer.batch (λ q. omega arith) (λ q. omega arith) e))
      (either (ByKey k) (eq_z k (pos 2)) (λ e. absurd (omega arith))
      (either (ByKey k) (eq_z k (pos 3)) (λ e. absurd (omega arith))
      (either (ByKey k) (eq_z k (pos 4)) (λ e. absurd (omega arith))
      (either (ByKey k) (eq_z k (pos 5)) (λ e. absurd (omega arith))
      (drawn_print _ (prints k))))))

module _ (m : Meter) (s : List ℕ) (buffer : List ℕ) (place : ℕ) where
  drawn_end : (t : Bool) → over (length s) ≡ t
      → Drawn m.config.talking m.config.working m.instrument buffer place ((length s ≤ 32) × ((b : Asked) × Reads s (rows.node_of m) b)) (ended_as m (cond t too_long (bytes s)))
  drawn_end true q e = absurd (omega arith)
  drawn_end false q e = (ltb-false limit (length s) q, drawn_parsed m.config.talking m.config.working m.instrument buffer place s (parse s) refl e)

  drawn_kind : (n : Meter) (t u : Bool) → heard m.receiver ≡ hearing s
      → number (by_kind m n buffer place (cond t End (cond u Drop Part))).outcome.answer ≡ 2
      → (t ≡ true) × (length s ≤ 32) × ((a : Asked) × Reads s (rows.node_of m) a)
  drawn_kind n true u h e = let d = drawn_end (over (length s)) refl (rw (at_end m (hearing s) h) at e) in (refl, d.0, d.1)
  drawn_kind n false true h e = absurd (omega arith)
  drawn_kind n false false h e = absurd (omega arith)

  drawn_byte : (b : ℕ) → heard m.receiver ≡ hearing s → number (by_kind m (takes m b) buffer place (kind b)).outcome.answer ≡ 2
      → (ends b ≡ true) × (length s ≤ 32) × ((a : Asked) × Reads s (rows.node_of m) a)
  unfolding kind
  drawn_byte b h e = drawn_kind (takes m b) (ends b) (drops b) h e

sample_silent : (t : Bool) (m n : Meter) → number (cond t (outcome Done m) (outcome NotStarted n)).answer ≢ 2
sample_silent true m n e = omega arith
sample_silent false m n e = omega arith

-- the same step, answered alike
answers : {o p : Step} → o ≡ p → number o.outcome.answer ≡ 2 → number p.outcome.answer ≡ 2
answers q e = rw q at e

-- ── after a history ──

module _ (c : Config) (accepted : judged c ≡ Accepted) where
  node_after : (h : History) → rows.node_of (meter_after c h) ≡ node_of c
  node_after h = ap (λ (k : Held). nat_abs k.talking.node) (config_after c accepted h)

  pub coming_in : (h : History) (b place : ℕ) (buffer : List ℕ) → ending b ≡ false
      → received (meter_after c h) b buffer place ≡ step Stored (takes (meter_after c h) b) buffer
  coming_in h b place buffer e = received_as (meter_after c h) buffer place b Part (part_kind b e) (stands_open (meter_after c h) hears (sound_after c accepted h)) ∙ rw (part_kind b e)

  pub dropping : (h : History) (b place : ℕ) (buffer : List ℕ) → drops b ≡ true → received (meter_after c h) b buffer place ≡ step Dropped (emptied (meter_after c h)) buffer
  dropping h b place buffer e = received_as (meter_after c h) buffer place b Drop (drop_kind b e) (stands_open (meter_after c h) hears (sound_after c accepted h))

  pub other_node : (h : History) (n b place : ℕ) (buffer : List ℕ) → ends b ≡ true → addresses.addressed (half h) ≡ some n → n ≢ node_of c
      → received (meter_after c h) b buffer place ≡ step (cond (over (length (half h))) TooLong OtherNode) (emptied (meter_after c h)) buffer
  other_node h n b place buffer t e d =
      let m = meter_after c h in
      received_as m buffer place b End (end_kind b t) (sound_after c accepted h)
      ∙ ap (λ (f : Effect). settled_in (emptied m) (settle m.instrument f buffer place))
      (at_end m (hearing (half h)) (heard_after c accepted h) ∙ other_ended m (half h) n (over (length (half h))) e (λ q. d (q ∙ node_after h)))

  pub only_ours : (h : History) (e : Event) → number (outcome_of (meter_after c h) e).answer ≡ 2 → Draws c h e
  only_ours h (sample x) e = absurd (sample_silent (sound (meter_after c h)) _ _ e)
  only_ours h (key k place buffer) e =
      let m = meter_after c h in
      eq_z_true k (pos 6) (drawn_key m.config.talking m.config.working m.instrument buffer place k (answers (keyed_in m buffer place k (sound_after c accepted h)) e))
  only_ours h (byte b place buffer) e =
      let m = meter_after c h in
      let d = drawn_byte m (half h) buffer place b (heard_after c accepted h)
      (answers (received_in m buffer place b (stands_open m (reach_of (kind b)) (sound_after c accepted h))) e) in
      (d.0, d.1, (d.2.0, subst (λ (n : ℕ). Reads (half h) n d.2.0) (node_after h) d.2.1))
