-- Which keys and strings come to the total and to an alarm. Assumes nothing.
use mathlib.Core.Path.{◌≡◌, refl, sym, ap, ◌∙◌}
use mathlib.Core.Bool.{Bool, true, false, cond, not, ◌&&◌, ◌||◌}
use mathlib.Core.List.{List}
use mathlib.Core.Logic.{◌≢◌}
use mathlib.Core.Option.{Option, none, some}
use Prim.Native.Nat.{ℕ, ◌+◌, ◌≤◌}
use native.Mathlib.Omega.{arith}
use borrow.Author.Tests.{eq-eqb, eqb-true}
use lib.Dec.{eqb}
use lib.IntN.{ℤ, pos}
use lib.ListN.{length}
use Rattle.exact.specs.Sign.{eq_z}
use Rattle.exact.proofs.Z.{never, both, eq_z_true}
use Rattle.receiver.specs.Receiver.{ends, limit, over}
use Rattle.reading.specs.declared.Reading.{Reading}
use Rattle.total.specs.History as totals
use Rattle.alarm.specs.History as alarms
use Rattle.alarms.specs.Alarms.{bit}
use Rattle.register.specs.Registers.{at}
use Rattle.config.specs.declared.Config.{Config}
use Rattle.command.specs.Parse.{parse}
use Rattle.command.specs.declared.Asked.{Asked}
use Rattle.command.specs.declared.Asked.TheVariants.{Read, Print, Reset, Write, Status, BadForm}
use Rattle.command.specs.Parse.{Parsed}
use Rattle.std.specs.Prelude.{None, Some}
use Rattle.form.specs.Change.{alters, alters_at, change, VOrR, reset, write, status}
use Rattle.instrument.specs.Instrument.{read}
use Rattle.form.specs.Grammar.{Says}
use Rattle.form.proofs.Understood.{understood}
use Rattle.form.proofs.Meaning.{says_parse}
use Rattle.looking.specs.History.{Event, sample, key, byte, History, node_of, half}
use Rattle.looking.specs.Kept.{Entry, pressed, told, prints, keeps, kept}
use Rattle.looking.specs.Captured.{present}
use Rattle.extracts.specs.Events.{through, asks, asked_of_total, to_total, total_event, asked_of_alarm, to_alarm, alarm_event}
use Rattle.extracts.specs.Told.{Samples, read_as, Tells, tells, Batches, key_1, ResetsTotal, rb, key_2, ResetsAlarm, own, key_5, vj, Told}

no_some : {A X : Type 0} {x : A} → none ≡ some x → X
no_some {A} {X} {x} e = absurd (let z : ◌≡◌ {A = ℕ} 0 1 = cc in omega arith)

-- ---- strings

-- what is asked by a well-formed V or R to this meter
asked_by : (node : ℕ) (p : Parsed) → alters_at node p ≡ true → (a : Asked) × (p ≡ Some (node, a)) × (alters a ≡ true)
asked_by node None e = never e
asked_by node (Some (n, a)) e =
    let b = both (eqb n node) (alters a) e in
    (a, ap (λ (m : ℕ). Some (m, a)) (eqb-true n node b.0), b.1)

not_bad : (a : Asked) → alters a ≡ true → a ≢ BadForm
not_bad a e q = never (sym (ap alters q) ∙ e)

-- whatever an entry is to something, which takes of a string what it asks of this meter
module _ (c : Config) (h : History) {A : Type 0} (of : Entry → Option A) (f : Asked → Option A) (is : (s : List ℕ) → of (told s) ≡ through f (asks (node_of c) (parse s))) where
  -- it gets something of a string only where that string has told it
  string_tells : (x : A) (b place : ℕ) (buffer : List ℕ) → through of (cond (ends b && change (node_of c) (half h)) (some (told (half h))) none) ≡ some x
      → (a : Asked) × Tells c h a (byte b place buffer) × (f a ≡ some x)
  unfolding change
  string_tells x b place buffer = go (ends b && change (node_of c) (half h)) refl
    where
      go : (t : Bool) → (ends b && change (node_of c) (half h)) ≡ t → through of (cond t (some (told (half h))) none) ≡ some x
          → (a : Asked) × Tells c h a (byte b place buffer) × (f a ≡ some x)
      go true q e =
          let u = both (ends b) (change (node_of c) (half h)) q in
          let v = both (not (over (length (half h)))) (alters_at (node_of c) (parse (half h))) u.1 in
          let w = asked_by (node_of c) (parse (half h)) v.1 in
          let says = (understood.asked (half h) (node_of c) w.0).1 (w.1, not_bad w.0 w.2) in
          let short = ((understood.changes (half h) (node_of c)).0 u.1).short in
          (w.0, tells b place buffer u.0 (omega arith) says, rw (is (half h), w.1, eq-eqb (node_of c) (node_of c) refl) at e)
      go false q e = no_some e

  -- and there it gets what that string asks
  tells_string : (a : Asked) {e : Event} → (Says (half h) (node_of c) a → VOrR (half h) (node_of c)) → Tells c h a e → through of (keeps c (half h) e) ≡ f a
  tells_string a v (tells b place buffer q short says) =
      let fits : length (half h) ≤ limit = omega arith in
      rw (q, (understood.changes (half h) (node_of c)).1 (record { short = fits; says = v says }), is (half h), says_parse says, eq-eqb (node_of c) (node_of c) refl)

-- ---- what is asked

-- only RB comes to the total, and resets it
of_total : (a : Asked) (x : totals.Event) → asked_of_total a ≡ some x → (a ≡ Reset (at "B")) × (x ≡ totals.reset_key)
of_total (Read r) x e = no_some e
of_total Print x e = no_some e
of_total (Reset r) x e = go (eqb r (at "B")) refl e
  where
    go : (t : Bool) → eqb r (at "B") ≡ t → cond t (some totals.reset_key) none ≡ some x → (Reset r ≡ Reset (at "B")) × (x ≡ totals.reset_key)
    go true q e = (ap Reset (eqb-true r (at "B") q), cc)
    go false q e = no_some e
of_total (Write r z) x e = no_some e
of_total (Status b) x e = no_some e
of_total BadForm x e = no_some e

-- what comes to an alarm of what is asked
data OfAlarm (k : ℕ) : Asked → alarms.Event → Type 0 where
  by_reset : OfAlarm k (Reset (at "E" + k)) alarms.reset_key
  by_write : (z : ℤ) → OfAlarm k (Write (at "E" + k) z) (alarms.setpoint z)
  by_status : (b : ℕ) → bit b 4 ≡ false → bit b k ≡ false → OfAlarm k (Status b) alarms.reset_key

of_alarm : (k : ℕ) (a : Asked) (x : alarms.Event) → asked_of_alarm k a ≡ some x → OfAlarm k a x
of_alarm k (Read r) x e = no_some e
of_alarm k Print x e = no_some e
of_alarm k (Reset r) x e = go (eqb r (at "E" + k)) refl e
  where
    go : (t : Bool) → eqb r (at "E" + k) ≡ t → cond t (some alarms.reset_key) none ≡ some x → OfAlarm k (Reset r) x
    go true q e = let p : alarms.reset_key ≡ x = cc in rw (eqb-true r (at "E" + k) q, ← p) by_reset
    go false q e = no_some e
of_alarm k (Write r z) x e = go (eqb r (at "E" + k)) refl e
  where
    go : (t : Bool) → eqb r (at "E" + k) ≡ t → cond t (some (alarms.setpoint z)) none ≡ some x → OfAlarm k (Write r z) x
    go true q e = let p : alarms.setpoint z ≡ x = cc in rw (eqb-true r (at "E" + k) q, ← p) (by_write z)
    go false q e = no_some e
of_alarm k (Status b) x e = go (bit b 4) (bit b k) refl refl e
  where
    go : (t u : Bool) → bit b 4 ≡ t → bit b k ≡ u → cond (t || u) none (some alarms.reset_key) ≡ some x → OfAlarm k (Status b) x
    go true u p q e = no_some e
    go false true p q e = no_some e
    go false false p q e = let r : alarms.reset_key ≡ x = cc in rw (← r) (by_status b p q)
of_alarm k BadForm x e = no_some e

-- ---- events

module _ (c : Config) (h : History) where
  abbrev now : Reading
  now = present c (kept c h)

  -- key 6, of which nothing is kept, is nothing to them as a key
  key_total : (n : ℤ) → through (to_total c now) (cond (prints n) none (some (pressed n))) ≡ to_total c now (pressed n)
  key_total n = go (prints n) refl
    where
      go : (t : Bool) → prints n ≡ t → through (to_total c now) (cond t none (some (pressed n))) ≡ to_total c now (pressed n)
      go true e = rw (eq_z_true n (pos 6) e)
      go false e = refl

  key_alarm : (k : ℕ) (n : ℤ) → through (to_alarm c k) (cond (prints n) none (some (pressed n))) ≡ to_alarm c k (pressed n)
  key_alarm k n = go (prints n) refl
    where
      go : (t : Bool) → prints n ≡ t → through (to_alarm c k) (cond t none (some (pressed n))) ≡ to_alarm c k (pressed n)
      go true e = rw (eq_z_true n (pos 6) e)
      go false e = refl

  -- ---- the total

  -- what comes to it, by what event
  abbrev Comes : Event → totals.Event → Type 0
  Comes e (totals.sample r) = Samples c h r e
  Comes e (totals.batch_key r) = Batches c h r e
  Comes e totals.reset_key = ResetsTotal c h e

  total_key : (n : ℤ) (place : ℕ) (buffer : List ℕ) (x : totals.Event) → to_total c now (pressed n) ≡ some x → Comes (key n place buffer) x
  total_key n place buffer x = go (eq_z n (pos 1)) c.working.totalizer.batch (eq_z n (pos 2)) refl refl refl
    where
      go : (t u v : Bool) → eq_z n (pos 1) ≡ t → c.working.totalizer.batch ≡ u → eq_z n (pos 2) ≡ v
          → cond (t && u) (some (totals.batch_key now)) (cond v (some totals.reset_key) none) ≡ some x → Comes (key n place buffer) x
      go true true v p q r e = let s : totals.batch_key now ≡ x = cc in rw (← s, eq_z_true n (pos 1) p) (key_1 place buffer q refl)
      go true false true p q r e = let s : totals.reset_key ≡ x = cc in rw (← s, eq_z_true n (pos 2) r) (key_2 place buffer)
      go true false false p q r e = no_some e
      go false u true p q r e = let s : totals.reset_key ≡ x = cc in rw (← s, eq_z_true n (pos 2) r) (key_2 place buffer)
      go false u false p q r e = no_some e

  total_comes : (e : Event) (x : totals.Event) → total_event c h e ≡ some x → Comes e x
  total_comes (sample y) x e = let s : totals.sample (read c.scale y) ≡ x = cc in rw (← s) (read_as y refl)
  total_comes (key n place buffer) x e = total_key n place buffer x (sym (key_total n) ∙ e)
  total_comes (byte b place buffer) x e =
      let t = string_tells c h (to_total c now) asked_of_total (λ s. refl) x b place buffer e in
      let o = of_total t.0 x t.2 in
      rw o.1 (rb (rw o.0 at t.1))

  sampled_total : {e : Event} (r : Reading) → Samples c h r e → total_event c h e ≡ some (totals.sample r)
  sampled_total r (read_as x q) = rw q

  batched_total : {e : Event} (r : Reading) → Batches c h r e → total_event c h e ≡ some (totals.batch_key r)
  batched_total r (key_1 place buffer b q) = rw (q, b)

  reset_total : {e : Event} → ResetsTotal c h e → total_event c h e ≡ some totals.reset_key
  reset_total (rb t) = tells_string c h (to_total c now) asked_of_total (λ s. refl) (Reset (at "B")) reset t
  reset_total (key_2 place buffer) = refl

  -- ---- an alarm

  module _ (k : ℕ) where
    abbrev ComesTo : Event → alarms.Event → Type 0
    ComesTo e (alarms.sample r) = Samples c h r e
    ComesTo e alarms.reset_key = ResetsAlarm c h k e
    ComesTo e (alarms.setpoint z) = Tells c h (Write (at "E" + k) z) e

    alarm_string : {e : Event} {a : Asked} {x : alarms.Event} → Tells c h a e → OfAlarm k a x → ComesTo e x
    alarm_string t by_reset = own t
    alarm_string t (by_write z) = t
    alarm_string t (by_status b p q) = vj b p q t

    alarm_key : (n : ℤ) (place : ℕ) (buffer : List ℕ) (x : alarms.Event) → to_alarm c k (pressed n) ≡ some x → ComesTo (key n place buffer) x
    alarm_key n place buffer x = go (eq_z n (pos 5)) refl
      where
        go : (t : Bool) → eq_z n (pos 5) ≡ t → cond t (some alarms.reset_key) none ≡ some x → ComesTo (key n place buffer) x
        go true p e = let s : alarms.reset_key ≡ x = cc in rw (← s, eq_z_true n (pos 5) p) (key_5 place buffer)
        go false p e = no_some e

    alarm_comes : (e : Event) (x : alarms.Event) → alarm_event c k h e ≡ some x → ComesTo e x
    alarm_comes (sample y) x e = let s : alarms.sample (read c.scale y) ≡ x = cc in rw (← s) (read_as y refl)
    alarm_comes (key n place buffer) x e = alarm_key n place buffer x (sym (key_alarm k n) ∙ e)
    alarm_comes (byte b place buffer) x e =
        let t = string_tells c h (to_alarm c k) (asked_of_alarm k) (λ s. refl) x b place buffer e in
        alarm_string t.1 (of_alarm k t.0 x t.2)

    sampled_alarm : {e : Event} (r : Reading) → Samples c h r e → alarm_event c k h e ≡ some (alarms.sample r)
    sampled_alarm r (read_as x q) = rw q

    reset_alarm : {e : Event} → ResetsAlarm c h k e → alarm_event c k h e ≡ some alarms.reset_key
    reset_alarm (own t) =
        tells_string c h (to_alarm c k) (asked_of_alarm k) (λ s. refl) (Reset (at "E" + k)) reset t ∙ rw (eq-eqb (at "E" + k) (at "E" + k) refl)
    reset_alarm (key_5 place buffer) = refl
    reset_alarm (vj b p q t) = tells_string c h (to_alarm c k) (asked_of_alarm k) (λ s. refl) (Status b) status t ∙ rw (p, q)

    written_alarm : (z : ℤ) {e : Event} → Tells c h (Write (at "E" + k) z) e → alarm_event c k h e ≡ some (alarms.setpoint z)
    written_alarm z t =
        tells_string c h (to_alarm c k) (asked_of_alarm k) (λ s. refl) (Write (at "E" + k) z) write t ∙ rw (eq-eqb (at "E" + k) (at "E" + k) refl)

  pub are_told : Told c h
  are_told =
      record {
        total_sampled = λ e r. (total_comes e (totals.sample r), sampled_total r);
        total_batched = λ e r. (total_comes e (totals.batch_key r), batched_total r);
        total_reset = λ e. (total_comes e totals.reset_key, reset_total);
        alarm_sampled = λ k e r. (alarm_comes k e (alarms.sample r), sampled_alarm k r);
        alarm_reset = λ k e. (alarm_comes k e alarms.reset_key, reset_alarm k);
        alarm_written = λ k e z. (alarm_comes k e (alarms.setpoint z), written_alarm k z);
      }
