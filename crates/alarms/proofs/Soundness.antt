-- Soundness is kept: whatever changes the four alarms leaves setpoints that can be displayed. Assumes nothing.
use native.Mathlib.Omega.{arith}
use mathlib.Core.Path.{◌≡◌, ap, ◌∙◌}
use mathlib.Core.Bool.{true, ◌&&◌}
use mathlib.Core.List.{List, [], ◌∷◌}
use Prim.Native.Nat.{ℕ, zero, suc, ◌<◌}
use lib.IntN.{ℤ, pos}
use lib.ListN.{get_or, set}
use Rattle.exact.specs.Sign.{eq_z}
use Rattle.exact.proofs.Z.{both, either}
use Rattle.reading.specs.Reading.{in_display}
use Rattle.reading.specs.declared.Reading.{Reading}
use Rattle.alarm.specs.Alarm.{reset, written}
use Rattle.alarm.specs.declared.Alarm.{Alarm}
use Rattle.alarm.specs.declared.Settings.{Settings}
use Rattle.alarm.proofs.Laws.{setpoint_stays}
use Rattle.alarms.specs.Alarms.{alarm_at, settings_at, powered_up, all_sampled, reset_at, all_reset, written_at, bit, kept_or_reset, reset_by_bits, setpoint_in, sound}
use Rattle.alarms.specs.Meaning.{Sound}
use Rattle.alarms.proofs.Four.{each_of_four}
use Rattle.alarms.proofs.Laws.{at_each}

-- ---- the test and what it means

module _ (l : List Alarm) where
  -- alarms that pass the test are sound
  pub tested : sound l ≡ true → Sound l
  unfolding sound
  tested e =
      let fourth = both (setpoint_in l 0 && setpoint_in l 1 && setpoint_in l 2) (setpoint_in l 3) e in
      let third = both (setpoint_in l 0 && setpoint_in l 1) (setpoint_in l 2) fourth.0 in
      let second = both (setpoint_in l 0) (setpoint_in l 1) third.0 in
      record { setpoints = each_of_four (λ (k : ℕ). setpoint_in l k ≡ true) second.0 second.1 third.1 fourth.1 }

  -- and sound alarms pass it
  pub passes : Sound l → sound l ≡ true
  unfolding sound
  passes p =
      rw (p.setpoints 0 (omega arith), p.setpoints 1 (omega arith), p.setpoints 2 (omega arith), p.setpoints 3 (omega arith))

-- ---- power-up

pub powered_up_sound : (setpoints : List ℤ) → ((k : ℕ) → k < 4 → in_display (get_or setpoints k (pos 0)) ≡ true) → Sound (powered_up setpoints)
powered_up_sound setpoints e =
    record {
      setpoints = each_of_four (λ (k : ℕ). setpoint_in (powered_up setpoints) k ≡ true) (e 0 (omega arith)) (e 1 (omega arith)) (e 2 (omega arith)) (e 3 (omega arith));
    }

-- ---- one alarm

-- an alarm put in its place leaves the other setpoints
set_setpoints : (l : List Alarm) (k : ℕ) (a : Alarm) → in_display a.setpoint ≡ true → (j : ℕ) → setpoint_in l j ≡ true → setpoint_in (set l k a) j ≡ true
set_setpoints [] k a e j h = h
set_setpoints (x ∷ l) zero a e zero h = e
set_setpoints (x ∷ l) zero a e (suc j) h = h
set_setpoints (x ∷ l) (suc k) a e zero h = h
set_setpoints (x ∷ l) (suc k) a e (suc j) h = set_setpoints l k a e j h

put_sound : (l : List Alarm) (k : ℕ) (a : Alarm) → Sound l → in_display a.setpoint ≡ true → Sound (set l k a)
put_sound l k a p e = record { setpoints = λ j h. set_setpoints l k a e j (p.setpoints j h) }

reset_setpoint : (a : Alarm) → in_display a.setpoint ≡ true → in_display (reset a).setpoint ≡ true
unfolding reset
reset_setpoint a e = e

written_setpoint : (a : Alarm) (z : ℤ) → in_display z ≡ true → in_display a.setpoint ≡ true → in_display (written a z).setpoint ≡ true
unfolding written
written_setpoint a z e h = either (λ (x : Alarm). in_display x.setpoint ≡ true) (eq_z z a.setpoint) h e

-- ---- what changes them

module _ (l : List Alarm) (p : Sound l) where
  -- a sample, which changes no setpoint
  pub all_sampled_sound : (settings : List Settings) (r : Reading) → Sound (all_sampled settings l r)
  all_sampled_sound settings r =
      record {
        setpoints = λ k h.
            ap (λ (a : Alarm). in_display a.setpoint) (at_each settings l r k h)
            ∙ ap in_display (setpoint_stays (settings_at settings k) (alarm_at l k) r)
            ∙ p.setpoints k h;
      }

  -- a reset of one
  pub reset_at_sound : (k : ℕ) → k < 4 → Sound (reset_at l k)
  reset_at_sound k h = put_sound l k (reset (alarm_at l k)) p (reset_setpoint (alarm_at l k) (p.setpoints k h))

  -- a setpoint that can be displayed
  pub written_at_sound : (k : ℕ) (z : ℤ) → k < 4 → in_display z ≡ true → Sound (written_at l k z)
  written_at_sound k z h e =
      put_sound l k (written (alarm_at l k) z) p (written_setpoint (alarm_at l k) z e (p.setpoints k h))

  -- VJ
  pub reset_by_bits_sound : (b : ℕ) → Sound (reset_by_bits b l)
  reset_by_bits_sound b =
      record {
        setpoints = each_of_four (λ (k : ℕ). setpoint_in (reset_by_bits b l) k ≡ true) (one 0 (omega arith)) (one 1 (omega arith)) (one 2 (omega arith)) (one 3 (omega arith));
      }
    where
      one : (k : ℕ) → k < 4 → in_display (kept_or_reset b l k).setpoint ≡ true
      one k h =
          either (λ (a : Alarm). in_display a.setpoint ≡ true) (bit b k) (p.setpoints k h) (reset_setpoint (alarm_at l k) (p.setpoints k h))

-- a reset of all
pub all_reset_sound : (l : List Alarm) → Sound l → Sound (all_reset l)
all_reset_sound l p =
    let first = reset_at_sound l p 0 (omega arith) in
    let second = reset_at_sound (reset_at l 0) first 1 (omega arith) in
    let third = reset_at_sound (reset_at (reset_at l 0) 1) second 2 (omega arith) in
    reset_at_sound (reset_at (reset_at (reset_at l 0) 1) 2) third 3 (omega arith)
