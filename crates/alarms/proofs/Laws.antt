-- What a sample, V, R and VJ make of the four alarms, alarm by alarm. Assumes nothing.
use native.Mathlib.Omega.{arith}
use mathlib.Core.Path.{◌≡◌, refl, sym, ap, ◌∙◌}
use mathlib.Core.Bool.{Bool, true, false}
use mathlib.Core.List.{List}
use Prim.Native.Nat.{ℕ, ◌/◌, ◌%◌, ◌<◌}
use lib.Dec.{eqb}
use lib.IntN.{ℤ, pos}
use lib.ListN.{length, set}
use lib.Seq.{ext_get_or, get_or-set_same, get_or-set_other, set-get_or}
use Rattle.reading.specs.declared.Reading.{Reading}
use Rattle.alarm.specs.Alarm.{alarm, off, reset, written}
use Rattle.alarm.specs.declared.Alarm.{Alarm}
use Rattle.alarm.specs.declared.Settings.{Settings}
use Rattle.alarm.proofs.Laws as one_alarm
use Rattle.alarms.specs.Alarms.{alarm_at, sampled_at, all_sampled, reset_at, written_at, bit, reset_by_bits, setpoint_of}
use Rattle.alarms.specs.Meaning.{OneAlarm, ByBits}
use Rattle.alarms.proofs.Four.{each_of_four}

-- ---- a sample

module _ (settings : List Settings) (l : List Alarm) (r : Reading) where
  -- alarm k after a sample depends on alarm k and its settings alone
  pub at_each : (k : ℕ) → k < 4 → alarm_at (all_sampled settings l r) k ≡ sampled_at settings l r k
  unfolding all_sampled
  at_each = each_of_four (λ (k : ℕ). alarm_at (all_sampled settings l r) k ≡ sampled_at settings l r k) refl refl refl refl

  -- there are four of them
  pub four : length (all_sampled settings l r) ≡ 4
  unfolding all_sampled
  four = refl

-- ---- V and R of one alarm

-- a setpoint's present value changes nothing
pub present_setpoint : (l : List Alarm) (k : ℕ) → written_at l k (setpoint_of l k) ≡ l
present_setpoint l k = ap (set l k) (one_alarm.same_setpoint (alarm_at l k)) ∙ set-get_or l k (off (pos 0))

module _ (l : List Alarm) (k : ℕ) (all : length l ≡ 4) (h : k < 4) where
  -- an alarm put in its place is there, and the others stand
  put : (a : Alarm) → OneAlarm l (set l k a) k a
  put a =
      record {
        own = get_or-set_same l k a (off (pos 0)) (omega arith);
        others = λ j n. get_or-set_other l k j a (off (pos 0)) n;
      }

  -- a reset of one alarm touches no other
  pub reset_one : OneAlarm l (reset_at l k) k (reset (alarm_at l k))
  reset_one = put (reset (alarm_at l k))

  -- nor does a written setpoint
  pub written_one : (z : ℤ) → OneAlarm l (written_at l k z) k (written (alarm_at l k) z)
  written_one z = put (written (alarm_at l k) z)

  -- a new setpoint makes that alarm's run 0 and leaves its state
  pub new_setpoint : (z : ℤ) → (z ≡ setpoint_of l k → ⊥) → OneAlarm l (written_at l k z) k (alarm z (alarm_at l k).on 0)
  new_setpoint z n = rw (← one_alarm.new_setpoint (alarm_at l k) z n) (written_one z)

-- ---- VJ

-- every alarm whose bit is 1 stays as it is, and every other is reset
pub reset_by_bits_is : (b : ℕ) (l : List Alarm) → ByBits b l (reset_by_bits b l)
reset_by_bits_is b l =
    record {
      four = refl;
      stays = each_of_four (λ (k : ℕ). bit b k ≡ true → alarm_at (reset_by_bits b l) k ≡ alarm_at l k) (λ e. rw e) (λ e. rw e) (λ e. rw e) (λ e. rw e);
      resets = each_of_four (λ (k : ℕ). bit b k ≡ false → alarm_at (reset_by_bits b l) k ≡ reset (alarm_at l k)) (λ e. rw e) (λ e. rw e) (λ e. rw e) (λ e. rw e);
    }

-- and nothing else is so
pub reset_by_bits_only : (b : ℕ) (l n : List Alarm) → ByBits b l n → n ≡ reset_by_bits b l
reset_by_bits_only b l n u =
    ext_get_or (off (pos 0)) n (reset_by_bits b l) u.four (λ k h. at k (omega (arith, u.four)) (bit b k) refl)
  where
    at : (k : ℕ) → k < 4 → (t : Bool) → bit b k ≡ t → alarm_at n k ≡ alarm_at (reset_by_bits b l) k
    at k h true e = u.stays k h e ∙ sym ((reset_by_bits_is b l).stays k h e)
    at k h false e = u.resets k h e ∙ sym ((reset_by_bits_is b l).resets k h e)

-- bits 5 to 7 make no difference
pub upper_bits : (b : ℕ) (l : List Alarm) → reset_by_bits b l ≡ reset_by_bits (b % 32) l
upper_bits b l =
    rw (
      same (b / 1 % 2) (b % 32 / 1 % 2) (omega arith),
      same (b / 2 % 2) (b % 32 / 2 % 2) (omega arith),
      same (b / 4 % 2) (b % 32 / 4 % 2) (omega arith),
      same (b / 8 % 2) (b % 32 / 8 % 2) (omega arith),
    )
  where
    same : (m n : ℕ) → m ≡ n → eqb m 1 ≡ eqb n 1
    same m n e = ap (λ (k : ℕ). eqb k 1) e
