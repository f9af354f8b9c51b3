-- What V, R and VJ make of the four alarms, said alarm by alarm.
use Rattle.std.specs.Prelude.{◌≡◌, true, false, List, ℕ, ◌<◌, length}
use Rattle.alarm.specs.Alarm.{reset}
use Rattle.alarm.specs.declared.Alarm.{Alarm}
use Rattle.alarms.specs.Alarms.{alarm_at, bit, setpoint_in}

-- alarm k of n is a, and every other is that of l
pub record OneAlarm (l n : List Alarm) (k : ℕ) (a : Alarm) : Type 0 where
  pub own : alarm_at n k ≡ a
  pub others : (j : ℕ) → (j ≡ k → ⊥) → alarm_at n j ≡ alarm_at l j

-- an alarm whose bit is 1 stays as it is, any other is reset
pub record ByBits (b : ℕ) (l n : List Alarm) : Type 0 where
  pub four : length n ≡ 4
  pub stays : (k : ℕ) → k < 4 → bit b k ≡ true → alarm_at n k ≡ alarm_at l k
  pub resets : (k : ℕ) → k < 4 → bit b k ≡ false → alarm_at n k ≡ reset (alarm_at l k)

-- the bits of n are the alarms that are on
pub record IsOnBits (l : List Alarm) (n : ℕ) : Type 0 where
  pub bits : (k : ℕ) → k < 4 → bit n k ≡ (alarm_at l k).on
  pub small : n < 16

-- every setpoint can be displayed
pub record Sound (l : List Alarm) : Type 0 where
  pub setpoints : (k : ℕ) → k < 4 → setpoint_in l k ≡ true
