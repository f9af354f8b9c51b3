-- The four alarms together: each by its own settings and state alone.
use Rattle.std.specs.Prelude.{Bool, cond, ◌&&◌, List, [], ◌∷◌, ℕ, ◌+◌, ◌/◌, ◌%◌, ◌^◌, eqb, ℤ, pos, get_or, set}
use Rattle.reading.specs.Reading.{in_display}
use Rattle.reading.specs.declared.Reading.{Reading}
use Rattle.alarm.specs.Alarm.{off, no_settings, sampled, reset, written}
use Rattle.alarm.specs.declared.Alarm.{Alarm}
use Rattle.alarm.specs.declared.Settings.{Settings}

-- alarm k of four, and its settings; beyond the four stands one that is never met
abbrev pub alarm_at : List Alarm → ℕ → Alarm
alarm_at l k = get_or l k (off (pos 0))

abbrev pub settings_at : List Settings → ℕ → Settings
settings_at s k = get_or s k no_settings

-- ---- what changes them

-- power-up: all off, with the setpoints of the configuration
abbrev pub off_at : List ℤ → ℕ → Alarm
off_at setpoints k = off (get_or setpoints k (pos 0))

abbrev pub powered_up : List ℤ → List Alarm
powered_up setpoints = off_at setpoints 0 ∷ off_at setpoints 1 ∷ off_at setpoints 2 ∷ off_at setpoints 3 ∷ []

-- a sample
abbrev pub sampled_at : List Settings → List Alarm → Reading → ℕ → Alarm
sampled_at settings l r k = sampled (settings_at settings k) (alarm_at l k) r

unfoldable pub all_sampled : List Settings → List Alarm → Reading → List Alarm
all_sampled settings l r = sampled_at settings l r 0 ∷ sampled_at settings l r 1 ∷ sampled_at settings l r 2 ∷ sampled_at settings l r 3 ∷ []

-- a reset of one, and of all
abbrev pub reset_at : List Alarm → ℕ → List Alarm
reset_at l k = set l k (reset (alarm_at l k))

abbrev pub all_reset : List Alarm → List Alarm
all_reset l = reset_at (reset_at (reset_at (reset_at l 0) 1) 2) 3

-- a setpoint that is written
abbrev pub written_at : List Alarm → ℕ → ℤ → List Alarm
written_at l k z = set l k (written (alarm_at l k) z)

-- bit k of a byte
abbrev pub bit : ℕ → ℕ → Bool
bit b k = eqb (b / 2 ^ k % 2) 1

-- each alarm whose bit is 0 is reset
abbrev pub kept_or_reset : ℕ → List Alarm → ℕ → Alarm
kept_or_reset b l k = cond (bit b k) (alarm_at l k) (reset (alarm_at l k))

abbrev pub reset_by_bits : ℕ → List Alarm → List Alarm
reset_by_bits b l = kept_or_reset b l 0 ∷ kept_or_reset b l 1 ∷ kept_or_reset b l 2 ∷ kept_or_reset b l 3 ∷ []

-- ---- what is shown of them

abbrev pub setpoint_of : List Alarm → ℕ → ℤ
setpoint_of l k = (alarm_at l k).setpoint

abbrev pub setpoints : List Alarm → List ℤ
setpoints l = setpoint_of l 0 ∷ setpoint_of l 1 ∷ setpoint_of l 2 ∷ setpoint_of l 3 ∷ []

-- the alarms that are on, as bits 0 to 3
abbrev pub on_bit : List Alarm → ℕ → ℕ
on_bit l k = cond (alarm_at l k).on (2 ^ k) 0

unfoldable pub on_bits : List Alarm → ℕ
on_bits l = on_bit l 0 + on_bit l 1 + on_bit l 2 + on_bit l 3

-- ---- what showing them leans on: each of the four setpoints can be displayed

abbrev pub setpoint_in : List Alarm → ℕ → Bool
setpoint_in l k = in_display (setpoint_of l k)

unfoldable pub sound : List Alarm → Bool
sound l = setpoint_in l 0 && setpoint_in l 1 && setpoint_in l 2 && setpoint_in l 3
