-- One alarm, as document 01 has it.
use Rattle.std.specs.Prelude.{Bool, true, false, cond, not, ◌&&◌, ℕ, ℤ, pos, ◌+ℤ◌, ◌-ℤ◌}
use Rattle.std.specs.Int.Signed.{le_z, lt_z}
use Rattle.exact.specs.Sign.{eq_z}
use Rattle.reading.specs.declared.Reading.{Reading}
use Rattle.reading.specs.declared.Reading.TheVariants.{Nothing, Under, Number, Over}
use Rattle.run.specs.Run.{samples, counted}
use Rattle.run.specs.declared.Run.{Run}
use Rattle.run.specs.declared.Run.TheVariants.{Broken, Going, Complete}
use Rattle.alarm.specs.declared.Settings.{Settings}
use Rattle.alarm.specs.declared.Alarm.{Alarm}

-- ---- a reading against a number: Over lies above every number, Under below, and nothing on no side

-- reading > z
unfoldable pub above : Reading → ℤ → Bool
above Nothing z = false
above Under z = false
above (Number v) z = lt_z z v
above Over z = true

-- reading < z
unfoldable pub below : Reading → ℤ → Bool
below Nothing z = false
below Under z = true
below (Number v) z = lt_z v z
below Over z = false

-- reading ≤ z
unfoldable pub at_most : Reading → ℤ → Bool
at_most Nothing z = false
at_most Under z = true
at_most (Number v) z = le_z v z
at_most Over z = false

-- reading ≥ z
unfoldable pub at_least : Reading → ℤ → Bool
at_least Nothing z = false
at_least Under z = false
at_least (Number v) z = le_z z v
at_least Over z = true

-- ---- the conditions

-- high acting: reading > setpoint; low acting: reading < setpoint
unfoldable pub on_condition : Settings → Alarm → Reading → Bool
on_condition s a r = cond s.low_acting (below r a.setpoint) (above r a.setpoint)

-- high acting: reading ≤ setpoint - hysteresis; low acting: reading ≥ setpoint + hysteresis
unfoldable pub off_condition : Settings → Alarm → Reading → Bool
off_condition s a r =
    cond s.low_acting (at_least r (a.setpoint +ℤ s.hysteresis)) (at_most r (a.setpoint -ℤ s.hysteresis))

-- while off the on-condition, while on and not latched the off-condition, while on and latched none
unfoldable pub awaited : Settings → Alarm → Reading → Bool
awaited s a r = cond a.on (not s.latched && off_condition s a r) (on_condition s a r)

-- the on delay, while on the off delay
unfoldable pub delay : Settings → Alarm → ℤ
delay s a = cond a.on s.off_delay s.on_delay

-- ---- what changes an alarm

abbrev pub alarm : ℤ → Bool → ℕ → Alarm
alarm setpoint on run = record { setpoint = setpoint; on = on; run = run }

-- an alarm at power-up: off, with its setpoint
abbrev pub off : ℤ → Alarm
off setpoint = alarm setpoint false 0

-- at the count the state changes and the run is 0; any other sample makes the run 0
unfoldable pub moved : Alarm → Run → Alarm
moved a Broken = alarm a.setpoint a.on 0
moved a (Going n) = alarm a.setpoint a.on n
moved a Complete = alarm a.setpoint (not a.on) 0

-- one sample: the run of successive samples with the awaited condition
unfoldable pub sampled : Settings → Alarm → Reading → Alarm
sampled s a r = moved a (counted a.run (awaited s a r) (samples (delay s a)))

-- a reset makes the state off and the run 0, whichever state it was in
unfoldable pub reset : Alarm → Alarm
reset a = off a.setpoint

-- the present value changes nothing; a new one makes the run 0 and leaves the state
unfoldable pub written : Alarm → ℤ → Alarm
written a z = cond (eq_z z a.setpoint) a (alarm z a.on 0)

-- settings of no alarm, which stand beyond those of the last
abbrev pub no_settings : Settings
no_settings = record { hysteresis = pos 0; on_delay = pos 0; off_delay = pos 0; low_acting = false; latched = false }
