-- What can come to an alarm, and the alarm after it.
use Rattle.std.specs.Prelude.{List, [], ◌∷◌, ℤ}
use Rattle.std.proofs.Math.Option.{some}
use Rattle.course.specs.Course.{Course}
use Rattle.reading.specs.declared.Reading.{Reading}
use Rattle.alarm.specs.declared.Settings.{Settings}
use Rattle.alarm.specs.declared.Alarm.{Alarm}
use Rattle.alarm.specs.Alarm.{off, sampled, reset, written}

-- a sample with its reading, a reset, or a setpoint that is written
pub data Event : Type 0 where
  sample : (reading : Reading) → Event
  reset_key : Event
  setpoint : (z : ℤ) → Event

abbrev pub step : Settings → Alarm → Event → Alarm
step s a (sample r) = sampled s a r
step s a reset_key = reset a
step s a (setpoint z) = written a z

-- the alarm since power-up with its first setpoint, the events newest first
abbrev pub after_all : Settings → ℤ → List Event → Alarm
after_all s first [] = off first
after_all s first (e ∷ es) = step s (after_all s first es) e

-- the same events as a course
abbrev pub own : Course Event
own = record { Entry = Event; what = λ es e. some e }
