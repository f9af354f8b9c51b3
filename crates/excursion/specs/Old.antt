-- What the core before this one would have shown of a history, as far as its fault goes: it counted an off delay from the last poll.
use Rattle.std.specs.Prelude.{Bool, cond, ◌&&◌, [], ◌∷◌, ℕ}
use Rattle.alarm.specs.Alarm.{alarm, sampled}
use Rattle.alarm.specs.declared.Alarm.{Alarm}
use Rattle.alarms.specs.Alarms.{settings_at, off_at}
use Rattle.receiver.specs.Receiver.{ends}
use Rattle.instrument.specs.Instrument.{read}
use Rattle.looking.specs.History.{sample, key, byte, History}
use Rattle.looking.specs.Polls.{bench, excursion}

-- the fault: where a string ends while the alarm is on, its run begins again at 0. In the example each string that ends is a poll
abbrev pub heard : ℕ → Alarm → Alarm
heard b a = alarm a.setpoint a.on (cond (ends b && a.on) 0 a.run)

-- the first alarm after a history: settings, readings and the rule for a sample are those of the proved core, and the example has no key
abbrev pub old_alarm : History → Alarm
old_alarm [] = off_at bench.setpoints 0
old_alarm (sample x ∷ h) = sampled (settings_at bench.working.alarms 0) (old_alarm h) (read bench.scale x)
old_alarm (key k place buffer ∷ h) = old_alarm h
old_alarm (byte b place buffer ∷ h) = heard b (old_alarm h)

-- whether it is on after the example: one sample above the setpoint and k below it, with n polls behind each
abbrev pub old_lit : ℕ → ℕ → Bool
old_lit n k = (old_alarm (excursion n k)).on
