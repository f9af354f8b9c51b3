-- The old core against what may be said of an alarm: counted from the last poll, an off delay is not over where the samples say so.
use Rattle.std.specs.Prelude.{◌≡◌, Bool, true, ◌∷◌, pos}
use Rattle.alarm.specs.Said.{count, Window}
use Rattle.alarms.specs.Alarms.{settings_at}
use Rattle.looking.specs.History.{Event, sample, History}
use Rattle.looking.specs.Polls.{bench, excursion}
use Rattle.extracts.specs.Events.{alarm_course, first_of}
use Rattle.extracts.specs.Extracts.{SaidOf}
use Rattle.excursion.specs.Old.{old_alarm}

-- the first alarm as the old core has it
abbrev pub old_on : History → Bool
old_on h = (old_alarm h).on

-- one sample above the setpoint and three below it, each with a poll behind it, and then a fourth below
abbrev pub polled_thrice : History
polled_thrice = excursion 1 3

abbrev pub fourth : Event
fourth = sample (pos 40)

pub record Broken : Type 0 where
  -- the off-condition held at each of the last samples, as many as the off delay counts, four, with no earlier change of state, reset or new
  -- setpoint since the first of them
  pub four : count (settings_at bench.working.alarms 0) true ≡ 4
  pub window : Window (settings_at bench.working.alarms 0) (alarm_course bench 0) (first_of bench 0) old_on 4 polled_thrice fourth
  -- and yet the alarm was on and does not change
  pub was_on : old_on polled_thrice ≡ true
  pub stays_on : old_on (fourth ∷ polled_thrice) ≡ true
  -- so what may be said of an alarm does not hold of the old core's
  pub breaks : SaidOf bench 0 old_on → ⊥
