-- What an event of a history is to the total and to each alarm: a sample with its reading, a key, or a string that ended. An event of which
-- nothing is kept is nothing to them.
use Rattle.std.specs.Prelude.{Bool, cond, ◌&&◌, ◌||◌, ℕ, ◌+◌, eqb, ℤ, pos, get_or, None, Some}
use Rattle.std.proofs.Math.Option.{Option, none, some}
use Rattle.exact.specs.Sign.{eq_z}
use Rattle.course.specs.Course.{Course}
use Rattle.reading.specs.declared.Reading.{Reading}
use Rattle.total.specs.History as totals
use Rattle.alarm.specs.History as alarms
use Rattle.alarms.specs.Alarms.{alarm_at, bit}
use Rattle.register.specs.Registers.{at}
use Rattle.config.specs.declared.Config.{Config}
use Rattle.command.specs.Parse.{parse}
use Rattle.command.specs.declared.Asked.{Asked}
use Rattle.command.specs.declared.Asked.TheVariants.{Read, Print, Reset, Write, Status, BadForm}
use Rattle.command.specs.Parse.{Parsed}
use Rattle.instrument.specs.Instrument.{read}
use Rattle.instrument.specs.Shown.{shown_at}
use Rattle.instrument.specs.declared.Instrument.{Instrument}
use Rattle.looking.specs.History.{Event, History, meter_after, node_of, half}
use Rattle.looking.specs.Kept.{Entry, measured, pressed, told, keeps, kept}
use Rattle.looking.specs.Captured.{present}

-- where there is something, what it is to something else
abbrev pub through : {A B : Type 0} → (A → Option B) → Option A → Option B
through f none = none
through f (some x) = f x

-- what a string asks of this meter
abbrev pub asks : ℕ → Parsed → Option Asked
asks node None = none
asks node (Some (n, a)) = cond (eqb n node) (some a) none

-- ---- the total

-- RB resets it
abbrev pub asked_of_total : Asked → Option totals.Event
asked_of_total (Read r) = none
asked_of_total Print = none
asked_of_total (Reset r) = cond (eqb r (at "B")) (some totals.reset_key) none
asked_of_total (Write r z) = none
asked_of_total (Status b) = none
asked_of_total BadForm = none

-- each sample comes to it with its reading, key 1 in a meter set for batch with the present one; key 2 resets it
abbrev pub to_total : Config → Reading → Entry → Option totals.Event
to_total c now (measured x) = some (totals.sample (read c.scale x))
to_total c now (pressed k) = cond (eq_z k (pos 1) && c.working.totalizer.batch) (some (totals.batch_key now)) (cond (eq_z k (pos 2)) (some totals.reset_key) none)
to_total c now (told s) = through asked_of_total (asks (node_of c) (parse s))

abbrev pub total_event : Config → History → Event → Option totals.Event
total_event c h e = through (to_total c (present c (kept c h))) (keeps c (half h) e)

abbrev pub total_course : Config → Course totals.Event
total_course c = record { Entry = Event; what = total_event c }

-- what T of TOT shows of an instrument, and after a history
abbrev pub total_shown : Config → Instrument → Reading
total_shown c i = shown_at c.working i (at "B")

abbrev pub shown_total : Config → History → Reading
shown_total c h = total_shown c (meter_after c h).instrument

-- ---- alarm k of the four, the first is alarm 0 and has register E

-- R of its own resets it, V of its own writes its setpoint, VJ resets it where bit 4 and its own bit are 0
abbrev pub asked_of_alarm : ℕ → Asked → Option alarms.Event
asked_of_alarm k (Read r) = none
asked_of_alarm k Print = none
asked_of_alarm k (Reset r) = cond (eqb r (at "E" + k)) (some alarms.reset_key) none
asked_of_alarm k (Write r z) = cond (eqb r (at "E" + k)) (some (alarms.setpoint z)) none
asked_of_alarm k (Status b) = cond (bit b 4 || bit b k) none (some alarms.reset_key)
asked_of_alarm k BadForm = none

-- each sample comes to it with its reading; key 5 resets it
abbrev pub to_alarm : Config → ℕ → Entry → Option alarms.Event
to_alarm c k (measured x) = some (alarms.sample (read c.scale x))
to_alarm c k (pressed n) = cond (eq_z n (pos 5)) (some alarms.reset_key) none
to_alarm c k (told s) = through (asked_of_alarm k) (asks (node_of c) (parse s))

abbrev pub alarm_event : Config → ℕ → History → Event → Option alarms.Event
alarm_event c k h e = through (to_alarm c k) (keeps c (half h) e)

abbrev pub alarm_course : Config → ℕ → Course alarms.Event
alarm_course c k = record { Entry = Event; what = alarm_event c k }

-- its setpoint at power-up
abbrev pub first_of : Config → ℕ → ℤ
first_of c k = get_or c.setpoints k (pos 0)

-- whether it is on in an instrument, and after a history: seen, or in manual mode unseen
abbrev pub alarm_on : ℕ → Instrument → Bool
alarm_on k i = (alarm_at i.alarms k).on

abbrev pub is_on : Config → ℕ → History → Bool
is_on c k h = alarm_on k (meter_after c h).instrument
