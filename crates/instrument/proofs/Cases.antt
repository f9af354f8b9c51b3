-- The worked cases, all of them by one computation. Assumes nothing.
use mathlib.Core.Path.{◌≡◌, refl}
use mathlib.Core.List.{map}
use Rattle.exact.specs.Exact.{cut, floor}
use Rattle.run.specs.Run.{samples, counted}
use Rattle.total.specs.Total as totals
use Rattle.extremes.specs.Extremes as extremes
use Rattle.alarm.specs.Alarm as alarm
use Rattle.alarms.specs.Alarms as alarms
use Rattle.analog.specs.Analog.{floor_by, held, code_of}
use Rattle.outputs.specs.Outputs.{coded, status}
use Rattle.instrument.specs.Instrument.{reset_register, write_register, write_status}
use Rattle.instrument.specs.Shown.{shown_at}
use Rattle.instrument.specs.Cases.{changed, after, cases, outcome, expected}

-- each case shows what it says
pub cases_hold : map outcome cases ≡ map expected cases
unfolding cut floor samples counted totals.unit_of totals.quotient totals.summed totals.added totals.sample_adds totals.batch_adds totals.shown extremes.beyond extremes.moved extremes.compared extremes.sampled extremes.reset extremes.shown alarm.above alarm.below alarm.at_most alarm.on_condition alarm.off_condition alarm.awaited alarm.delay alarm.moved alarm.sampled alarm.reset alarm.written alarms.all_sampled alarms.on_bits floor_by held code_of coded status reset_register write_register write_status shown_at changed after cases
cases_hold = refl
