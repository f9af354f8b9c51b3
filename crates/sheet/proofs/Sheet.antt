-- Document 01's bench sheet holds: both columns are computed. Assumes nothing.
use mathlib.Core.Path.{refl}
use Rattle.exact.specs.Exact.{half_up, nearest, to_step, cut, floor}
use Rattle.exact.specs.Tables.{among}
use Rattle.reading.specs.Reading as readings
use Rattle.run.specs.Run as runs
use Rattle.total.specs.Total as totals
use Rattle.extremes.specs.Extremes as extremes
use Rattle.alarm.specs.Alarm as one_alarm
use Rattle.alarms.specs.Alarms as alarms
use Rattle.analog.specs.Analog as analogs
use Rattle.config.specs.Config as configs
use Rattle.segments.specs.Segments as segments
use Rattle.register.specs.Registers.{entry, index}
use Rattle.receiver.specs.Receiver.{kind, store}
use Rattle.numeral.specs.Number.{amount, number}
use Rattle.command.specs.Parse as commands
use Rattle.measured.specs.Measured as measured
use Rattle.outputs.specs.Outputs as outputs
use Rattle.instrument.specs.Instrument as instruments
use Rattle.instrument.specs.Shown.{shown_at}
use Rattle.effect.specs.Able.{able}
use Rattle.meter.specs.Door.{sound}
use Rattle.sheet.specs.Sheet.{after_samples, after_bytes, after, cases, Holds}

pub sheet_holds : Holds
unfolding configs.judged configs.first_broken configs.rules configs.alarms_rule configs.alarm_rule among readings.points_in readings.up_to sound segments.tested able instruments.sound measured.sound alarms.sound outputs.sound readings.displayable segments.listed segments.read_on segments.along readings.displayed readings.judged readings.first_from half_up nearest to_step cut totals.added totals.summed totals.sample_adds totals.quotient totals.unit_of totals.shown extremes.sampled extremes.compared extremes.moved extremes.beyond extremes.reset extremes.shown runs.samples runs.counted alarms.all_sampled alarms.on_bits one_alarm.sampled one_alarm.moved one_alarm.awaited one_alarm.delay one_alarm.on_condition one_alarm.above one_alarm.reset one_alarm.written analogs.code_of analogs.floor_by analogs.held floor outputs.coded outputs.status instruments.write_register instruments.write_status kind store commands.parse commands.first_digit commands.second_digit commands.body commands.writing commands.data_of commands.status number amount index entry shown_at after_samples after_bytes after cases
sheet_holds = refl
