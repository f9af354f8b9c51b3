-- An off delay is not lengthened by polls: computed for none and for ten behind each sample, and true of any number.
use mathlib.Core.Path.{◌≡◌, refl, ap, ◌∙◌}
use mathlib.Core.List.{[], ◌∷◌, ◌++◌}
use Prim.Native.Nat.{ℕ}
use native.Mathlib.Omega.{arith}
use lib.IntN.{pos}
use lib.ListN.{replicate}
use Rattle.exact.specs.Exact.{half_up, nearest, to_step, cut, floor}
use Rattle.exact.specs.Tables.{among}
use Rattle.reading.specs.Reading as readings
use Rattle.run.specs.Run.{samples, counted}
use Rattle.total.specs.Total as totals
use Rattle.extremes.specs.Extremes as extremes
use Rattle.alarm.specs.Alarm as one_alarm
use Rattle.alarms.specs.Alarms as alarms
use Rattle.alarms.specs.Alarms.{alarm_at}
use Rattle.analog.specs.Analog as analogs
use Rattle.config.specs.Config as configs
use Rattle.segments.specs.Segments as segments
use Rattle.config.specs.Verdict.{Accepted}
use Rattle.register.specs.Registers.{entry, index, at}
use Rattle.receiver.specs.Receiver.{kind, store}
use Rattle.command.specs.Parse as commands
use Rattle.command.specs.declared.Asked.TheVariants.{Read}
use Rattle.std.specs.Prelude.{Some}
use Rattle.form.proofs.Meaning.{asked}
use Rattle.field.specs.Field as fields
use Rattle.line.specs.Line as lines
use Rattle.line.specs.Buffer as buffers
use Rattle.measured.specs.Measured as measured
use Rattle.outputs.specs.Outputs as outputs
use Rattle.instrument.specs.Instrument as instruments
use Rattle.instrument.specs.Shown.{shown_at, places_at}
use Rattle.instrument.specs.declared.Instrument.{Instrument}
use Rattle.effect.specs.Able.{able}
use Rattle.effect.specs.Reply.{read_reply}
use Rattle.answer.specs.Answer.{number}
use Rattle.meter.specs.Door.{sound}
use Rattle.looking.specs.History.{last_outcome}
use Rattle.looking.specs.Sent.{Reads, read}
use Rattle.looking.specs.Polls.{bench, asking, excursion, lit, InTime, OffDelay}
use Rattle.looking.proofs.Polls.{polls_unmoved}

-- the configuration is accepted
pub accepted : configs.judged bench ≡ Accepted
unfolding configs.judged configs.first_broken configs.rules configs.alarms_rule configs.alarm_rule among readings.points_in readings.up_to
accepted = refl

-- the poll asks node 5 for register E
asks : commands.parse asking ≡ Some (5, Read (at "E"))
unfolding commands.parse commands.first_digit commands.second_digit commands.body commands.reading commands.sole index entry
asks = refl

pub reads : Reads asking 5 (Read (at "E"))
reads = read ((asked asking 5 (Read (at "E"))).1 (asks, λ e. let z : ◌≡◌ {A = ℕ} 0 1 = cc in omega arith))

-- ── computed ──

-- every definition that a sample, a byte and a reply to T are computed by
opened : Unit {0}
unfolding configs.judged configs.first_broken configs.rules configs.alarms_rule configs.alarm_rule among readings.points_in readings.up_to sound segments.tested able instruments.sound measured.sound alarms.sound outputs.sound readings.displayable segments.listed segments.read_on segments.along readings.displayed readings.judged readings.first_from half_up nearest to_step cut totals.added totals.summed totals.sample_adds totals.quotient totals.unit_of extremes.sampled extremes.compared extremes.moved extremes.beyond extremes.reset extremes.shown samples counted alarms.all_sampled one_alarm.sampled one_alarm.moved one_alarm.awaited one_alarm.delay one_alarm.on_condition one_alarm.off_condition one_alarm.above one_alarm.at_most analogs.code_of analogs.floor_by analogs.held floor outputs.coded kind store commands.parse commands.first_digit commands.second_digit commands.body commands.reading commands.sole index entry read_reply lines.line lines.full_line lines.head lines.node_text lines.abbreviated_line fields.field fields.text fields.number fields.sign fields.digits fields.decimal fields.fraction fields.at_right shown_at places_at buffers.answer
opened = tt

answered : number (last_outcome bench (excursion 1 3)).answer ≡ 2
unfolding opened
answered = refl

unpolled : InTime 0
unfolding opened
unpolled = record { at_once = refl; first = refl; second = refl; third = refl; fourth = refl }

ten : InTime 10
unfolding opened
ten = record { at_once = refl; first = refl; second = refl; third = refl; fourth = refl }

-- ── any number of polls ──

same_lit : (n k : ℕ) → lit n k ≡ lit 0 k
same_lit n k =
    ap (λ (i : Instrument). (alarm_at i.alarms 0).on) (polls_unmoved bench accepted asking (Read (at "E")) reads n (replicate k (pos 40) ++ pos 60 ∷ []))

always : (n : ℕ) → InTime n
always n =
    record {
      at_once = same_lit n 0 ∙ unpolled.at_once;
      first = same_lit n 1 ∙ unpolled.first;
      second = same_lit n 2 ∙ unpolled.second;
      third = same_lit n 3 ∙ unpolled.third;
      fourth = same_lit n 4 ∙ unpolled.fourth;
    }

pub off_delay : OffDelay
off_delay = record { answered = answered; unpolled = unpolled; ten = ten; always = always }
