-- What is printed of a line, piece by piece.
use Rattle.std.specs.Prelude.{ℕ, Bool, cond, List, [], ◌∷◌, ◌++◌, Option, None, Some, eqb, ℤ, pos, take}
use Rattle.std.specs.Int.Signed.{lt_z}
use Rattle.answer.specs.Answer as answers
use Rattle.answer.specs.declared.Answer.{Answer}
use Rattle.register.specs.Bytes.{ascii}
use Rattle.text.specs.Numeral.{numeral}
use Rattle.signed.specs.Signed.{signed}
use Rattle.hexadecimal.specs.Hex.{hex}
use Rattle.reading.specs.declared.Reading.{Reading}
use Rattle.reading.specs.declared.Reading.TheVariants as reading
use Rattle.extremes.specs.Extremes as extremes
use Rattle.extremes.specs.declared.Streak.{Streak}
use Rattle.extremes.specs.declared.Extreme.{Extreme}
use Rattle.alarm.specs.declared.Alarm.{Alarm}
use Rattle.alarms.specs.Alarms.{alarm_at}
use Rattle.measured.specs.declared.Measured.{Measured}
use Rattle.outputs.specs.declared.Mode.{Mode}
use Rattle.outputs.specs.declared.Mode.TheVariants.{Automatic, Manual}
use Rattle.outputs.specs.declared.Outputs.{Outputs}
use Rattle.receiver.specs.Receiver.{over}
use Rattle.receiver.specs.declared.Receiver.{Receiver}
use Rattle.meter.specs.declared.Meter.{Meter}
use Rattle.total.specs.Total.{quotient}
use Rattle.total.specs.declared.Totalizer.{Totalizer}
use Rattle.total.specs.declared.Total.{Total}
use Rattle.total.specs.declared.Range.{Range}
use Rattle.total.specs.declared.Range.TheVariants as range

-- ---- numbers

-- a name, and a number
unfoldable pub named : List ℕ → ℤ → List (List ℕ)
named name z = name ∷ signed z

unfoldable pub counted : List ℕ → ℕ → List (List ℕ)
counted name n = name ∷ numeral n ∷ []

-- numbers, the first behind a name and each other behind a comma
unfoldable pub behind_commas : List ℤ → List (List ℕ)
behind_commas [] = []
behind_commas (z ∷ l) = named (ascii ",") z ++ behind_commas l

unfoldable pub number_words : List ℕ → List ℤ → List (List ℕ)
number_words name [] = []
number_words name (z ∷ l) = named name z ++ behind_commas l

-- ---- the answer, and the number that it carries

abbrev pub answer_pieces : Answer → List ℕ → List (List ℕ)
answer_pieces a between = numeral (answers.number a) ∷ between ∷ numeral (answers.value a) ∷ []

-- the line of a configuration, with its LF
abbrev pub power_line : Answer → List (List ℕ)
power_line a = answer_pieces a (ascii " ") ++ ((10 ∷ []) ∷ [])

-- ---- what was measured

unfoldable pub reading_word : List ℕ → Reading → List (List ℕ)
reading_word name reading.Nothing = name ∷ ascii "--" ∷ []
reading_word name reading.Under = name ∷ ascii "UL" ∷ []
reading_word name (reading.Number v) = named name v
reading_word name reading.Over = name ∷ ascii "OL" ∷ []

-- the total of a sum, where the time base is one that can be
unfoldable pub quotient_of : Totalizer → ℤ → ℤ
quotient_of s sum = cond (lt_z s.time_base (pos 1)) (pos 0) (quotient s sum)

abbrev pub range_word : Range → ℤ → List (List ℕ)
range_word range.Within q = named (ascii " TOT=") q
range_word range.Under q = ascii " TOT=UL" ∷ []
range_word range.Over q = ascii " TOT=OL" ∷ []

unfoldable pub total_words : Totalizer → Total → List (List ℕ)
total_words s t = named (ascii " SUM=") t.sum ++ range_word t.range (quotient_of s t.sum)

-- ---- the buffer, without the bytes at its end that were not written

-- what stands in every byte that nothing was written to: EE (hex)
abbrev pub unwritten : ℕ
unwritten = 0xEE

abbrev pub kept : Bool → ℕ → List ℕ → List ℕ
kept t b [] = cond t [] (b ∷ [])
kept t b (x ∷ s) = b ∷ x ∷ s

unfoldable pub trimmed : List ℕ → List ℕ
trimmed [] = []
trimmed (b ∷ s) = kept (eqb b unwritten) b (trimmed s)

unfoldable pub buffer_words : List ℕ → List (List ℕ)
buffer_words s = (ascii " BUF=" ∷ hex (trimmed s)) ++ ((10 ∷ []) ∷ [])

-- ---- the state of a meter

-- a run: 0 where none goes on, else how many readings it has and the number that it remembers
unfoldable pub streak_words : List ℕ → Option Streak → List (List ℕ)
streak_words name None = counted name 0
streak_words name (Some s) = counted name s.readings ++ named (ascii ":") s.nearest

unfoldable pub extreme_words : Extreme → Extreme → List (List ℕ)
extreme_words max min =
    ((reading_word (ascii " MAX=") (extremes.shown max) ++ reading_word (ascii " MIN=") (extremes.shown min)) ++ streak_words (ascii " MR=") max.run)
    ++ streak_words (ascii " NR=") min.run

unfoldable pub measured_words : Totalizer → Measured → List (List ℕ)
measured_words s m = (reading_word (ascii " R=") m.reading ++ total_words s m.total) ++ extreme_words m.max m.min

unfoldable pub setpoint_words : List Alarm → List (List ℕ)
setpoint_words l =
    ((named (ascii " SP=") (alarm_at l 0).setpoint ++ named (ascii ",") (alarm_at l 1).setpoint) ++ named (ascii ",") (alarm_at l 2).setpoint)
    ++ named (ascii ",") (alarm_at l 3).setpoint

-- `1` where an alarm is on, and `0`
abbrev pub on_digit : Alarm → ℕ
on_digit a = cond a.on 49 48

unfoldable pub state_words : List Alarm → List (List ℕ)
state_words l = ascii " AL=" ∷ (on_digit (alarm_at l 0) ∷ on_digit (alarm_at l 1) ∷ on_digit (alarm_at l 2) ∷ on_digit (alarm_at l 3) ∷ []) ∷ []

unfoldable pub run_words : List Alarm → List (List ℕ)
run_words l =
    ((counted (ascii " RUN=") (alarm_at l 0).run ++ counted (ascii ",") (alarm_at l 1).run) ++ counted (ascii ",") (alarm_at l 2).run)
    ++ counted (ascii ",") (alarm_at l 3).run

unfoldable pub alarm_words : List Alarm → List (List ℕ)
alarm_words l = (setpoint_words l ++ state_words l) ++ run_words l

unfoldable pub mode_words : Mode → List (List ℕ)
mode_words Automatic = ascii " MODE=A MAN=0" ∷ []
mode_words (Manual outputs) = counted (ascii " MODE=M MAN=") outputs

unfoldable pub output_words : Outputs → List (List ℕ)
output_words o = named (ascii " AO=") o.code ++ mode_words o.mode

-- the half received string, or that it is too long
unfoldable pub received_words : Receiver → List (List ℕ)
received_words r =
    (ascii " RX=" ∷ []) ++ cond (over r.length) (ascii "- RXO=1" ∷ []) (hex (take r.length r.bytes) ++ (ascii " RXO=0" ∷ []))

unfoldable pub meter_words : Meter → List (List ℕ)
meter_words m =
    ((measured_words m.config.working.totalizer m.instrument.measured ++ alarm_words m.instrument.alarms)
    ++ output_words m.instrument.outputs)
    ++ received_words m.receiver

-- ---- the line of an event: the answer, the state, where the meter is started, and the buffer

abbrev pub is_not_started : Answer → Bool
is_not_started a = eqb (answers.number a) 12

abbrev pub answer_head : Answer → List (List ℕ)
answer_head a = (ascii "A=" ∷ []) ++ answer_pieces a (ascii " V=")

unfoldable pub event_line : Answer → Meter → List ℕ → List (List ℕ)
event_line a m buffer = cond (is_not_started a) (answer_head a) (answer_head a ++ meter_words m) ++ buffer_words buffer
