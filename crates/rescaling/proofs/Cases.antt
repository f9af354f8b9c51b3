-- Streams and what is printed of them, in one table with one claim. Assumes nothing.
use mathlib.Core.Path.{◌≡◌, refl}
use mathlib.Core.List.{List, [], ◌∷◌, ◌++◌, map}
use Prim.Native.Nat.{ℕ}
use Prim.Native.String.{String}
use Rattle.exact.specs.Exact.{half_up, nearest, to_step}
use Rattle.exact.specs.Tables.{among}
use Rattle.reading.specs.Reading as reading
use Rattle.platinum.specs.Table.{resistances}
use Rattle.platinum.specs.Platinum.{tenths_at, sensed}
use Rattle.config.specs.Config.{alarm_rule, alarms_rule, rules, first_broken, judged}
use Rattle.record.specs.Record.{words, same, one_word, two_words, kinds, settings_of, configuration_said, short_said, event_of, read_of, event_heard, read_heard}
use Rattle.record.specs.Configuration.{in_turn, config_of}
use Rattle.register.specs.Bytes.{ascii}
use Rattle.text.specs.Line.{kept}
use Rattle.text.specs.Number.{digits, value, natural_of, signed_of, number_of, flag_of}
use Rattle.text.specs.Numeral.{fewest, numeral}
use Rattle.rescaling.specs.Rescaling.{start_of, input_heard}
use Rattle.signed.specs.Signed.{signed}
use Rattle.rescaling.specs.Show.{reading_line, shown_of, later_lines, all_shown}

-- pieces as one text
abbrev whole : List (List ℕ) → List ℕ
whole [] = []
whole (s ∷ ss) = s ++ whole ss

-- lines, each with its LF
abbrev text : List String → List ℕ
text [] = []
text (l ∷ ls) = ascii l ++ (10 ∷ text ls)

pub record Row : Type 0 where
  pub lines : List (List ℕ)
  pub printed : List ℕ

abbrev row : List (List ℕ) → List String → Row
row ls t = record { lines = ls; printed = text t }

-- what stands behind rounding and number of points
abbrev rest : List ℕ
rest =
    ascii " -50000 -15000 -1000 0 0 500 2000 100 60000 99990 0 0 0 0 0 0 0 0 0 0 0 0 0 0 0 0 0 0 0 0 0 0"
    ++ ascii " 1000 60 0 100 10 0 0 0 0 200 10 0 0 0 0 300 10 0 0 0 0 400 10 0 0 0 0 0 0 10000 0 0 0 0 0 0"

-- five points and a rounding of 5; and a rounding that rule 3 refuses
abbrev fives : List ℕ
fives = ascii "CFG 17 1 0 5 5" ++ rest

abbrev threes : List ℕ
threes = ascii "CFG 17 1 0 3 5" ++ rest

-- a platinum sensor with the same rounding and a number of points that is not judged; and with places that rule 2 refuses
abbrev sensor : List ℕ
sensor = ascii "CFG 17 1 0 5 99" ++ (rest ++ ascii " 1")

abbrev placeless : List ℕ
placeless = ascii "CFG 17 0 0 5 99" ++ (rest ++ ascii " 1")

abbrev pub rows : List Row
rows =
    row [] []
    ∷ row (fives ∷ ascii "-30000" ∷ ascii "-1000" ∷ ascii "1000" ∷ ascii "-70000" ∷ ascii "70000" ∷ ascii "100000" ∷ ascii "-100000" ∷ [])
    ("0 0" ∷ "-8880" ∷ "0" ∷ "300" ∷ "UL" ∷ "OL" ∷ "OL" ∷ "UL" ∷ [])
    ∷ row (fives ∷ [] ∷ ascii "S 1000" ∷ ascii "1000 " ∷ ascii "2147483648" ∷ fives ∷ threes ∷ ascii "1000" ∷ [])
    ("0 0" ∷ "?" ∷ "?" ∷ "?" ∷ "?" ∷ "?" ∷ "?" ∷ "300" ∷ [])
    ∷ row (threes ∷ ascii "1000" ∷ ascii "x" ∷ fives ∷ []) ("11 3" ∷ [])
    ∷ row (sensor ∷ ascii "18519" ∷ ascii "18520" ∷ ascii "18735" ∷ ascii "18736" ∷ ascii "390482" ∷ ascii "-18520" ∷ ascii "x" ∷ [])
    ("0 0" ∷ "UL" ∷ "-2000" ∷ "-1995" ∷ "-1995" ∷ "OL" ∷ "UL" ∷ "?" ∷ [])
    ∷ row (placeless ∷ ascii "18520" ∷ []) ("11 2" ∷ [])
    ∷ row (ascii "1000" ∷ fives ∷ ascii "1000" ∷ []) ("?" ∷ "?" ∷ "?" ∷ [])
    ∷ row (ascii "S 1000" ∷ fives ∷ threes ∷ []) ("?" ∷ "?" ∷ "?" ∷ [])
    ∷ []

pub cases : map (λ (r : Row). whole (all_shown r.lines)) rows ≡ map (λ (r : Row). r.printed) rows
unfolding all_shown later_lines shown_of reading_line signed numeral fewest start_of input_heard kept event_heard read_heard event_of read_of words same one_word two_words kinds settings_of configuration_said short_said number_of signed_of natural_of digits value flag_of config_of in_turn judged first_broken rules alarm_rule alarms_rule among half_up nearest to_step reading.first_from reading.segment reading.on_line reading.judged reading.displayed reading.reading_of reading.up_to reading.points_in resistances tenths_at sensed
cases = refl
