-- Worked lines, in one table with one claim that is computed over the definitions: no value is read here, which is not judged by computing.
-- Assumes nothing.
use mathlib.Core.Path.{◌≡◌, refl}
use mathlib.Core.List.{List, [], ◌∷◌, ◌++◌, map, flatten}
use Prim.Native.Nat.{ℕ}
use Prim.Native.String.{String}
use lib.ListN.{replicate}
use lib.Ieee.{of_int, div, round, to_bits}
use Rattle.reading.specs.Reading.{displayable}
use Rattle.register.specs.Bytes.{ascii}
use Rattle.binary32.specs.Binary32.{value}
use Rattle.filed.specs.Filed.{record_of, taken_of}
use Rattle.text.specs.Line.{before, after, has}
use Rattle.text.specs.Number.{natural_of, number_of, digits, signed_of}
use Rattle.text.specs.Number as numbers
use Rattle.text.specs.Numeral.{fewest, numeral}
use Rattle.hexadecimal.specs.Hex.{hex, is_digit, digit_of, is_size, all_digits, is_text, bytes_of}
use Rattle.historian_line.specs.Line.{reading_named, record_line, write_line, fields_line, taken_line, read_line, line_shown}

pub record Case : Type 0 where
  pub line : List ℕ
  pub shows : List ℕ

abbrev case : String → String → Case
case line shows = record { line = ascii line; shows = ascii shows }

abbrev pub cases : List Case
cases =
    case "W 874 1" "00010000cdccae42"
    ∷ case "W -19999 0" "00000000003e9cc6"
    ∷ case "W 99999 4" "0004000097ff1f41"
    -- a number may have zeros in front, and minus zero is zero
    ∷ case "W 0000000012 0" "0000000000004041"
    ∷ case "W -0 1" "0001000000000000"
    ∷ case "W 5 04" "000400006f12033a"
    -- the marks
    ∷ case "W OL 2" "0102000000000000"
    ∷ case "W UL 4" "0204000000000000"
    ∷ case "W -- 0" "0300000000000000"
    -- out of their range
    ∷ case "W 100000 0" "?"
    ∷ case "W -20000 0" "?"
    ∷ case "W 5 5" "?"
    ∷ case "W 5 -1" "?"
    -- not of the form
    ∷ case "" "?"
    ∷ case "W" "?"
    ∷ case "W 5" "?"
    ∷ case "W  5 0" "?"
    ∷ case "W 5  0" "?"
    ∷ case "W 5 0 " "?"
    ∷ case "w 5 0" "?"
    ∷ case "W +5 0" "?"
    ∷ case "W ol 0" "?"
    ∷ case "W 00000000012 0" "?"
    -- refusals, in their order
    ∷ case "R -" "30"
    ∷ case "R 00" "30"
    ∷ case "R 04050101000000" "30"
    ∷ case "R 0405010100000080" "31"
    ∷ case "R 0305000000000001" "32"
    ∷ case "R 0000010000000080" "32"
    ∷ case "R 0000000100000080" "32"
    -- not hexadecimal
    ∷ case "R" "?"
    ∷ case "R " "?"
    ∷ case "R 0" "?"
    ∷ case "R 0g" "?"
    ∷ case "R--" "?"
    ∷ case "r 00" "?"
    ∷ record { line = ascii "R " ++ replicate 128 48; shows = ascii "30" }
    ∷ record { line = ascii "R " ++ replicate 130 48; shows = ascii "?" }
    ∷ []

-- what a record says: 87.4 by its pattern, whose high byte is shown first, and none
pub fields : (flatten (fields_line 0 1 0x42ae_cccd) ≡ ascii "0 1 42aecccd" ++ (10 ∷ [])) × (flatten (fields_line 3 4 0) ≡ ascii "3 4 00000000" ++ (10 ∷ []))
unfolding fields_line fewest numeral hex flatten
fields = (refl, refl)

pub worked_lines : map (λ c. flatten (line_shown c.line)) cases ≡ map (λ c. c.shows ++ (10 ∷ [])) cases
unfolding line_shown write_line record_line reading_named read_line taken_line fields_line displayable record_of taken_of value of_int div round to_bits before after has natural_of number_of digits numbers.value signed_of fewest numeral hex is_digit digit_of is_size all_digits is_text bytes_of flatten
worked_lines = refl
