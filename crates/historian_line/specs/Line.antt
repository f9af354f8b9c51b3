-- What a line of the historian's program asks, and what is printed of it, piece by piece: `W reading places` prints the record that is written of
-- a reading, `R hex` what bytes are taken for, and any other line a question mark.
use Rattle.std.specs.Prelude.{ℕ, ◌/◌, ◌%◌, ◌^◌, Option, Some, None, Result, Ok, Err, Bool, cond, ◌&&◌, List, [], ◌∷◌, ◌++◌, leb, eqb, ℤ, length, drop, get_or}
use Rattle.reading.specs.Reading.{displayable}
use Rattle.reading.specs.declared.Reading.{Reading}
use Rattle.reading.specs.declared.Reading.TheVariants.{Nothing, Under, Number, Over}
use Rattle.register.specs.Bytes.{byte, ascii}
use Rattle.filed.specs.Filed.{refusal_number, kind_of, bits_of, in_places, filed, taken_of}
use Rattle.filed.specs.declared.Record.{Record}
use Rattle.filed.specs.declared.Refusal.{Refusal}
use Rattle.text.specs.Line.{Heard, bytes, long, before, after, has, kept}
use Rattle.text.specs.Number.{number_of}
use Rattle.text.specs.Numeral.{numeral}
use Rattle.hexadecimal.specs.Hex.{hex, is_text, bytes_of}

abbrev pub ended : List (List ℕ)
ended = (10 ∷ []) ∷ []

-- any other line
abbrev pub unknown : List (List ℕ)
unknown = (ascii "?" ++ (10 ∷ [])) ∷ []

-- ---- W

-- a word of two bytes
abbrev pub is_mark : ℕ → ℕ → List ℕ → Bool
is_mark first second word = eqb (length word) 2 && (eqb (get_or word 0 0) first && eqb (get_or word 1 0) second)

abbrev pub number_named : Option ℤ → Option Reading
number_named (Some v) = Some (Number v)
number_named None = None

-- the reading that a word names: `OL`, `UL`, `--` or a number
unfoldable pub reading_named : List ℕ → Option Reading
reading_named word =
    cond (is_mark (byte "O") (byte "L") word) (Some Over)
    (cond (is_mark (byte "U") (byte "L") word) (Some Under)
    (cond (is_mark (byte "-") (byte "-") word) (Some Nothing)
    (number_named (number_of word))))

-- the record, where the reading can be displayed and the places are 0 to 4
unfoldable pub record_line : Reading → ℤ → List (List ℕ)
record_line shown places = cond (in_places places && displayable shown) (hex (filed places shown) ++ ended) unknown

abbrev pub asked_line : Option Reading → Option ℤ → List (List ℕ)
asked_line (Some shown) (Some places) = record_line shown places
asked_line (Some shown) None = unknown
asked_line None places = unknown

-- two words, with one space between them
unfoldable pub write_line : List ℕ → List (List ℕ)
write_line s = cond (has 32 s) (asked_line (reading_named (before 32 s)) (number_of (after 32 s))) unknown

-- ---- R

-- four bytes, high byte first
abbrev pub high_first : ℕ → List ℕ
high_first b = b / 256 ^ 3 % 256 ∷ b / 256 ^ 2 % 256 ∷ b / 256 % 256 ∷ b % 256 ∷ []

-- kind, places and bits, with a space between two of them
abbrev pub kind_pieces : ℕ → ℕ → List (List ℕ)
kind_pieces kind places = numeral kind ∷ ascii " " ∷ numeral places ∷ ascii " " ∷ []

abbrev pub bits_pieces : ℕ → List (List ℕ)
bits_pieces b = hex (high_first b) ++ ended

unfoldable pub fields_line : ℕ → ℕ → ℕ → List (List ℕ)
fields_line kind places b = kind_pieces kind places ++ bits_pieces b

-- what the record says, or the refusal's number
unfoldable pub taken_line : Result Record Refusal → List (List ℕ)
taken_line (Ok x) = fields_line (kind_of x.datum) x.places (bits_of x.datum)
taken_line (Err why) = (numeral (refusal_number why) ∷ []) ++ ended

unfoldable pub read_line : List ℕ → List (List ℕ)
read_line s = cond (is_text s) (taken_line (taken_of (bytes_of s))) unknown

-- ---- a line

abbrev pub by_letter : ℕ → List ℕ → List (List ℕ)
by_letter letter s = cond (eqb letter (byte "W")) (write_line s) (cond (eqb letter (byte "R")) (read_line s) unknown)

-- a letter, a space and at least one byte
unfoldable pub line_shown : List ℕ → List (List ℕ)
line_shown l = cond (leb 3 (length l) && eqb (get_or l 1 0) 32) (by_letter (get_or l 0 0) (drop 2 l)) unknown

unfoldable pub heard_shown : Heard → List (List ℕ)
heard_shown (bytes l) = line_shown l
heard_shown long = unknown

-- all lines, one after another: the definition of what the program prints
unfoldable pub all_shown : List (List ℕ) → List (List ℕ)
all_shown [] = []
all_shown (l ∷ ls) = heard_shown (kept l) ++ all_shown ls
