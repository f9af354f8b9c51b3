-- What is printed, piece by piece: of what a line is told, and of all lines.
use Rattle.std.specs.Prelude.{ℕ, List, [], ◌∷◌, ◌++◌, ℤ}
use Rattle.answer.specs.Answer.{number, value}
use Rattle.answer.specs.declared.Answer.{Answer}
use Rattle.reading.specs.declared.Reading.{Reading}
use Rattle.reading.specs.declared.Reading.TheVariants as reading
use Rattle.register.specs.Bytes.{ascii}
use Rattle.text.specs.Line.{kept}
use Rattle.text.specs.Numeral.{numeral}
use Rattle.signed.specs.Signed.{signed}
use Rattle.rescaling.specs.Rescaling.{Start, start_of, first_told, later_told}
use Rattle.rescaling.specs.declared.Said.{Said}
use Rattle.rescaling.specs.declared.Said.TheVariants.{Configured, Read, Unknown, Silence}

-- ---- of one line

-- a word and LF in one piece
abbrev pub ended : List ℕ → List (List ℕ)
ended word = (word ++ (10 ∷ [])) ∷ []

abbrev pub number_line : ℤ → List (List ℕ)
number_line z = signed z ++ ((10 ∷ []) ∷ [])

-- no input reads Nothing; a meter shows it by two dashes
unfoldable pub reading_line : Reading → List (List ℕ)
reading_line reading.Nothing = ended (ascii "--")
reading_line reading.Under = ended (ascii "UL")
reading_line (reading.Number v) = number_line v
reading_line reading.Over = ended (ascii "OL")

-- the answer's number, and the number that it carries
abbrev pub answer_line : Answer → List (List ℕ)
answer_line a = numeral (number a) ∷ ascii " " ∷ numeral (value a) ∷ (10 ∷ []) ∷ []

-- `?` for a line that is not known, and nothing for one that is told nothing
unfoldable pub shown_of : Said → List (List ℕ)
shown_of (Configured a) = answer_line a
shown_of (Read r) = reading_line r
shown_of Unknown = ended (ascii "?")
shown_of Silence = []

-- ---- of all lines, one after another: the definition of what the program prints

unfoldable pub later_lines : Start → List (List ℕ) → List (List ℕ)
later_lines start [] = []
later_lines start (l ∷ ls) = shown_of (later_told start (kept l)) ++ later_lines start ls

unfoldable pub all_shown : List (List ℕ) → List (List ℕ)
all_shown [] = []
all_shown (l ∷ ls) = shown_of (first_told (start_of (kept l))) ++ later_lines (start_of (kept l)) ls
