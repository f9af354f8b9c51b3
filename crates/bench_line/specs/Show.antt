-- What is printed of a line, piece by piece.
use Rattle.std.specs.Prelude.{ℕ, cond, List, [], ◌∷◌, ◌++◌, leb, eqb, length, take, Option, Some, None}
use Rattle.answer.specs.Answer.{number, value}
use Rattle.answer.specs.declared.Answer.{Answer}
use Rattle.register.specs.Bytes.{ascii}
use Rattle.text.specs.Numeral.{numeral}

-- a number and an LF
abbrev pub number_line : ℕ → List (List ℕ)
number_line n = numeral n ∷ (10 ∷ []) ∷ []

-- the first n bytes of the reply, of which there are as many
unfoldable pub reply_pieces : ℕ → List ℕ → List (List ℕ)
reply_pieces n reply = cond (leb n (length reply)) (take n reply ∷ []) []

-- the answer's number and LF, and after a 2 the reply itself
unfoldable pub answer_pieces : Answer → List ℕ → List (List ℕ)
answer_pieces a reply = number_line (number a) ++ cond (eqb (number a) 2) (reply_pieces (value a) reply) []

-- the answer of a line's last event, and `?` and LF for any other line
unfoldable pub shown_of : Option Answer → List ℕ → List (List ℕ)
shown_of (Some a) reply = answer_pieces a reply
shown_of None reply = (ascii "?" ++ (10 ∷ [])) ∷ []
