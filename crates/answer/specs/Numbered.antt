-- What is claimed of the numbers: they are those of the table, and the two numbers of an answer tell which one it is.
use Rattle.std.specs.Prelude.{◌≡◌, List, [], ◌∷◌, map, ◌≢◌, ℕ}
use Rattle.answer.specs.Answer.{number, value}
use Rattle.answer.specs.declared.Answer.{Answer}
use Rattle.answer.specs.declared.Answer.TheVariants.{Done, Stored, Replied, OtherNode, BadForm, Dropped, TooLong, InAutomatic, NoRoom, UnknownKey, Refused, NotStarted}

-- the rows of document 01's table of answers in its order: carried out, byte stored, reply of n bytes, another node, bad form, CR or
-- LF, too long, analog register in automatic mode, no room, unknown key, refused by a rule, not started. Its row 7 is withdrawn
abbrev pub table : ℕ → ℕ → List Answer
table n rule =
    Done ∷ Stored ∷ Replied n ∷ OtherNode ∷ BadForm ∷ Dropped ∷ TooLong ∷ InAutomatic ∷ NoRoom ∷ UnknownKey ∷ Refused rule ∷ NotStarted ∷ []

pub record Numbered : Type 0 where
  -- the rows are numbered from 0 to 12 with a gap at 7, and row 2 carries the length of its reply, row 11 the number of the broken rule
  pub numbers : (n rule : ℕ) → map number (table n rule) ≡ 0 ∷ 1 ∷ 2 ∷ 3 ∷ 4 ∷ 5 ∷ 6 ∷ 8 ∷ 9 ∷ 10 ∷ 11 ∷ 12 ∷ []
  pub values : (n rule : ℕ) → map value (table n rule) ≡ 0 ∷ 0 ∷ n ∷ 0 ∷ 0 ∷ 0 ∷ 0 ∷ 0 ∷ 0 ∷ 0 ∷ rule ∷ 0 ∷ []
  -- no answer is 7
  pub withdrawn : (a : Answer) → number a ≢ 7
  -- only answers 2 and 11 carry a number other than 0
  pub carry_none : (a : Answer) → number a ≢ 2 → number a ≢ 11 → value a ≡ 0
  -- no two answers have the same number and value
  pub apart : (a b : Answer) → number a ≡ number b → value a ≡ value b → a ≡ b
