-- Where a reply stands in the buffer that was lent.
use Rattle.std.specs.Prelude.{ℕ, ◌-◌, Bool, cond, ◌&&◌, List, ◌++◌, Option, None, Some, leb, length, take, drop}

-- a text over the front of d
unfoldable pub over : List ℕ → List ℕ → List ℕ
over d text = text ++ drop (length text) d

-- d with a text from a place on: what stood before the place, the text, and what stood behind it
unfoldable pub laid : List ℕ → ℕ → List ℕ → List ℕ
laid d place text = take place d ++ over (drop place d) text

-- a buffer of so many bytes has room for n of them from a place on. A place past its end has none, not even for 0 bytes
abbrev pub room : ℕ → ℕ → ℕ → Bool
room size place n = leb place size && leb n (size - place)

-- the buffer afterwards: with the reply in it, or as it was where the whole of it has no room
unfoldable pub after : List ℕ → ℕ → List ℕ → List ℕ
after d place reply = cond (room (length d) place (length reply)) (laid d place reply) d

-- the answer: how many bytes were written, or that there was no room
unfoldable pub answer : List ℕ → ℕ → List ℕ → Option ℕ
answer d place reply = cond (room (length d) place (length reply)) (Some (length reply)) None
