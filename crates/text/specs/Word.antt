-- Words of a line, with one space between two of them.
use Rattle.std.specs.Prelude.{ℕ, ◌+◌, List, length, drop}
use Rattle.text.specs.Line.{before}

-- where the word ends that begins at a place
unfoldable pub word_end : ℕ → List ℕ → ℕ
word_end at s = at + length (before 32 (drop at s))
