-- What the search for a segment is to mean, said without a search.
use Rattle.std.specs.Prelude.{◌≡◌, true, List, ℕ, ◌+◌, ◌<◌, ℤ}
use Rattle.std.specs.Int.Signed.{le_z, lt_z}
use Rattle.reading.specs.Reading.{point}

-- segment k of a scale of count points is the one of x: the right end of each segment before it is below x, and its own is not
-- unless it is the last
pub record IsSegment (inputs : List ℤ) (count : ℕ) (x : ℤ) (k : ℕ) : Type 0 where
  pub there : k + 1 < count
  pub before : (j : ℕ) → j < k → lt_z (point inputs (j + 1)) x ≡ true
  pub here : k + 2 < count → le_z x (point inputs (k + 1)) ≡ true
