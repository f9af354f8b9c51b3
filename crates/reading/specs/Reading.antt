-- From input to reading, as document 01 has it.
use Rattle.std.specs.Prelude.{◌≡◌, Bool, true, cond, ◌&&◌, List, ℕ, zero, suc, ◌+◌, ◌-◌, ◌≤◌, ◌<◌, get_or, ℤ, pos, nat_abs, ◌+ℤ◌, ◌-ℤ◌, ◌*ℤ◌}
use Rattle.std.specs.Int.Signed.{le_z, lt_z}
use Rattle.exact.specs.Sign.{minus, within}
use Rattle.exact.specs.Exact.{nearest, to_step}
use Rattle.reading.specs.declared.Reading.{Reading}
use Rattle.reading.specs.declared.Reading.TheVariants.{Nothing, Under, Number, Over}

-- an input that is scaled, and a display that is shown
abbrev pub in_input : ℤ → Bool
in_input z = within (minus 99999) (pos 99999) z

abbrev pub in_display : ℤ → Bool
in_display z = within (minus 19999) (pos 99999) z

-- point k of a list of inputs or displays
abbrev pub point : List ℤ → ℕ → ℤ
point l k = get_or l k (pos 0)

-- ---- the segment

-- of the segments i to i + left the first whose right end is not below x, and i + left where none is
unfoldable pub first_from : List ℤ → ℤ → ℕ → ℕ → ℕ
first_from inputs x i zero = i
first_from inputs x i (suc left) = cond (le_z x (point inputs (suc i))) i (first_from inputs x (suc i) left)

-- segment k runs from point k to point k + 1, so that count points have the segments 0 to count - 2
unfoldable pub segment : List ℤ → ℕ → ℤ → ℕ
segment inputs count x = first_from inputs x 0 (count - 2)

-- ---- the line

-- the line through (x0, y0) and (x1, y1) at x is the exact fraction (y0 (x1 - x0) + (x - x0) (y1 - y0)) / (x1 - x0); as one
-- whole it is rounded to the nearest whole number
unfoldable pub on_line : ℤ → ℤ → ℤ → ℤ → ℤ → ℤ
on_line x0 y0 x1 y1 x = nearest (y0 *ℤ (x1 -ℤ x0) +ℤ (x -ℤ x0) *ℤ (y1 -ℤ y0)) (nat_abs (x1 -ℤ x0))

-- the line of segment k
abbrev pub on_segment : List ℤ → List ℤ → ℕ → ℤ → ℤ
on_segment inputs displays k x =
    on_line (point inputs k) (point displays k) (point inputs (k + 1)) (point displays (k + 1)) x

-- ---- the reading

-- a result above 99,999 reads Over and one below -19,999 Under
unfoldable pub judged : ℤ → Reading
judged v = cond (lt_z (pos 99999) v) Over (cond (lt_z v (minus 19999)) Under (Number v))

-- a whole number, to the nearest multiple of the step and then judged
unfoldable pub displayed : ℕ → ℤ → Reading
displayed step v = judged (to_step v step)

-- an input above 99,999 reads Over and one below -99,999 Under, whichever way the scale runs; any other is scaled
unfoldable pub reading_of : List ℤ → List ℤ → ℕ → ℤ → ℤ → Reading
reading_of inputs displays count step x =
    cond (lt_z (pos 99999) x) Over
    (cond (lt_z x (minus 99999)) Under
    (displayed (nat_abs step) (on_segment inputs displays (segment inputs count x) x)))

-- a reading whose number, if it is one, lies in the display range
unfoldable pub displayable : Reading → Bool
displayable Nothing = true
displayable Under = true
displayable (Number v) = in_display v
displayable Over = true

-- how far from zero the number lies that is shown
abbrev pub size : Reading → ℕ
size Nothing = 0
size Under = 0
size (Number v) = nat_abs v
size Over = 0

-- ---- rule 5 of a configuration: of the points in use, inputs -99,999 to 99,999, strictly rising, displays -19,999 to 99,999

-- a test passes at each of the first n places
unfoldable pub up_to : (ℕ → Bool) → ℕ → Bool
up_to test zero = true
up_to test (suc n) = up_to test n && test n

abbrev pub point_in : List ℤ → List ℤ → ℕ → Bool
point_in inputs displays k = in_input (point inputs k) && in_display (point displays k)

abbrev pub rises_at : List ℤ → ℕ → Bool
rises_at inputs k = lt_z (point inputs k) (point inputs (k + 1))

unfoldable pub points_in : List ℤ → List ℤ → ℕ → Bool
points_in inputs displays count = up_to (point_in inputs displays) count && up_to (rises_at inputs) (count - 1)

-- ---- an accepted scale

-- what an accepted configuration says of a scale: 2 to 16 points, of those in use inputs from -99,999 to 99,999 that
-- rise strictly and displays from -19,999 to 99,999, and a step from 1 to 100
pub record Scalable (inputs displays : List ℤ) (count : ℕ) (step : ℤ) : Type 0 where
  pub two : 2 ≤ count
  pub sixteen : count ≤ 16
  pub inputs_in : (k : ℕ) → k < count → in_input (point inputs k) ≡ true
  pub displays_in : (k : ℕ) → k < count → in_display (point displays k) ≡ true
  pub rising : (k : ℕ) → k + 1 < count → lt_z (point inputs k) (point inputs (k + 1)) ≡ true
  pub step_in : within (pos 1) (pos 100) step ≡ true
