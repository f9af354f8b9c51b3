-- Worked cases of scaling, in one table with one claim that is computed over the definition. Assumes nothing.
use mathlib.Core.Path.{◌≡◌, refl}
use mathlib.Core.List.{List, [], ◌∷◌, map}
use lib.IntN.{ℤ, pos}
use Rattle.exact.specs.Sign.{minus}
use Rattle.exact.specs.Exact.{half_up, nearest, to_step}
use Rattle.reading.specs.Reading.{first_from, segment, on_line, judged, displayed, reading_of}
use Rattle.reading.specs.declared.Reading.{Reading}
use Rattle.reading.specs.declared.Reading.TheVariants.{Under, Number, Over}

-- a scale of three points, a step and an input, with what is read
pub record Case : Type 0 where
  pub inputs : List ℤ
  pub displays : List ℤ
  pub step : ℤ
  pub input : ℤ
  pub reads : Reading

-- two points, and a third on the line through them
abbrev through : ℤ → ℤ → ℤ → ℤ → ℤ → ℤ → Reading → Case
through x1 y1 x2 y2 step input reads =
    record { inputs = pos 0 ∷ x1 ∷ x2 ∷ []; displays = pos 0 ∷ y1 ∷ y2 ∷ []; step = step; input = input; reads = reads }

abbrev pub cases : List Case
cases =
    through (pos 1) (pos 1) (pos 2) (pos 2) (pos 5) (pos 121) (Number (pos 120))
    ∷ through (pos 1) (pos 1) (pos 2) (pos 2) (pos 5) (pos 124) (Number (pos 125))
    -- a fraction is rounded to the nearest, on both sides of zero
    ∷ through (pos 3) (pos 10) (pos 6) (pos 20) (pos 1) (pos 1) (Number (pos 3))
    ∷ through (pos 3) (pos 10) (pos 6) (pos 20) (pos 1) (minus 1) (Number (minus 3))
    -- a half goes away from zero
    ∷ through (pos 2) (pos 1) (pos 4) (pos 2) (pos 1) (minus 1) (Number (minus 1))
    ∷ through (pos 2) (pos 1) (pos 4) (pos 2) (pos 1) (pos 1) (Number (pos 1))
    -- 0.6 is 1, and 1 is halfway to 2: rounded once, straight to the step, it would be 0
    ∷ through (pos 10) (pos 6) (pos 20) (pos 12) (pos 2) (pos 1) (Number (pos 2))
    -- rounding to the step can lead beyond the range
    ∷ through (pos 1) (pos 1) (pos 2) (pos 2) (pos 100) (pos 99999) Over
    -- an input beyond the limit is Over or Under whichever way the scale runs
    ∷ through (pos 1) (minus 1) (pos 2) (minus 2) (pos 1) (pos 100000) Over
    ∷ through (pos 1) (minus 1) (pos 2) (minus 2) (pos 1) (minus 100000) Under
    ∷ through (pos 1) (minus 1) (pos 2) (minus 2) (pos 1) (minus 99999) (Number (pos 99999))
    ∷ through (pos 1) (pos 1) (pos 2) (pos 2) (pos 1) (minus 19999) (Number (minus 19999))
    ∷ through (pos 1) (pos 1) (pos 2) (pos 2) (pos 1) (minus 20000) Under
    -- a corner at 10: up to it the first segment, beyond it the last
    ∷ through (pos 10) (pos 100) (pos 20) (pos 0) (pos 1) (pos 10) (Number (pos 100))
    ∷ through (pos 10) (pos 100) (pos 20) (pos 0) (pos 1) (pos 11) (Number (pos 90))
    ∷ through (pos 10) (pos 100) (pos 20) (pos 0) (pos 1) (pos 30) (Number (minus 100))
    ∷ []

abbrev read : Case → Reading
read c = reading_of c.inputs c.displays 3 c.step c.input

pub cases_hold : map read cases ≡ map (λ (c : Case). c.reads) cases
unfolding reading_of displayed judged on_line segment first_from to_step nearest half_up
cases_hold = refl
