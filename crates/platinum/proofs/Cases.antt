-- Worked readings of a platinum sensor, in one table with one claim. Assumes nothing.
use mathlib.Core.Path.{◌≡◌, refl}
use mathlib.Core.List.{List, [], ◌∷◌, map}
use Prim.Native.Nat.{ℕ}
use lib.IntN.{ℤ, pos}
use Rattle.exact.specs.Sign.{minus}
use Rattle.exact.specs.Exact.{half_up, nearest, to_step}
use Rattle.reading.specs.Reading.{first_from, segment, on_line, judged, displayed}
use Rattle.reading.specs.declared.Reading.{Reading}
use Rattle.reading.specs.declared.Reading.TheVariants.{Under, Number, Over}
use Rattle.platinum.specs.Table.{resistances}
use Rattle.platinum.specs.Platinum.{tenths_at, sensed}

pub record Row : Type 0 where
  pub step : ℕ
  pub input : ℤ
  pub reading : Reading

abbrev reads : ℕ → ℤ → Reading → Row
reads step input reading = record { step = step; input = input; reading = reading }

abbrev pub rows : List Row
rows =
    -- the ends, and beside them
    reads 1 (pos 18519) Under
    ∷ reads 1 (pos 18520) (Number (minus 2000))
    ∷ reads 100 (pos 18520) (Number (minus 2000))
    ∷ reads 1 (pos 390481) (Number (pos 8500))
    ∷ reads 1 (pos 390482) Over
    ∷ reads 1 (pos 0) Under
    ∷ reads 1 (minus 18520) Under
    -- halves, away from zero on both sides of it: -1997.5, -47.5 and 202.5
    ∷ reads 1 (pos 18628) (Number (minus 1998))
    ∷ reads 1 (pos 98142) (Number (minus 48))
    ∷ reads 1 (pos 107891) (Number (pos 203))
    -- about zero degrees, past the limit that an input by points has
    ∷ reads 1 (pos 99999) (Number (pos 0))
    ∷ reads 1 (pos 100000) (Number (pos 0))
    ∷ reads 1 (pos 100039) (Number (pos 1))
    -- first to the tenth and then to the step: 4.50.. is 5 and then 10, -1994.99.. is -1995 and then -2000
    ∷ reads 1 (pos 100176) (Number (pos 5))
    ∷ reads 10 (pos 100176) (Number (pos 10))
    ∷ reads 1 (pos 18737) (Number (minus 1995))
    ∷ reads 10 (pos 18737) (Number (minus 2000))
    ∷ reads 20 (pos 18737) (Number (minus 2000))
    ∷ []

pub cases : map (λ (r : Row). sensed (pos r.step) r.input) rows ≡ map (λ (r : Row). r.reading) rows
unfolding sensed resistances tenths_at segment first_from on_line displayed judged to_step nearest half_up
cases = refl
