-- Worked cases of the analog code, in one table with one claim, and of the floor before it is held. Assumes nothing.
use mathlib.Core.Path.{◌≡◌, refl}
use mathlib.Core.List.{List, [], ◌∷◌, map}
use lib.IntN.{ℤ, pos}
use Rattle.exact.specs.Sign.{minus}
use Rattle.exact.specs.Exact.{floor}
use Rattle.reading.specs.declared.Reading.{Reading}
use Rattle.reading.specs.declared.Reading.TheVariants.{Nothing, Under, Number, Over}
use Rattle.analog.specs.Analog.{floor_by, held, code_of}

-- the low and the high display, a reading and its code
pub record Row : Type 0 where
  pub low : ℤ
  pub high : ℤ
  pub reading : Reading
  pub code : ℤ

abbrev pub row : ℤ → ℤ → Reading → ℤ → Row
row l h r c = record { low = l; high = h; reading = r; code = c }

abbrev pub rows : List Row
rows =
    -- document 01: 0 to 10,000, reading 5,000; then the ends, and numbers between them
    row (pos 0) (pos 10000) (Number (pos 5000)) (pos 2047)
    ∷ row (pos 0) (pos 10000) (Number (pos 0)) (pos 0)
    ∷ row (pos 0) (pos 10000) (Number (pos 10000)) (pos 4095)
    ∷ row (pos 0) (pos 10000) (Number (pos 3)) (pos 1)
    ∷ row (pos 0) (pos 10000) (Number (pos 9999)) (pos 4094)
    -- beyond the ends the code is held
    ∷ row (pos 0) (pos 10000) (Number (pos 10001)) (pos 4095)
    ∷ row (pos 0) (pos 10000) (Number (pos 99999)) (pos 4095)
    ∷ row (pos 0) (pos 10000) (Number (minus 1)) (pos 0)
    ∷ row (pos 0) (pos 10000) (Number (minus 19999)) (pos 0)
    -- a range that falls: the same formula, the other way round
    ∷ row (pos 10000) (pos 0) (Number (pos 5000)) (pos 2047)
    ∷ row (pos 10000) (pos 0) (Number (pos 10000)) (pos 0)
    ∷ row (pos 10000) (pos 0) (Number (pos 0)) (pos 4095)
    ∷ row (pos 10000) (pos 0) (Number (pos 9997)) (pos 1)
    ∷ row (pos 10000) (pos 0) (Number (pos 1)) (pos 4094)
    ∷ row (pos 10000) (pos 0) (Number (pos 10001)) (pos 0)
    ∷ row (pos 10000) (pos 0) (Number (minus 1)) (pos 4095)
    -- the widest range
    ∷ row (minus 19999) (pos 99999) (Number (pos 40000)) (pos 2047)
    ∷ row (pos 99999) (minus 19999) (Number (pos 40000)) (pos 2047)
    -- Over, Under and no reading, whichever way the range runs
    ∷ row (pos 0) (pos 10000) Over (pos 4095)
    ∷ row (pos 0) (pos 10000) Under (pos 0)
    ∷ row (pos 0) (pos 10000) Nothing (pos 0)
    ∷ row (pos 10000) (pos 0) Over (pos 4095)
    ∷ row (pos 10000) (pos 0) Under (pos 0)
    ∷ row (pos 10000) (pos 0) Nothing (pos 0)
    ∷ []

pub cases : map (λ (r : Row). code_of r.low r.high r.reading) rows ≡ map (λ (r : Row). r.code) rows
unfolding code_of held floor_by floor
cases = refl

-- n / d and its floor
pub record Fraction : Type 0 where
  pub n : ℤ
  pub d : ℤ
  pub whole : ℤ

abbrev pub fraction : ℤ → ℤ → ℤ → Fraction
fraction n d w = record { n = n; d = d; whole = w }

-- below zero the floor lies away from it, on either side of the divisor
abbrev pub fractions : List Fraction
fractions =
    fraction (pos 1) (pos 2) (pos 0)
    ∷ fraction (minus 1) (pos 2) (minus 1)
    ∷ fraction (minus 4) (pos 2) (minus 2)
    ∷ fraction (pos 1) (minus 2) (minus 1)
    ∷ fraction (minus 1) (minus 2) (pos 0)
    ∷ fraction (pos 4) (minus 2) (minus 2)
    ∷ fraction (minus 3) (minus 2) (pos 1)
    ∷ []

pub floors : map (λ (f : Fraction). floor_by f.n f.d) fractions ≡ map (λ (f : Fraction). f.whole) fractions
unfolding floor_by floor
floors = refl
