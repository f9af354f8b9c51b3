-- The rounding steps and the powers of ten, which document 01 fixes as constants.
use Rattle.std.specs.Prelude.{Bool, false, ◌||◌, List, [], ◌∷◌, ℕ, ℤ, pos}
use Rattle.exact.specs.Sign.{eq_z}

-- rounding 1, 2, 5, 10, 20, 50 or 100
abbrev pub steps : List ℤ
steps = pos 1 ∷ pos 2 ∷ pos 5 ∷ pos 10 ∷ pos 20 ∷ pos 50 ∷ pos 100 ∷ []

-- z stands in a list
unfoldable pub among : ℤ → List ℤ → Bool
among z [] = false
among z (x ∷ xs) = eq_z z x || among z xs

-- 1, 10, 100, 1,000 and 10,000: one for each number of decimal places, 0 to 4
abbrev pub powers : List ℕ
powers = 1 ∷ 10 ∷ 100 ∷ 1000 ∷ 10000 ∷ []
