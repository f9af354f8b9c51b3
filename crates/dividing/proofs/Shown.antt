-- What a number is judged to read tells whether it is a display. Assumes nothing.
use mathlib.Core.Path.{◌≡◌, refl, sym, ap, ap₂, ◌∙◌}
use mathlib.Core.Bool.{Bool, true, false, cond, ◌&&◌}
use lib.IntN.{ℤ, pos}
use lib.Signed.{le_z, lt_z}
use Rattle.exact.specs.Sign.{minus}
use Rattle.exact.proofs.Z.{not_lt, lt_not_le, and_false}
use Rattle.reading.specs.Reading.{in_display, judged}
use Rattle.reading.specs.declared.Reading.{Reading}
use Rattle.reading.specs.declared.Reading.TheVariants.{Nothing, Under, Number, Over}

-- a reading is a number, and which one, where it is one
abbrev is_number : Reading → Bool
is_number Nothing = false
is_number Under = false
is_number (Number v) = true
is_number Over = false

abbrev number_or : ℤ → Reading → ℤ
number_or z Nothing = z
number_or z Under = z
number_or z (Number v) = v
number_or z Over = z

by_tests : (z : ℤ) → (in_display z ≡ is_number (judged z)) × (number_or z (judged z) ≡ z)
unfolding judged
by_tests z = go (lt_z (pos 99999) z) (lt_z z (minus 19999)) refl refl
  where
    go : (s t : Bool) → lt_z (pos 99999) z ≡ s → lt_z z (minus 19999) ≡ t
        → (in_display z ≡ is_number (cond s Over (cond t Under (Number z)))) × (number_or z (cond s Over (cond t Under (Number z))) ≡ z)
    go true t above below = (ap (λ (b : Bool). le_z (minus 19999) z && b) (lt_not_le (pos 99999) z above) ∙ and_false (le_z (minus 19999) z), refl)
    go false true above below = (ap (λ (b : Bool). b && le_z z (pos 99999)) (lt_not_le z (minus 19999) below), refl)
    go false false above below = (ap₂ ◌&&◌ (not_lt z (minus 19999) below) (not_lt (pos 99999) z above), refl)

-- by the reading that it is judged to be
pub shown_as : (z : ℤ) (r : Reading) → judged z ≡ r → in_display z ≡ is_number r
shown_as z r e = (by_tests z).0 ∙ ap is_number e

pub number_as : (z v : ℤ) → judged z ≡ Number v → v ≡ z
number_as z v e = sym (ap (number_or z) e) ∙ (by_tests z).1
