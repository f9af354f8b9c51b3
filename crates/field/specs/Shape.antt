-- How a number's text looks, said of the text alone.
use Rattle.std.specs.Prelude.{ℕ, zero, suc, ◌<◌, ◌≡◌, Bool, true, false, ◌&&◌, List, [], ◌∷◌, ◌++◌, ◌⊎◌, length}
use Rattle.register.specs.Bytes.{byte, within}
use Rattle.field.specs.Back.{is_digit, onward}

-- nothing but digits
unfoldable pub all_digits : List ℕ → Bool
all_digits [] = true
all_digits (x ∷ text) = is_digit x && all_digits text

-- one digit or more, and no zero in front
unfoldable pub no_zero_first : List ℕ → Bool
no_zero_first [] = false
no_zero_first (x ∷ text) = within (byte "1") (byte "9") x && all_digits text

-- a point before the places, where there are any
abbrev pub pointed : ℕ → List ℕ → List ℕ
pointed zero t = t
pointed (suc k) t = byte "." ∷ t

-- a sign, a whole part, and a digit for each place behind a point
pub record WellShaped (places : ℕ) (text : List ℕ) : Type 0 where
  pub sign : List ℕ
  pub whole : List ℕ
  pub fraction : List ℕ
  pub parts : text ≡ sign ++ whole ++ pointed places fraction
  -- no sign, or a minus where the digits say a number that is not zero
  pub signed : (sign ≡ []) ⊎ ((sign ≡ byte "-" ∷ []) × (0 < onward 0 text))
  -- at least one digit before the point: a zero alone, or digits with no zero in front
  pub before : (whole ≡ byte "0" ∷ []) ⊎ (no_zero_first whole ≡ true)
  pub each_place : length fraction ≡ places
  pub behind : all_digits fraction ≡ true
