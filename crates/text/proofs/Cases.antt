-- Numbers as they are written and what they are, in one table with one claim for each kind. Assumes nothing.
use mathlib.Core.Path.{◌≡◌, refl}
use mathlib.Core.Bool.{Bool, true, false}
use mathlib.Core.List.{List, [], ◌∷◌, ◌++◌, map}
use Prim.Native.Nat.{ℕ}
use lib.IntN.{ℤ, pos, negsuc}
use Rattle.std.specs.Prelude.{Option, Some, None}
use Rattle.text.specs.Number.{digits, value, natural_of, signed_of, number_of, flag_of, spelled}

pub record Row (A : Type 0) : Type 0 where
  pub text : List ℕ
  pub is : A

abbrev row : {A : Type 0} → List ℕ → A → Row A
row s a = record { text = s; is = a }

abbrev pub number_rows : List (Row (Option ℤ))
unfolding spelled
number_rows =
    row (spelled 3 437) (Some (pos 437))
    ∷ row (spelled 10 437) (Some (pos 437))
    ∷ row (spelled 11 437) None
    ∷ row (45 ∷ spelled 1 1) (Some (negsuc 0))
    ∷ row (45 ∷ spelled 1 0) (Some (pos 0))
    ∷ row (spelled 10 2147483647) (Some (pos 2147483647))
    ∷ row (spelled 10 2147483648) None
    ∷ row (45 ∷ spelled 10 2147483648) (Some (negsuc 2147483647))
    ∷ row (45 ∷ spelled 10 2147483649) None
    ∷ row (spelled 10 9999999999) None
    ∷ row [] None
    ∷ row (45 ∷ []) None
    ∷ row (45 ∷ 45 ∷ spelled 1 1) None
    ∷ row (43 ∷ spelled 1 1) None
    ∷ row (32 ∷ spelled 1 1) None
    ∷ row (spelled 1 1 ++ (13 ∷ [])) None
    ∷ row (spelled 1 6 ++ (32 ∷ [])) None
    ∷ []

pub numbers : map (λ (r : Row (Option ℤ)). number_of r.text) number_rows ≡ map (λ (r : Row (Option ℤ)). r.is) number_rows
unfolding number_of signed_of natural_of digits value spelled
numbers = refl

-- a place: up to 20 digits
abbrev pub place_rows : List (Row (Option ℕ))
unfolding spelled
place_rows =
    row (spelled 1 0) (Some 0)
    ∷ row (spelled 3 170) (Some 170)
    ∷ row (spelled 20 18446744073709551615) (Some 18446744073709551615)
    ∷ row (spelled 20 18446744073709551616) None
    ∷ row (spelled 20 99999999999999999999) None
    ∷ row (spelled 21 7) None
    ∷ row (45 ∷ spelled 1 1) None
    ∷ row [] None
    ∷ []

pub places : map (λ (r : Row (Option ℕ)). natural_of 20 r.text) place_rows ≡ map (λ (r : Row (Option ℕ)). r.is) place_rows
unfolding natural_of digits value spelled
places = refl

abbrev pub flag_rows : List (Row (Option Bool))
flag_rows =
    row (48 ∷ []) (Some false)
    ∷ row (49 ∷ []) (Some true)
    ∷ row (50 ∷ []) None
    ∷ row (48 ∷ 49 ∷ []) None
    ∷ row (45 ∷ 48 ∷ []) None
    ∷ row [] None
    ∷ []

pub flags : map (λ (r : Row (Option Bool)). flag_of r.text) flag_rows ≡ map (λ (r : Row (Option Bool)). r.is) flag_rows
unfolding flag_of
flags = refl
