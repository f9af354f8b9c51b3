-- Numbers in a line: signed ones of 32 bits, unsigned ones of 64, and a yes or no.
use Rattle.std.specs.Prelude.{ℕ, zero, suc, ◌+◌, ◌-◌, ◌*◌, ◌/◌, ◌%◌, ◌^◌, ◌≤◌, ◌<◌, ◌≡◌, List, [], ◌∷◌, ◌++◌, Bool, true, false, cond, ◌&&◌, length, drop, get_or, leb, eqb, ℤ, pos, neg_ℤ, Option, Some, None}

-- a byte `0` to `9`
abbrev pub is_digit : ℕ → Bool
is_digit b = leb 48 b && leb b 57

unfoldable pub digits : List ℕ → Bool
digits [] = true
digits (b ∷ s) = is_digit b && digits s

-- the decimal value of digits that follow those of v
unfoldable pub value : ℕ → List ℕ → ℕ
value v [] = v
value v (b ∷ s) = value (v * 10 + (b - 48)) s

-- 1 to so many digits, whose value is below 2^64
unfoldable pub natural_of : ℕ → List ℕ → Option ℕ
natural_of most s =
    cond ((leb 1 (length s) && leb (length s) most) && (digits s && leb (value 0 s) 18446744073709551615)) (Some (value 0 s)) None

-- m or −m
abbrev pub signed : Bool → ℕ → ℤ
signed true m = neg_ℤ (pos m)
signed false m = pos m

-- the largest size of a number with that sign
abbrev pub most : Bool → ℕ
most true = 2147483648
most false = 2147483647

unfoldable pub signed_of : Bool → Option ℕ → Option ℤ
signed_of neg (Some v) = cond (leb v (most neg)) (Some (signed neg v)) None
signed_of neg None = None

-- an optional minus and 1 to 10 digits
unfoldable pub number_of : List ℕ → Option ℤ
number_of s = cond (eqb (get_or s 0 0) 45) (signed_of true (natural_of 10 (drop 1 s))) (signed_of false (natural_of 10 s))

-- the one byte `0` or `1`
unfoldable pub flag_of : List ℕ → Option Bool
flag_of s =
    cond (eqb (length s) 1)
    (cond (eqb (get_or s 0 0) 48) (Some false) (cond (eqb (get_or s 0 0) 49) (Some true) None))
    None

-- ---- what it is to be written as a number

-- n in k digits
unfoldable pub spelled : ℕ → ℕ → List ℕ
spelled zero n = []
spelled (suc k) n = spelled k (n / 10) ++ ((48 + n % 10) ∷ [])

abbrev pub with_minus : Bool → List ℕ → List ℕ
with_minus true s = 45 ∷ s
with_minus false s = s

-- s is 1 to so many digits, and n the number, below 2^64
pub record Digits (most : ℕ) (s : List ℕ) (n : ℕ) : Type 0 where
  pub places : ℕ
  pub some : 1 ≤ places
  pub few : places ≤ most
  pub holds : n < 10 ^ places
  pub fits : n ≤ 18446744073709551615
  pub text : s ≡ spelled places n

-- s is a number's sign and 1 to 10 digits, and z the number, in signed 32 bits
pub record Written (s : List ℕ) (z : ℤ) : Type 0 where
  pub neg : Bool
  pub size : ℕ
  pub body : List ℕ
  pub spells : Digits 10 body size
  pub fits : size ≤ most neg
  pub text : s ≡ with_minus neg body
  pub is : z ≡ signed neg size
