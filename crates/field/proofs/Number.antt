-- How long a number's text is, and what it is made of. Assumes nothing.
use mathlib.Core.Path.{◌≡◌, refl, sym, ap, ◌∙◌}
use mathlib.Core.Bool.{Bool, true, false, cond}
use mathlib.Core.List.{List, [], ◌∷◌, ◌++◌, append_assoc}
use Prim.Native.Nat.{ℕ, zero, suc, ◌+◌, ◌-◌, ◌*◌, ◌/◌, ◌%◌, ◌^◌, ◌≤◌, ◌<◌}
use native.Mathlib.Nat.{div-lt_iff_lt-mul, div-le_self, one-le-pow}
use native.Mathlib.Omega.{arith}
use borrow.Author.Tests.{ltb-false}
use lib.Dec.{ltb}
use lib.IntN.{ℤ, nat_abs}
use lib.ListN.{length, take, replicate, length-append}
use lib.Pow.{pow-add}
use Rattle.exact.specs.Sign.{is_neg}
use Rattle.field.specs.Field.{digit, decimal, whole, fraction, sign, number, at_right}
use Rattle.field.proofs.Digits.{tens_below}
use Rattle.field.proofs.Right.{fraction_length}

pub power_some : (k : ℕ) → 0 < 10 ^ k
power_some k = one-le-pow k 10 (omega arith)

-- a number below ten to the power of j + 1 has at most j + 1 digits
decimal_length : (k j n : ℕ) → n < 10 ^ suc j → length (decimal k n) ≤ suc j
unfolding decimal
decimal_length zero j n h = omega arith
decimal_length (suc k) zero n h = by (ltb n 10) refl
  where
    by : (t : Bool) → ltb n 10 ≡ t → length (cond (ltb n 10) [] (decimal k (n / 10)) ++ (digit n ∷ [])) ≤ 1
    by true e = rw e (omega arith)
    by false e = absurd (omega (arith, ltb-false n 10 e))
decimal_length (suc k) (suc j) n h = by (ltb n 10) (decimal_length k j (n / 10) (tens_below (suc j) n h))
  where
    by : (t : Bool) → length (decimal k (n / 10)) ≤ suc j → length (cond t [] (decimal k (n / 10)) ++ (digit n ∷ [])) ≤ suc (suc j)
    by true i = omega arith
    by false i = omega (arith, length-append (decimal k (n / 10)) (digit n ∷ []))

-- the whole part of a number of nine digits has at most nine
pub whole_below : (places m : ℕ) → m < 10 ^ 9 → m / 10 ^ places < 10 ^ 9
whole_below places m h = omega (arith, div-le_self m (10 ^ places))

-- less one for each place
pub whole_short : (places m : ℕ) → places ≤ 4 → m < 10 ^ 9 → length (whole (m / 10 ^ places)) ≤ 9 - places
whole_short places m h k =
    let j = 8 - places in
    let n : suc j ≡ 9 - places = omega arith in
    let a : 9 - places + places ≡ 9 = omega arith in
    let e : 10 ^ (9 - places) * 10 ^ places ≡ 10 ^ 9 = sym (pow-add 10 (9 - places) places) ∙ ap (λ (x : ℕ). 10 ^ x) a in
    let b : m / 10 ^ places < 10 ^ (9 - places) = (div-lt_iff_lt-mul (power_some places)).1 (rw e k) in
    rw (← n) (decimal_length 9 j (m / 10 ^ places) (rw n b))

pub fraction_short : (k n : ℕ) → length (fraction k n) ≤ k + 1
unfolding fraction
fraction_short zero n = omega arith
fraction_short (suc k) n = omega (arith, fraction_length (suc k) n (omega arith))

pub sign_short : (z : ℤ) → length (sign z) ≤ 1
unfolding sign
sign_short z = by (is_neg z)
  where
    by : (t : Bool) → length {A = ℕ} (cond t (45 ∷ []) []) ≤ 1
    by true = omega arith
    by false = omega arith

-- the text's three parts, by a size and a power that were worked out
pub parts : (places : ℕ) (z : ℤ) (m p : ℕ) → m ≡ nat_abs z → p ≡ 10 ^ places → number places z ≡ sign z ++ (whole (m / p) ++ fraction places (m % p))
unfolding number
parts places z m p e f = rw (e, f) (append_assoc (sign z) _ _)

pub parts_length : (places : ℕ) (z : ℤ) (m p : ℕ) → m ≡ nat_abs z → p ≡ 10 ^ places
    → length (number places z) ≡ length (sign z) + (length (whole (m / p)) + length (fraction places (m % p)))
parts_length places z m p e f = rw (parts places z m p e f, length-append, length-append)

-- the longest is a minus, nine digits and a point
pub number_short : (places : ℕ) (z : ℤ) → places ≤ 4 → nat_abs z < 10 ^ 9 → length (number places z) ≤ 11
number_short places z h k =
    omega (
      arith,
      parts_length places z (nat_abs z) (10 ^ places) refl refl,
      sign_short z,
      whole_short places (nat_abs z) h k,
      fraction_short places (nat_abs z % 10 ^ places),
    )

take_same : (k n a : ℕ) → k ≤ n → take k (replicate n a) ≡ replicate k a
take_same zero n a h = refl
take_same (suc k) zero a h = absurd (omega arith)
take_same (suc k) (suc n) a h = ap (λ (l : List ℕ). a ∷ l) (take_same k n a (omega arith))

-- a text at the right end of twelve spaces
pub over_blank : (t : List ℕ) → at_right (replicate 12 32) t ≡ replicate (12 - length t) 32 ++ t
unfolding at_right
over_blank t = ap (λ (l : List ℕ). l ++ t) (take_same (12 - length t) 12 32 (omega arith))
