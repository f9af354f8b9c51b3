-- Every number that can be shown has a well-shaped text. Assumes nothing.
use Prim.Native.Nat.{ℕ, zero, suc, ◌/◌, ◌%◌, ◌^◌, ◌<◌}
use native.Mathlib.Omega.{arith}
use mathlib.Core.Path.{◌≡◌, refl}
use mathlib.Core.Bool.{Bool, true, false, cond}
use mathlib.Core.List.{List, [], ◌∷◌, ◌++◌}
use mathlib.Core.Logic.{◌⊎◌, inl, inr}
use borrow.Author.Tests.{ltb-true, ltb-false}
use lib.Dec.{ltb}
use lib.IntN.{ℤ, pos, negsuc, nat_abs}
use Rattle.exact.proofs.Z.{both, never}
use Rattle.reading.specs.declared.Reading.TheVariants.{Number}
use Rattle.register.specs.Bytes.{within}
use Rattle.register.proofs.Ranges.{in_range}
use Rattle.field.specs.Field.{digit, digits, decimal, whole, fraction, sign, number, text, Showable}
use Rattle.field.specs.Back.{is_digit, onward}
use Rattle.field.specs.Shape.{all_digits, no_zero_first, pointed, WellShaped}
use Rattle.field.proofs.Digits.{digits_length, tens_below}
use Rattle.field.proofs.Number.{whole_below}
use Rattle.field.proofs.Back.{is_digit_lem, number_onward}

-- ---- one more digit behind

all_more : (t : List ℕ) (m : ℕ) → all_digits t ≡ true → all_digits (t ++ (digit m ∷ [])) ≡ true
unfolding all_digits
all_more [] m e = rw (is_digit_lem m)
all_more (x ∷ t) m e =
    let b = both (is_digit x) (all_digits t) e in
    rw b.0 (all_more t m b.1)

first_more : (t : List ℕ) (m : ℕ) → no_zero_first t ≡ true → no_zero_first (t ++ (digit m ∷ [])) ≡ true
unfolding no_zero_first
first_more [] m e = never e
first_more (x ∷ t) m e =
    let b = both (within 49 57 x) (all_digits t) e in
    rw b.0 (all_more t m b.1)

-- ---- the parts

digits_all : (k m : ℕ) → all_digits (digits k m) ≡ true
unfolding digits
digits_all zero m = unfold all_digits in refl
digits_all (suc k) m = all_more (digits k (m / 10)) m (digits_all k (m / 10))

decimal_first : (k m : ℕ) → 0 < m → m < 10 ^ k → no_zero_first (decimal k m) ≡ true
unfolding decimal
decimal_first zero m h l = absurd (omega arith)
decimal_first (suc k) m h l = by (ltb m 10) refl (λ i. decimal_first k (m / 10) i (tens_below k m l))
  where
    by : (t : Bool) → ltb m 10 ≡ t → (0 < m / 10 → no_zero_first (decimal k (m / 10)) ≡ true) → no_zero_first (cond t [] (decimal k (m / 10)) ++ (digit m ∷ [])) ≡ true
    by true e i = unfold no_zero_first all_digits in rw (in_range 49 57 (digit m) (omega (arith, ltb-true m 10 e)) (omega arith))
    by false e i = first_more (decimal k (m / 10)) m (i (omega (arith, ltb-false m 10 e)))

whole_before : (m : ℕ) → m < 10 ^ 9 → (whole m ≡ 48 ∷ []) ⊎ (no_zero_first (whole m) ≡ true)
whole_before zero h = inl (unfold decimal in refl)
whole_before (suc m) h = inr (decimal_first 9 (suc m) (omega arith) h)

sign_signed : (z : ℤ) (m : ℕ) → m ≡ nat_abs z → (sign z ≡ []) ⊎ ((sign z ≡ 45 ∷ []) × (0 < m))
unfolding sign
sign_signed (pos k) m e = inl refl
sign_signed (negsuc k) m e = inr (refl, omega arith)

fraction_pointed : (places m : ℕ) → fraction places m ≡ pointed places (digits places m)
unfolding fraction digits
fraction_pointed zero m = refl
fraction_pointed (suc k) m = refl

-- ---- the text

pub well_shaped : (places : ℕ) (z : ℤ) → Showable places (Number z) → WellShaped places (text places (Number z))
unfolding text number
well_shaped places z s =
    let m = nat_abs z / 10 ^ places in
    let r = nat_abs z % 10 ^ places in
    record {
      sign = sign z;
      whole = whole m;
      fraction = digits places r;
      parts = rw (fraction_pointed places r);
      signed = sign_signed z (onward 0 (number places z)) (number_onward places z s.short);
      before = whole_before m (whole_below places (nat_abs z) s.short);
      each_place = digits_length places r;
      behind = digits_all places r;
    }
