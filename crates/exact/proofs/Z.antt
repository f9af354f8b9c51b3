-- The kit of laws on ℤ, by the magnitude `nat_abs`, a ℕ, which omega reads. Every crate cites it. Assumes nothing.
use mathlib.Core.Path.{◌≡◌, refl, sym, ap, ap₂, subst, ◌∙◌}
use mathlib.Core.Bool.{Bool, true, false, cond, not, ◌&&◌}
use Prim.Native.Nat.{ℕ, zero, suc, ◌+◌, ◌*◌, ◌-◌, ◌/◌, ◌^◌, ◌≤◌, ◌<◌, zero-le}
use native.Mathlib.Nat.{mul-le-mul, le_of_lt, div-le_self, zero-div}
use native.Mathlib.Omega.{arith}
use borrow.Author.Tests.{lt-ltb, le-ltb, le-leb, lt-leb, ltb-true, ltb-false, leb-true, leb-false, eq-eqb, ne_eqb, eqb-true, eqb-false}
use lib.IntN.{ℤ, pos, negsuc, neg_ℤ, nat_abs, sub_ℕ, suc_ℤ, pred_ℤ, ◌+ℤ◌, ◌-ℤ◌, ◌*ℤ◌, +ℤ_idl, +ℤ_assoc, +ℤ_comm, zero-*ℤ, suc_ℤ-*ℤ, *ℤ-zero, neg_ℤ-neg_ℤ, neg_ℤ-+ℤ, -ℤ-+ℤ_cancel, +ℤ_one, -ℤ_one}
use lib.Dec.{T, ltb, leb, eqb, leb-suc-suc}
use lib.Signed.{mag, lt_z, le_z, non_neg, quot_z, nat_abs-le, lt_z_yes, le_z_yes, <ℤ-≤ℤ_trans, clash_ℤ}
use mir.Syntax.{Width, w32, w64}
use mir.Val.{SFits, hbits, to_z, of_z}
use mir.Facts.{to_z-of_z, sfits_widen}
use Rattle.exact.specs.Sign.{is_neg, eq_z, within}

-- what is read back from the bits of z, where z is v and v fits
pub rd : {w : Width} {z v : ℤ} → z ≡ v → SFits w v → to_z w (of_z w z) ≡ v
rd {w} e f = ap (λ (y : ℤ). to_z w (of_z w y)) e ∙ to_z-of_z f

pub fits_as : {w : Width} {z v : ℤ} → z ≡ v → SFits w v → SFits w z
fits_as {w} e f = subst (SFits w) (sym e) f

mag_abs : (z : ℤ) → mag z ≤ nat_abs z
mag_abs (pos n) = omega arith
mag_abs (negsuc n) = omega arith

-- a magnitude's bound is a fit
pub abs_fits : {w : Width} (z : ℤ) → nat_abs z < 2 ^ hbits w → SFits w z
abs_fits z h = record { sfits = omega (arith, mag_abs z) }

pub abs_neg : (z : ℤ) → nat_abs (neg_ℤ z) ≡ nat_abs z
abs_neg (pos zero) = refl
abs_neg (pos (suc n)) = refl
abs_neg (negsuc n) = refl

-- the test x < 0
pub neg_test : (z : ℤ) → lt_z z (pos 0) ≡ is_neg z
neg_test (pos n) = le-ltb n 0 zero-le
neg_test (negsuc n) = refl

-- −z, as the code has it, 0 − z
pub minus : (z : ℤ) → pos 0 -ℤ z ≡ neg_ℤ z
minus z = +ℤ_idl (neg_ℤ z)

pub never : {X : Type 0} → false ≡ true → X
never e = absurd (subst T (sym e) tt)

-- the same test, of a parameter
pub neg_is : {w : Width} {z : ℤ} {b : Bool} → SFits w z → lt_z (to_z w (of_z w z)) (pos 0) ≡ b → is_neg z ≡ b
neg_is {w} {z} f e = sym (neg_test z) ∙ ap (λ (y : ℤ). lt_z y (pos 0)) (sym (to_z-of_z f)) ∙ e

pub non_neg_neg : (z : ℤ) → is_neg z ≡ true → T (non_neg (neg_ℤ z))
non_neg_neg (pos n) e = never e
non_neg_neg (negsuc n) e = tt

pub non_neg_is : (z : ℤ) → is_neg z ≡ false → T (non_neg z)
non_neg_is (pos n) e = tt
non_neg_is (negsuc n) e = never (sym e)

-- ---- magnitudes of a difference, a sum and a product, in ℕ

cond_ind : (c : Bool) (x y : ℤ) (P : ℤ → Type 0) → (c ≡ true → P x) → (c ≡ false → P y) → P (cond c x y)
cond_ind true x y P f g = f refl
cond_ind false x y P f g = g refl

pub abs_subℕ : (a b : ℕ) → nat_abs (sub_ℕ a b) ≡ (a - b) + (b - a)
abs_subℕ a b =
    cond_ind (ltb a b) (negsuc (b - suc a)) (pos (a - b)) (λ z. nat_abs z ≡ (a - b) + (b - a))
    (λ t. omega (arith, ltb-true)) (λ t. omega (arith, ltb-false))

-- |a − b| of two naturals
pub abs_diff : (a b : ℕ) → nat_abs (pos a -ℤ pos b) ≡ (a - b) + (b - a)
abs_diff a zero = omega arith
abs_diff a (suc b) = abs_subℕ a (suc b)

pub abs_add_le : (x y : ℤ) → nat_abs (x +ℤ y) ≤ nat_abs x + nat_abs y
abs_add_le (pos a) (pos b) = omega arith
abs_add_le (pos a) (negsuc b) = omega (arith, abs_subℕ a (suc b))
abs_add_le (negsuc a) (pos b) = omega (arith, abs_subℕ b (suc a))
abs_add_le (negsuc a) (negsuc b) = omega arith

pub abs_sub_le : (x y : ℤ) → nat_abs (x -ℤ y) ≤ nat_abs x + nat_abs y
abs_sub_le x y = omega (arith, abs_add_le x (neg_ℤ y), abs_neg y)

pub abs_mul : (x y : ℤ) → nat_abs (x *ℤ y) ≡ nat_abs x * nat_abs y
abs_mul (pos a) (pos b) = refl
abs_mul (pos a) (negsuc b) = abs_neg (pos (a * suc b))
abs_mul (negsuc a) (pos b) = abs_neg (pos (suc a * b))
abs_mul (negsuc a) (negsuc b) = refl

-- a minus goes out of a product
pub mul_neg : (a : ℕ) (z : ℤ) → pos a *ℤ neg_ℤ z ≡ neg_ℤ (pos a *ℤ z)
mul_neg a (pos zero) = rw (*ℤ-zero (pos a))
mul_neg a (pos (suc n)) = refl
mul_neg a (negsuc n) = sym (neg_ℤ-neg_ℤ (pos (a * suc n)))

-- |−x − (−y)| is |x − y|
pub abs_neg_neg : (x y : ℤ) → nat_abs (neg_ℤ x -ℤ neg_ℤ y) ≡ nat_abs (x -ℤ y)
abs_neg_neg x y = ap nat_abs (sym (neg_ℤ-+ℤ x (neg_ℤ y))) ∙ abs_neg (x -ℤ y)

-- numbers on the two sides of zero: their distance is the sum of the magnitudes
pub between_signs : (x y : ℕ) → nat_abs (neg_ℤ (pos x) -ℤ pos y) ≡ x + y
between_signs x y = ap nat_abs (sym (neg_ℤ-+ℤ (pos x) (pos y))) ∙ abs_neg (pos (x + y))

pub between_signs' : (x y : ℕ) → nat_abs (pos x -ℤ neg_ℤ (pos y)) ≡ x + y
between_signs' x y = ap (λ (z : ℤ). nat_abs (pos x +ℤ z)) (neg_ℤ-neg_ℤ (pos y))

-- a number that is not negative is its magnitude
pub is_pos : (z : ℤ) → is_neg z ≡ false → z ≡ pos (nat_abs z)
is_pos (pos n) e = refl
is_pos (negsuc n) e = never (sym e)

pub abs_mul_le : (x y : ℤ) (a b : ℕ) → nat_abs x ≤ a → nat_abs y ≤ b → nat_abs (x *ℤ y) ≤ a * b
abs_mul_le x y a b h k = rw (abs_mul x y) (mul-le-mul h k)

-- a number that is not above hi and not below −(lo + 1)
pub between_abs : (z : ℤ) (hi lo : ℕ) → lo < hi → lt_z (pos hi) z ≡ false → lt_z z (negsuc lo) ≡ false → nat_abs z ≤ hi
between_abs (pos n) hi lo h a b = omega (arith, ltb-false)
between_abs (negsuc n) hi lo h a b = omega (arith, ltb-false)

-- ---- what tests tell

pub both : (t u : Bool) → (t && u) ≡ true → (t ≡ true) × (u ≡ true)
both true u e = (refl, e)
both false u e = never e

pub and_false : (t : Bool) → (t && false) ≡ false
and_false true = refl
and_false false = refl

-- a test that is turned round
pub turned_true : (t : Bool) → not t ≡ true → t ≡ false
turned_true true e = never e
turned_true false e = refl

pub turned_false : (t : Bool) → not t ≡ false → t ≡ true
turned_false true e = refl
turned_false false e = never (sym e)

-- what holds of both holds of the one that a test chooses
pub either : {A : Type 0} (P : A → Type 0) (t : Bool) {x y : A} → P x → P y → P (cond t x y)
either P true p q = p
either P false p q = q

-- −(lo + 1) ≤ z ≤ hi
pub between_is : (z : ℤ) (hi lo : ℕ) → lo < hi → (le_z (negsuc lo) z && le_z z (pos hi)) ≡ true → nat_abs z ≤ hi
between_is (pos n) hi lo h e = omega (arith, leb-true)
between_is (negsuc n) hi lo h e = let p = both (leb n lo) true e in omega (arith, leb-true)

-- lo ≤ z ≤ hi, of two naturals
pub from_to : (z : ℤ) (lo hi : ℕ) → (le_z (pos lo) z && le_z z (pos hi)) ≡ true → (is_neg z ≡ false) × ((lo ≤ nat_abs z) × (nat_abs z ≤ hi))
from_to (pos n) lo hi e = let p = both (leb lo n) (leb n hi) e in (refl, omega (arith, leb-true))
from_to (negsuc n) lo hi e = never e

sub_up : (a b : ℕ) → b < a → (is_neg (sub_ℕ a b) ≡ false) × (0 < nat_abs (sub_ℕ a b))
sub_up a b h = rw (le-ltb a b (le_of_lt h)) (refl, omega arith)

-- a < b: the difference is above zero
pub lt_diff : (a b : ℤ) → lt_z a b ≡ true → (is_neg (b -ℤ a) ≡ false) × (0 < nat_abs (b -ℤ a))
lt_diff (pos zero) (pos n) e = (refl, omega (arith, ltb-true))
lt_diff (pos (suc m)) (pos n) e = sub_up n (suc m) (ltb-true (suc m) n e)
lt_diff (pos m) (negsuc n) e = never e
lt_diff (negsuc m) (pos n) e = (refl, omega arith)
lt_diff (negsuc m) (negsuc n) e = sub_up (suc m) (suc n) (omega (arith, ltb-true))

-- ---- an i32 as an i64

pub widens : {z : ℤ} → SFits w32 z → SFits w64 (to_z w32 (of_z w32 z))
widens f = fits_as (to_z-of_z f) (sfits_widen tt f)

pub widened : {z : ℤ} → SFits w32 z → to_z w64 (of_z w64 (to_z w32 (of_z w32 z))) ≡ z
widened f = rd {w = w64} (to_z-of_z f) (sfits_widen {w = w32} {w' = w64} tt f)

-- what is read back of an element (`.given`) or of a call's result (`.ok`)
pub back32 : (z : ℤ) → mag z < 2 ^ 31 → to_z w32 (of_z w32 z) ≡ z
back32 z h = to_z-of_z {w = w32} (record { sfits = h })

pub back64 : (z : ℤ) → mag z < 2 ^ 63 → to_z w64 (of_z w64 z) ≡ z
back64 z h = to_z-of_z {w = w64} (record { sfits = h })

-- ---- the quotient, cut towards zero

pub abs_quot : (x y : ℤ) → nat_abs (quot_z x y) ≡ nat_abs x / nat_abs y
abs_quot (pos a) (pos b) = refl
abs_quot (pos a) (negsuc b) = abs_neg (pos (a / suc b))
abs_quot (negsuc a) (pos b) = abs_neg (pos (suc a / b))
abs_quot (negsuc a) (negsuc b) = refl

pub abs_quot_le : (x y : ℤ) → nat_abs (quot_z x y) ≤ nat_abs x
abs_quot_le x y = rw (abs_quot x y) (div-le_self (nat_abs x) (nat_abs y))

-- the bits of a divisor, which `/` and `%` ask not to be 0
pub divisor : (w : Width) (z : ℤ) → is_neg z ≡ false → 0 < nat_abs z → 0 < of_z w z
divisor w (pos n) e h = h
divisor w (negsuc n) e h = never (sym e)

pub quot_neg : (m k : ℕ) → quot_z (neg_ℤ (pos m)) (pos k) ≡ neg_ℤ (pos (m / k))
quot_neg zero k = rw (zero-div k)
quot_neg (suc m) k = refl

-- ---- the test of equality, which is made on the bits

eqb_iff : (a b c d : ℕ) → (a ≡ b → c ≡ d) → (c ≡ d → a ≡ b) → eqb a b ≡ eqb c d
eqb_iff a b c d f g = go (eqb c d) refl
  where
    go : (t : Bool) → eqb c d ≡ t → eqb a b ≡ t
    go true e = eq-eqb a b (g (eqb-true c d e))
    go false e = ne_eqb a b (λ h. eqb-false c d e (f h))

pub eq32 : (a b : ℤ) → SFits w32 a → SFits w32 b → eqb (of_z w32 a) (of_z w32 b) ≡ eq_z a b
eq32 (pos m) (pos n) f g = refl
eq32 (pos m) (negsuc n) f g = ne_eqb m (2 ^ 32 - suc n) (λ e. omega arith)
eq32 (negsuc m) (pos n) f g = ne_eqb (2 ^ 32 - suc m) n (λ e. omega arith)
eq32 (negsuc m) (negsuc n) f g =
    eqb_iff (2 ^ 32 - suc m) (2 ^ 32 - suc n) m n (λ e. omega arith) (λ e. omega arith)

pub eq_z_true : (a b : ℤ) → eq_z a b ≡ true → a ≡ b
eq_z_true (pos a) (pos b) e = ap pos (eqb-true a b e)
eq_z_true (pos a) (negsuc b) e = never e
eq_z_true (negsuc a) (pos b) e = never e
eq_z_true (negsuc a) (negsuc b) e = ap negsuc (eqb-true a b e)

-- numbers of the same bits are the same
pub same_bits : (a b : ℤ) → SFits w32 a → SFits w32 b → of_z w32 a ≡ of_z w32 b → a ≡ b
same_bits a b f g e = eq_z_true a b (sym (eq32 a b f g) ∙ eq-eqb (of_z w32 a) (of_z w32 b) e)

pub eq_z_refl : (a : ℤ) → eq_z a a ≡ true
eq_z_refl (pos n) = eq-eqb n n refl
eq_z_refl (negsuc n) = eq-eqb n n refl

pub eq_z_false : (a b : ℤ) → (a ≡ b → ⊥) → eq_z a b ≡ false
eq_z_false a b h = go (eq_z a b) refl
  where
    go : (t : Bool) → eq_z a b ≡ t → eq_z a b ≡ false
    go true e = absurd (h (eq_z_true a b e))
    go false e = e

-- ---- an order and its denial

pub not_lt : (a b : ℤ) → lt_z a b ≡ false → le_z b a ≡ true
not_lt (pos a) (pos b) e = le-leb b a (ltb-false a b e)
not_lt (pos a) (negsuc b) e = refl
not_lt (negsuc a) (pos b) e = never (sym e)
not_lt (negsuc a) (negsuc b) e = le-leb a b (ltb-false b a e)

pub not_le : (a b : ℤ) → le_z a b ≡ false → lt_z b a ≡ true
not_le (pos a) (pos b) e = lt-ltb b a (leb-false a b e)
not_le (pos a) (negsuc b) e = refl
not_le (negsuc a) (pos b) e = never (sym e)
not_le (negsuc a) (negsuc b) e = lt-ltb a b (leb-false b a e)

pub le_not_lt : (a b : ℤ) → le_z b a ≡ true → lt_z a b ≡ false
le_not_lt (pos a) (pos b) e = le-ltb a b (leb-true b a e)
le_not_lt (pos a) (negsuc b) e = refl
le_not_lt (negsuc a) (pos b) e = never e
le_not_lt (negsuc a) (negsuc b) e = le-ltb b a (leb-true a b e)

pub lt_not_le : (a b : ℤ) → lt_z a b ≡ true → le_z b a ≡ false
lt_not_le (pos a) (pos b) e = lt-leb b a (ltb-true a b e)
lt_not_le (pos a) (negsuc b) e = never e
lt_not_le (negsuc a) (pos b) e = refl
lt_not_le (negsuc a) (negsuc b) e = lt-leb a b (ltb-true b a e)

-- a number that is neither above hi nor below lo
pub within_is : (lo hi z : ℤ) → lt_z hi z ≡ false → lt_z z lo ≡ false → within lo hi z ≡ true
within_is lo hi z h l = rw (not_lt z lo l, not_lt hi z h)

-- a number within two limits is neither above nor below them
pub within_not : (lo hi z : ℤ) → within lo hi z ≡ true → (lt_z hi z ≡ false) × (lt_z z lo ≡ false)
within_not lo hi z e =
    let p = both (le_z lo z) (le_z z hi) e in
    (le_not_lt hi z p.1, le_not_lt z lo p.0)

pub le_refl : (a : ℤ) → le_z a a ≡ true
le_refl (pos a) = le-leb a a (omega arith)
le_refl (negsuc a) = le-leb a a (omega arith)

-- neither lies above the other
pub le_both : (a b : ℤ) → le_z a b ≡ true → le_z b a ≡ true → a ≡ b
le_both (pos a) (pos b) e f = let p = leb-true a b e in let q = leb-true b a f in ap pos (omega arith)
le_both (pos a) (negsuc b) e f = never e
le_both (negsuc a) (pos b) e f = never f
le_both (negsuc a) (negsuc b) e f = let p = leb-true b a e in let q = leb-true a b f in ap negsuc (omega arith)

pub lt_le : (a b : ℤ) → lt_z a b ≡ true → le_z a b ≡ true
lt_le (pos a) (pos b) e = le-leb a b (omega (arith, ltb-true))
lt_le (pos a) (negsuc b) e = never e
lt_le (negsuc a) (pos b) e = refl
lt_le (negsuc a) (negsuc b) e = le-leb b a (omega (arith, ltb-true))

pub lt_trans : (a b c : ℤ) → lt_z a b ≡ true → lt_z b c ≡ true → lt_z a c ≡ true
lt_trans (pos a) (pos b) (pos c) e f = lt-ltb a c (omega (arith, ltb-true))
lt_trans (pos a) (pos b) (negsuc c) e f = never f
lt_trans (pos a) (negsuc b) c e f = never e
lt_trans (negsuc a) (pos b) (pos c) e f = refl
lt_trans (negsuc a) (pos b) (negsuc c) e f = never f
lt_trans (negsuc a) (negsuc b) (pos c) e f = refl
lt_trans (negsuc a) (negsuc b) (negsuc c) e f = lt-ltb c a (omega (arith, ltb-true))

-- a test that is true holds
pub holds : {t : Bool} → t ≡ true → T t
holds e = subst T (sym e) tt

-- no number is below itself
pub lt_self : (z : ℤ) → lt_z z z ≡ false
lt_self (pos n) = le-ltb n n (omega arith)
lt_self (negsuc n) = le-ltb n n (omega arith)

-- a < b and b ≤ c and c ≤ a cannot be
pub lt_le_le : (a b c : ℤ) → lt_z a b ≡ true → le_z b c ≡ true → le_z c a ≡ true → ⊥
lt_le_le a b c p q r =
    clash_ℤ {a = a} {b = c} (<ℤ-≤ℤ_trans {a = a} {b = b} (lt_z_yes (holds p)) (le_z_yes (holds q))) (le_z_yes (holds r))

pub le_trans : (a b c : ℤ) → le_z a b ≡ true → le_z b c ≡ true → le_z a c ≡ true
le_trans a b c p q = go (le_z a c) refl
  where
    go : (t : Bool) → le_z a c ≡ t → le_z a c ≡ true
    go true e = e
    go false e = absurd (lt_le_le c a b (not_le a c e) p q)

-- a minus turns an order round
pub lt_neg : (a b : ℤ) → lt_z (neg_ℤ a) (neg_ℤ b) ≡ lt_z b a
lt_neg (pos zero) (pos zero) = refl
lt_neg (pos zero) (pos (suc n)) = sym (le-ltb (suc n) 0 zero-le)
lt_neg (pos zero) (negsuc n) = lt-ltb 0 (suc n) (omega arith)
lt_neg (pos (suc m)) (pos zero) = sym (lt-ltb 0 (suc m) (omega arith))
lt_neg (pos (suc m)) (pos (suc n)) = sym (leb-suc-suc (suc n) m)
lt_neg (pos (suc m)) (negsuc n) = refl
lt_neg (negsuc m) (pos zero) = le-ltb (suc m) 0 zero-le
lt_neg (negsuc m) (pos (suc n)) = refl
lt_neg (negsuc m) (negsuc n) = leb-suc-suc (suc m) n

-- ---- sums and products

regroup : (p q a b : ℤ) → (p +ℤ q) +ℤ (a +ℤ b) ≡ (p +ℤ a) +ℤ (q +ℤ b)
regroup p q a b =
    +ℤ_assoc p q (a +ℤ b)
    ∙ ap (λ (z : ℤ). p +ℤ z) (sym (+ℤ_assoc q a b) ∙ ap (λ (z : ℤ). z +ℤ b) (+ℤ_comm q a) ∙ +ℤ_assoc a q b)
    ∙ sym (+ℤ_assoc p a (q +ℤ b))

-- a natural factor goes into a sum
pub mul_add : (d : ℕ) (a b : ℤ) → pos d *ℤ (a +ℤ b) ≡ pos d *ℤ a +ℤ pos d *ℤ b
mul_add zero a b = zero-*ℤ (a +ℤ b) ∙ sym (ap₂ ◌+ℤ◌ (zero-*ℤ a) (zero-*ℤ b))
mul_add (suc d) a b =
    suc_ℤ-*ℤ (pos d) (a +ℤ b)
    ∙ ap (λ (z : ℤ). z +ℤ (a +ℤ b)) (mul_add d a b)
    ∙ regroup (pos d *ℤ a) (pos d *ℤ b) a b
    ∙ sym (ap₂ ◌+ℤ◌ (suc_ℤ-*ℤ (pos d) a) (suc_ℤ-*ℤ (pos d) b))

pub mul_one : (z : ℤ) → pos 1 *ℤ z ≡ z
mul_one z = suc_ℤ-*ℤ (pos 0) z ∙ ap (λ (x : ℤ). x +ℤ z) (zero-*ℤ z) ∙ +ℤ_idl z

-- adding a natural number does not lead down, and adding one above zero leads up
pub le_add : (z : ℤ) (n : ℕ) → le_z z (z +ℤ pos n) ≡ true
le_add (pos a) n = le-leb a (a + n) (omega arith)
le_add (negsuc a) n =
    cond_ind (ltb n (suc a)) (negsuc (suc a - suc n)) (pos (n - suc a)) (λ z. le_z (negsuc a) z ≡ true)
    (λ t. le-leb (suc a - suc n) a (omega arith)) (λ t. refl)

pub lt_add : (z : ℤ) (n : ℕ) → lt_z z (z +ℤ pos (suc n)) ≡ true
lt_add (pos a) n = lt-ltb a (a + suc n) (omega arith)
lt_add (negsuc a) n =
    cond_ind (ltb (suc n) (suc a)) (negsuc (suc a - suc (suc n))) (pos (suc n - suc a)) (λ z. lt_z (negsuc a) z ≡ true)
    (λ t. lt-ltb (suc a - suc (suc n)) a (omega (arith, ltb-true))) (λ t. refl)

-- at most b is below b + 1
pub le_next : (a b : ℤ) → le_z a b ≡ lt_z a (b +ℤ pos 1)
le_next a b = go a b ∙ ap (lt_z a) (sym (+ℤ_one b))
  where
    go : (a b : ℤ) → le_z a b ≡ lt_z a (suc_ℤ b)
    go (pos a) (pos b) = sym (leb-suc-suc a b)
    go (pos a) (negsuc zero) = sym (le-ltb a 0 zero-le)
    go (pos a) (negsuc (suc b)) = refl
    go (negsuc a) (pos b) = refl
    go (negsuc a) (negsuc zero) = le-leb 0 a zero-le
    go (negsuc a) (negsuc (suc b)) = refl

-- at least a is above a − 1
pub le_before : (a b : ℤ) → le_z a b ≡ lt_z (a -ℤ pos 1) b
le_before a b = go a b ∙ ap (λ (z : ℤ). lt_z z b) (sym (-ℤ_one a))
  where
    go : (a b : ℤ) → le_z a b ≡ lt_z (pred_ℤ a) b
    go (pos zero) (pos b) = le-leb 0 b zero-le
    go (pos (suc a)) (pos b) = refl
    go (pos zero) (negsuc b) = sym (le-ltb b 0 zero-le)
    go (pos (suc a)) (negsuc b) = refl
    go (negsuc a) (pos b) = refl
    go (negsuc a) (negsuc b) = sym (leb-suc-suc b a)

-- taking one away is the same seen from the other end
pub sub_le : (z : ℤ) (n : ℕ) → le_z (z -ℤ pos n) z ≡ true
sub_le z n = ap (le_z (z -ℤ pos n)) (sym (-ℤ-+ℤ_cancel z (pos n))) ∙ le_add (z -ℤ pos n) n

pub sub_lt : (z : ℤ) (n : ℕ) → lt_z (z -ℤ pos (suc n)) z ≡ true
sub_lt z n = ap (lt_z (z -ℤ pos (suc n))) (sym (-ℤ-+ℤ_cancel z (pos (suc n)))) ∙ lt_add (z -ℤ pos (suc n)) n

-- two numbers that differ: their difference is not 0
pub differ_some : (a b : ℤ) → eq_z a b ≡ false → 0 < nat_abs (b -ℤ a)
differ_some (pos a) (pos b) e = omega (arith, abs_diff b a, eqb-false a b e)
differ_some (pos a) (negsuc b) e = omega (arith, between_signs (suc b) a)
differ_some (negsuc a) (pos b) e = omega arith
differ_some (negsuc a) (negsuc b) e = omega (arith, abs_subℕ (suc a) (suc b), eqb-false a b e)

-- below zero and turned: not below zero
pub turned : (z : ℤ) → is_neg z ≡ true → is_neg (neg_ℤ z) ≡ false
turned (pos n) e = never e
turned (negsuc n) e = refl

-- the magnitude of a number that fits
pub fits_abs : {w : Width} {z : ℤ} → SFits w z → nat_abs z ≤ 2 ^ hbits w
fits_abs {w} {z} f = nat_abs-le z f.sfits
