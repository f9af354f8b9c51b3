-- The definitions mean what they are to mean, and nothing else does: `-is` says that the definition's number has the meaning,
-- `-only` that any number which has it is the definition's. Assumes nothing.
use mathlib.Core.Path.{◌≡◌, refl, sym, ap, ◌∙◌}
use mathlib.Core.Bool.{Bool, true, false}
use mathlib.Core.Logic.{◌⊎◌, inl, inr}
use Prim.Native.Nat.{ℕ, zero, suc, ◌+◌, ◌*◌, ◌-◌, ◌/◌, ◌≤◌, ◌<◌}
use native.Mathlib.Omega.{arith}
use native.Mathlib.Nat.{div-mul-le_self, lt-div-mul-add, div-eq_of_lt-le, div-le_self, eq-or-lt_of_le}
use borrow.Author.Tests.{ltb-false, le-ltb, lt-ltb}
use lib.Dec.{ltb}
use lib.IntN.{ℤ, pos, negsuc, neg_ℤ, nat_abs, sub_ℕ, ◌+ℤ◌, ◌-ℤ◌, ◌*ℤ◌, +ℤ_invr, *ℤ_comm, neg_ℤ-neg_ℤ}
use Rattle.exact.specs.Sign.{is_neg}
use Rattle.exact.specs.Exact.{half_up, nearest, to_step, cut, floor}
use Rattle.exact.specs.Meaning.{IsNearest, IsToStep, IsCut, IsFloor}
use Rattle.exact.proofs.Z.{never, abs_diff, abs_subℕ, abs_neg_neg, abs_neg, abs_mul, mul_neg, mul_one, between_signs, between_signs'}

-- ---- distances, on the same side of zero and on two sides

same_side : (n d q : ℕ) → nat_abs (pos d *ℤ pos q -ℤ pos n) ≡ (d * q - n) + (n - d * q)
same_side n d q = abs_diff (d * q) n

same_side_below : (n d q : ℕ) → nat_abs (pos d *ℤ neg_ℤ (pos q) -ℤ neg_ℤ (pos n)) ≡ (d * q - n) + (n - d * q)
same_side_below n d q = rw (mul_neg d (pos q)) (abs_neg_neg (pos (d * q)) (pos n)) ∙ same_side n d q

-- ---- nearest

-- of magnitudes: n / d lies in [q - 1/2, q + 1/2)
pub half_low : (n d : ℕ) → 2 * d * half_up n d ≤ 2 * n + d
unfolding half_up
half_low n d = omega (arith, div-mul-le_self (2 * n + d) (2 * d))

pub half_high : (n d : ℕ) → 0 < d → 2 * n < 2 * d * half_up n d + d
unfolding half_up
half_high n d h = omega (arith, lt-div-mul-add {a = 2 * n + d} {b = 2 * d} (omega arith))

pub abs_nearest : (n : ℤ) (d : ℕ) → nat_abs (nearest n d) ≡ half_up (nat_abs n) d
unfolding nearest
abs_nearest (pos n) d = refl
abs_nearest (negsuc n) d = abs_neg (pos (half_up (suc n) d))

-- a bound that needs no fact of the divisor
pub nearest_le : (n : ℤ) (d : ℕ) → nat_abs (nearest n d) ≤ 2 * nat_abs n + d
unfolding half_up
nearest_le n d = rw (abs_nearest n d) (div-le_self (2 * nat_abs n + d) (2 * d))

pub nearest_is : (n : ℤ) (d : ℕ) → 0 < d → IsNearest n d (nearest n d)
unfolding nearest
nearest_is (pos n) d h =
    let e = same_side n d (half_up n d) in
    let l = half_low n d in
    let u = half_high n d h in
    record { near = omega arith; away = λ t. omega arith }
nearest_is (negsuc n) d h =
    let e = same_side_below (suc n) d (half_up (suc n) d) in
    let l = half_low (suc n) d in
    let u = half_high (suc n) d h in
    record { near = omega arith; away = λ t. rw (abs_neg (pos (half_up (suc n) d))) (omega arith) }

-- of magnitudes: what is near and away is `half_up`
half_only : (n d m : ℕ) → 0 < d → 2 * ((d * m - n) + (n - d * m)) ≤ d → (2 * ((d * m - n) + (n - d * m)) ≡ d → n ≤ d * m) → m ≡ half_up n d
unfolding half_up
half_only n d m h l t = sym (div-eq_of_lt-le (2 * d) (omega arith) (below (eq-or-lt_of_le l)))
  where
    below : (2 * ((d * m - n) + (n - d * m)) ≡ d) ⊎ (2 * ((d * m - n) + (n - d * m)) < d) → 2 * n + d < (m + 1) * (2 * d)
    below (inl e) = omega (arith, t e)
    below (inr k) = omega arith

half_only_below : (n d m : ℕ) → 0 < d → IsNearest (negsuc n) d (neg_ℤ (pos m)) → m ≡ half_up (suc n) d
half_only_below n d m h i =
    let e = same_side_below (suc n) d m in
    half_only (suc n) d m h (rw (← e) i.near) (λ t. rw (abs_neg (pos m)) at (i.away (ap (λ (k : ℕ). 2 * k) e ∙ t)))

pub nearest_only : (n : ℤ) (d : ℕ) (r : ℤ) → 0 < d → IsNearest n d r → r ≡ nearest n d
unfolding nearest
nearest_only (pos a) d (pos m) h i =
    let e = same_side a d m in
    ap pos (half_only a d m h (rw (← e) i.near) (λ t. i.away (ap (λ (k : ℕ). 2 * k) e ∙ t)))
nearest_only (pos a) d (negsuc m) h i = absurd (omega (arith, between_signs (d * suc m) a, i.near))
nearest_only (negsuc a) d (pos zero) h i = ap (λ (m : ℕ). neg_ℤ (pos m)) (half_only_below a d 0 h i)
nearest_only (negsuc a) d (pos (suc m)) h i = absurd (omega (arith, between_signs' (d * suc m) (suc a), i.near))
nearest_only (negsuc a) d (negsuc m) h i = ap (λ (m : ℕ). neg_ℤ (pos m)) (half_only_below a d (suc m) h i)

-- a whole number, divided by what it was multiplied with, is itself
pub nearest_whole : (z : ℤ) (d : ℕ) → 0 < d → nearest (pos d *ℤ z) d ≡ z
nearest_whole z d h =
    let e : nat_abs (pos d *ℤ z -ℤ pos d *ℤ z) ≡ 0 = ap nat_abs (+ℤ_invr (pos d *ℤ z)) in
    sym (nearest_only (pos d *ℤ z) d z h (record { near = omega arith; away = λ t. absurd (omega arith) }))

-- ---- to a step

pub to_step_is : (v : ℤ) (step : ℕ) → 0 < step → IsToStep v step (to_step v step)
unfolding to_step
to_step_is v step h =
    let i = nearest_is v step h in
    rw *ℤ_comm (record { times = nearest v step; multiple = refl; near = i.near; away = λ t. rw abs_mul (i.away t) })

pub to_step_only : (v : ℤ) (step : ℕ) (r : ℤ) → 0 < step → IsToStep v step r → r ≡ to_step v step
unfolding to_step
to_step_only v step r h i =
    let e = i.multiple in
    let n : IsNearest v step i.times =
    record { near = rw e at i.near; away = λ t. rw (e, abs_mul (pos step) i.times) at (i.away (rw e t)) }
    in
    e ∙ *ℤ_comm (pos step) i.times ∙ ap (λ (k : ℤ). k *ℤ pos step) (nearest_only v step i.times h n)

pub step_abs : (v : ℤ) (step : ℕ) → 2 * nat_abs (to_step v step) ≤ 2 * nat_abs v + step
unfolding to_step
step_abs v step = rw (abs_mul (nearest v step) (pos step), abs_nearest v step) (omega (arith, half_low (nat_abs v) step))

-- every whole number is a multiple of 1
pub step_one : (v : ℤ) → to_step v 1 ≡ v
unfolding to_step
step_one v =
    *ℤ_comm (nearest v 1) (pos 1) ∙ mul_one (nearest v 1) ∙ ap (λ (z : ℤ). nearest z 1) (sym (mul_one v)) ∙ nearest_whole v 1 (omega arith)

-- ---- cut

pub abs_cut : (n : ℤ) (d : ℕ) → nat_abs (cut n d) ≡ nat_abs n / d
unfolding cut
abs_cut (pos n) d = refl
abs_cut (negsuc n) d = abs_neg (pos (suc n / d))

pub cut_is : (n : ℤ) (d : ℕ) → 0 < d → IsCut n d (cut n d)
unfolding cut
cut_is (pos n) d h =
    let e = same_side n d (n / d) in
    let l = div-mul-le_self n d in
    let u = lt-div-mul-add {a = n} {b = d} h in
    record { towards = omega arith; near = omega arith }
cut_is (negsuc n) d h =
    let e = same_side_below (suc n) d (suc n / d) in
    let l = div-mul-le_self (suc n) d in
    let u = lt-div-mul-add {a = suc n} {b = d} h in
    record { towards = rw (abs_neg (pos (suc n / d))) (omega arith); near = omega arith }

-- of magnitudes: m whole units and less than one more
quotient_only : (n d m : ℕ) → d * m ≤ n → n < d * m + d → m ≡ n / d
quotient_only n d m l u = sym (div-eq_of_lt-le d (omega arith) (omega arith))

cut_only_below : (n d m : ℕ) → IsCut (negsuc n) d (neg_ℤ (pos m)) → m ≡ suc n / d
cut_only_below n d m i =
    let e = same_side_below (suc n) d m in
    let a = abs_neg (pos m) in
    let t = rw (abs_neg (pos m)) at i.towards in
    let k = i.near in
    quotient_only (suc n) d m (omega arith) (omega arith)

pub cut_only : (n : ℤ) (d : ℕ) (r : ℤ) → IsCut n d r → r ≡ cut n d
unfolding cut
cut_only (pos a) d (pos m) i =
    let e = same_side a d m in
    ap pos (quotient_only a d m i.towards (omega (arith, i.near)))
cut_only (pos a) d (negsuc m) i = absurd (omega (arith, between_signs (d * suc m) a, i.near))
cut_only (negsuc a) d (pos zero) i = ap (λ (m : ℕ). neg_ℤ (pos m)) (cut_only_below a d 0 i)
cut_only (negsuc a) d (pos (suc m)) i = absurd (omega (arith, between_signs' (d * suc m) (suc a), i.near))
cut_only (negsuc a) d (negsuc m) i = ap (λ (m : ℕ). neg_ℤ (pos m)) (cut_only_below a d (suc m) i)

-- ---- floor

-- a difference of naturals that is not below zero
not_below : (x y : ℕ) → y ≤ x → is_neg (sub_ℕ x y) ≡ false
not_below x y h = rw (le-ltb x y h)

not_below_is : (x y : ℕ) → is_neg (sub_ℕ x y) ≡ false → y ≤ x
not_below_is x y = go (ltb x y) refl
  where
    go : (t : Bool) → ltb x y ≡ t → is_neg (sub_ℕ x y) ≡ false → y ≤ x
    go true e k = never (sym (rw e at k))
    go false e k = ltb-false x y e

-- what is left of n below d times a negative number
left_below : (a d q : ℕ) → negsuc a -ℤ pos d *ℤ negsuc q ≡ sub_ℕ (d * suc q) (suc a)
left_below a d q = ap (λ (z : ℤ). negsuc a +ℤ z) (neg_ℤ-neg_ℤ (pos (d * suc q)))

left_pos : (a k : ℕ) → k ≤ a → is_neg (pos a -ℤ pos k) ≡ false
left_pos a zero h = refl
left_pos a (suc k) h = not_below a (suc k) h

left_pos_is : (a k : ℕ) → is_neg (pos a -ℤ pos k) ≡ false → k ≤ a
left_pos_is a zero e = omega arith
left_pos_is a (suc k) e = not_below_is a (suc k) e

left_neg : (a k : ℕ) → is_neg (negsuc a -ℤ pos k) ≡ true
left_neg a zero = rw (lt-ltb 0 (suc a) (omega arith))
left_neg a (suc k) = refl

pub floor_is : (n : ℤ) (d : ℕ) → 0 < d → IsFloor n d (floor n d)
unfolding floor
floor_is (pos n) d h =
    let e = abs_diff n (d * (n / d)) in
    let l = div-mul-le_self n d in
    let u = lt-div-mul-add {a = n} {b = d} h in
    record { below = left_pos n (d * (n / d)) (omega arith); near = omega arith }
floor_is (negsuc n) d h =
    let e = abs_subℕ (d * suc (n / d)) (suc n) in
    let l = div-mul-le_self n d in
    let u = lt-div-mul-add {a = n} {b = d} h in
    record {
      below = rw (left_below n d (n / d)) (not_below (d * suc (n / d)) (suc n) (omega arith));
      near = rw (left_below n d (n / d)) (omega arith);
    }

pub floor_only : (n : ℤ) (d : ℕ) (r : ℤ) → IsFloor n d r → r ≡ floor n d
unfolding floor
floor_only (pos a) d (pos m) i =
    let e = abs_diff a (d * m) in
    let l = left_pos_is a (d * m) i.below in
    let k = i.near in
    ap pos (quotient_only a d m l (omega arith))
floor_only (pos a) d (negsuc m) i = absurd (omega (arith, between_signs' a (d * suc m), i.near))
floor_only (negsuc a) d (pos m) i = never (sym i.below ∙ left_neg a (d * m))
floor_only (negsuc a) d (negsuc m) i =
    let e = abs_subℕ (d * suc m) (suc a) in
    let l = not_below_is (d * suc m) (suc a) (rw (left_below a d m) at i.below) in
    let k = rw (left_below a d m) at i.near in
    ap negsuc (quotient_only a d m (omega arith) (omega arith))
