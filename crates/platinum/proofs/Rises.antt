-- Rounding keeps order, and so does a line that rises. Assumes nothing.
use mathlib.Core.Path.{◌≡◌, refl, sym, ap, ◌∙◌}
use mathlib.Core.Bool.{Bool, true, false}
use Prim.Native.Nat.{ℕ, zero, suc, ◌+◌, ◌*◌, ◌≤◌, ◌<◌}
use native.Mathlib.Nat.{mul-le-mul_right}
use native.Mathlib.Omega.{arith}
use borrow.Author.Tests.{leb-true, le-leb}
use lib.Ieee.Nearest.{div_mono}
use lib.IntN.{ℤ, pos, negsuc, neg_ℤ, nat_abs, ◌+ℤ◌, ◌-ℤ◌, ◌*ℤ◌, +ℤ_invr, +ℤ_comm, +ℤ_assoc, -ℤ-+ℤ_cancel, *ℤ_comm}
use lib.Signed.{le_z, lt_z}
use Rattle.exact.specs.Sign.{is_neg}
use Rattle.exact.specs.Exact.{half_up, nearest, to_step}
use Rattle.exact.proofs.Z.{never, is_pos, lt_diff, not_lt, le_both, le_add, mul_add}
use Rattle.reading.specs.Reading.{on_line}

-- ---- rounding

half_rises : (a b d : ℕ) → 0 < d → a ≤ b → half_up a d ≤ half_up b d
unfolding half_up
half_rises a b d p h = div_mono (2 * a + d) (2 * d) (2 * b + d) (2 * d) (omega arith) (omega arith) (mul-le-mul_right (2 * d) (omega arith))

-- minus a natural number is not above any
below_zero : (a b : ℕ) → le_z (neg_ℤ (pos a)) (pos b) ≡ true
below_zero zero b = le-leb 0 b (omega arith)
below_zero (suc a) b = refl

turned : (a b : ℕ) → b ≤ a → le_z (neg_ℤ (pos a)) (neg_ℤ (pos b)) ≡ true
turned zero zero h = refl
turned zero (suc b) h = absurd (omega arith)
turned (suc a) zero h = refl
turned (suc a) (suc b) h = le-leb b a (omega arith)

pub nearest_rises : (n m : ℤ) (d : ℕ) → 0 < d → le_z n m ≡ true → le_z (nearest n d) (nearest m d) ≡ true
unfolding nearest
nearest_rises (pos a) (pos b) d p h = le-leb (half_up a d) (half_up b d) (half_rises a b d p (leb-true a b h))
nearest_rises (pos a) (negsuc b) d p h = never h
nearest_rises (negsuc a) (pos b) d p h = below_zero (half_up (suc a) d) (half_up b d)
nearest_rises (negsuc a) (negsuc b) d p h =
    turned (half_up (suc a) d) (half_up (suc b) d) (half_rises (suc b) (suc a) d p (omega (arith, leb-true b a h)))

times_rises : (v w : ℤ) (d : ℕ) → le_z v w ≡ true → le_z (v *ℤ pos d) (w *ℤ pos d) ≡ true
times_rises (pos a) (pos b) d h = le-leb (a * d) (b * d) (mul-le-mul_right d (leb-true a b h))
times_rises (pos a) (negsuc b) d h = never h
times_rises (negsuc a) (pos b) d h = below_zero (suc a * d) (b * d)
times_rises (negsuc a) (negsuc b) d h =
    let l = leb-true b a h in
    turned (suc a * d) (suc b * d) (mul-le-mul_right d (omega arith))

pub step_rises : (v w : ℤ) (step : ℕ) → 0 < step → le_z v w ≡ true → le_z (to_step v step) (to_step w step) ≡ true
unfolding to_step
step_rises v w step p h = times_rises (nearest v step) (nearest w step) step (nearest_rises v w step p h)

-- ---- a number that is not above another lies so far below it

le_diff : (a b : ℤ) → le_z a b ≡ true → is_neg (b -ℤ a) ≡ false
le_diff a b h = by_test (lt_z a b) refl
  where
    by_test : (t : Bool) → lt_z a b ≡ t → is_neg (b -ℤ a) ≡ false
    by_test true e = (lt_diff a b e).0
    by_test false e = rw (le_both a b h (not_lt a b e), +ℤ_invr b) refl

up_by : (a b : ℤ) → le_z a b ≡ true → b ≡ a +ℤ pos (nat_abs (b -ℤ a))
up_by a b h =
    sym (-ℤ-+ℤ_cancel b a) ∙ +ℤ_comm (b -ℤ a) a ∙ ap (λ (z : ℤ). a +ℤ z) (is_pos (b -ℤ a) (le_diff a b h))

-- ---- a line

-- a number so far on lies so far farther from x0
pub moved : (x x0 : ℤ) (m : ℕ) → (x +ℤ pos m) -ℤ x0 ≡ (x -ℤ x0) +ℤ pos m
moved x x0 m = +ℤ_assoc x (pos m) (neg_ℤ x0) ∙ ap (λ (z : ℤ). x +ℤ z) (+ℤ_comm (pos m) (neg_ℤ x0)) ∙ sym (+ℤ_assoc x (neg_ℤ x0) (pos m))

climbed : (x x0 : ℤ) (rise m : ℕ) → ((x +ℤ pos m) -ℤ x0) *ℤ pos rise ≡ (x -ℤ x0) *ℤ pos rise +ℤ pos (rise * m)
climbed x x0 rise m =
    ap (λ (z : ℤ). z *ℤ pos rise) (moved x x0 m)
    ∙ *ℤ_comm ((x -ℤ x0) +ℤ pos m) (pos rise)
    ∙ mul_add rise (x -ℤ x0) (pos m)
    ∙ ap (λ (z : ℤ). z +ℤ pos rise *ℤ pos m) (*ℤ_comm (pos rise) (x -ℤ x0))

module _ (x0 y0 x1 y1 : ℤ) (rise : ℕ) (up : lt_z x0 x1 ≡ true) (by : y1 -ℤ y0 ≡ pos rise) where
  abbrev numerator : ℤ → ℤ
  numerator x = y0 *ℤ (x1 -ℤ x0) +ℤ (x -ℤ x0) *ℤ pos rise

  -- so far on, the numerator is so many times the rise more
  on : (x : ℤ) (m : ℕ) → numerator (x +ℤ pos m) ≡ numerator x +ℤ pos (rise * m)
  on x m =
      ap (λ (z : ℤ). y0 *ℤ (x1 -ℤ x0) +ℤ z) (climbed x x0 rise m) ∙ sym (+ℤ_assoc (y0 *ℤ (x1 -ℤ x0)) ((x -ℤ x0) *ℤ pos rise) (pos (rise * m)))

  higher : (x z : ℤ) → le_z x z ≡ true → le_z (numerator x) (numerator z) ≡ true
  higher x z h =
      let m = nat_abs (z -ℤ x) in
      let e : numerator z ≡ numerator x +ℤ pos (rise * m) = ap numerator (up_by x z h) ∙ on x m in
      rw e (le_add (numerator x) (rise * m))

  pub line_rises : (x z : ℤ) → le_z x z ≡ true → le_z (on_line x0 y0 x1 y1 x) (on_line x0 y0 x1 y1 z) ≡ true
  unfolding on_line
  line_rises x z h =
      rw by (nearest_rises (numerator x) (numerator z) (nat_abs (x1 -ℤ x0)) (lt_diff x0 x1 up).1 (higher x z h))
