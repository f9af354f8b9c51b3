-- The numbers of the total fit: the unit of an accepted configuration, a kept sum, and what is added to it. Assumes nothing.
use mathlib.Core.Path.{◌≡◌, refl, ap}
use Prim.Native.Nat.{◌*◌, ◌/◌, ◌^◌, ◌≤◌, ◌<◌}
use native.Mathlib.Nat.{lt-div-mul-add, mul-le-mul_right}
use native.Mathlib.Omega.{arith}
use lib.Dec.{lit<}
use lib.IntN.{ℤ, pos, nat_abs, ◌+ℤ◌, ◌*ℤ◌}
use mir.Syntax.{w32, w64}
use mir.Val.{SFits}
use mathlib.Core.Bool.{true, false}
use Rattle.exact.specs.Sign.{is_neg}
use Rattle.exact.specs.Exact.{Divisor}
use Rattle.exact.proofs.Z.{abs_fits, abs_add_le, abs_mul_le, fits_abs, is_pos, from_to, between_is}
use Rattle.exact.proofs.Meaning.{abs_cut}
use Rattle.total.specs.declared.Totalizer.{Totalizer}
use Rattle.total.specs.declared.Total.{Total}
use Rattle.total.specs.Total.{Timed, in_range, unit_of, quotient}

-- ---- the unit, 20,000 × time base

module _ (s : Totalizer) (a : Timed s) where
  base : (is_neg s.time_base ≡ false) × ((1 ≤ nat_abs s.time_base) × (nat_abs s.time_base ≤ 86400))
  base = from_to s.time_base 1 86400 a.base_in

  pub base_fits : SFits w32 s.time_base
  base_fits = abs_fits _ (omega (arith, base.1.1))

  -- the product of the code
  pub unit_is : pos 20000 *ℤ s.time_base ≡ pos (unit_of s)
  unfolding unit_of
  unit_is = ap (λ (z : ℤ). pos 20000 *ℤ z) (is_pos s.time_base base.0)

  pub unit_some : 0 < unit_of s
  unfolding unit_of
  unit_some = omega (arith, base.1.0)

  pub unit_le : unit_of s ≤ 1728000000
  unfolding unit_of
  unit_le = omega (arith, base.1.1)

  pub unit_fits : SFits w64 (pos (unit_of s))
  unit_fits = abs_fits _ (omega (arith, unit_le))

  pub unit_divides : Divisor (pos (unit_of s))
  unit_divides = record { above = refl; some = unit_some }

  -- ---- a kept sum

  -- its total has at most nine digits
  pub kept_total : (t : Total) → in_range s t ≡ true → nat_abs (quotient s t.sum) ≤ 999999999
  kept_total t k = between_is (quotient s t.sum) 999999999 199999998 (lit< tt) k

  -- and the sum is below 10 ^ 9 units of a day
  pub kept_sum : (t : Total) → in_range s t ≡ true → nat_abs t.sum < 1728 * 10 ^ 15
  unfolding quotient
  kept_sum t k =
      let q = nat_abs t.sum / unit_of s in
      let b : q ≤ 999999999 = rw (abs_cut t.sum (unit_of s)) at (kept_total t k) in
      let u = unit_le in
      omega (arith, lt-div-mul-add {a = nat_abs t.sum} {b = unit_of s} unit_some, mul-le-mul_right (unit_of s) b)

  -- what may be added to it
  pub sum_fits : (t : Total) (x : ℤ) → in_range s t ≡ true → nat_abs x ≤ 2 ^ 62 → SFits w64 (t.sum +ℤ x)
  sum_fits t x k h = abs_fits _ (omega (arith, kept_sum t k, abs_add_le t.sum x))

  -- ---- what is added

  pub batch_abs : {v : ℤ} → SFits w32 v → nat_abs (v *ℤ pos (unit_of s)) ≤ 2 ^ 62
  batch_abs {v} f = omega (arith, abs_mul_le v (pos (unit_of s)) (2 ^ 31) 1728000000 (fits_abs f) unit_le)

-- a product of two numbers of 32 bits fits
module _ {v x : ℤ} (f : SFits w32 v) (g : SFits w32 x) where
  pub product_abs : nat_abs (v *ℤ x) ≤ 2 ^ 62
  product_abs = abs_mul_le v x (2 ^ 31) (2 ^ 31) (fits_abs f) (fits_abs g)

  pub product_fits : SFits w64 (v *ℤ x)
  product_fits = abs_fits _ (omega (arith, product_abs))
