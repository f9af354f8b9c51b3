-- What bits stand for, in units of a power of two: each number on the way fits 64 bits. Assumes nothing.
use mathlib.Core.Path.{◌≡◌, refl, ap, ◌∙◌}
use Prim.Native.Nat.{ℕ, ◌-◌, ◌*◌, ◌%◌, ◌^◌, ◌≤◌}
use native.Mathlib.Nat.{one-mul, mod-eq_of_lt, lt_of_le_of_lt, mul-le-mul}
use native.Mathlib.Omega.{arith}
use lib.Dec.{lit<}
use lib.IntN.{ℤ, pos, neg_ℤ, nat_abs}
use lib.Pow.{pow_pos, pow_mono}
use mir.Syntax.{w64}
use mir.Val.{to_z, SFits}
use mir.ValLaws.{to_z_pos}
use Rattle.exact.specs.Exact.{Fraction}
use Rattle.exact.proofs.Z.{abs_fits, abs_neg}
use Rattle.binary32.specs.Binary32.{field, significand}

-- the significand times a power of ten of at most 10,000
pub times_small : (b p : ℕ) → p ≤ 10000 → significand b * p ≤ 2 ^ 24 * 10000
times_small b p h =
    let few : significand b ≤ 2 ^ 24 = omega arith in
    mul-le-mul few h

-- the unit, as it is shifted into its place
pub unit_small : (b : ℕ) → 113 ≤ field b → 2 ^ (150 - field b) ≤ 2 ^ 37
unit_small b h =
    let few : 150 - field b ≤ 37 = omega arith in
    pow_mono few

pub shifted : (b : ℕ) → 113 ≤ field b → 1 * 2 ^ (150 - field b) % 2 ^ 64 ≡ 2 ^ (150 - field b)
shifted b h = ap (λ (x : ℕ). x % 2 ^ 64) (one-mul (2 ^ (150 - field b))) ∙ mod-eq_of_lt (lt_of_le_of_lt (unit_small b h) (lit< tt))

-- as the machine reads it
pub read_unit : (b : ℕ) → 113 ≤ field b → to_z w64 (1 * 2 ^ (150 - field b) % 2 ^ 64) ≡ pos (2 ^ (150 - field b))
read_unit b h = ap (to_z w64) (shifted b h) ∙ to_z_pos w64 (2 ^ (150 - field b)) (lt_of_le_of_lt (unit_small b h) (lit< tt))

-- either sign of them is a fraction that can be rounded
pub fraction : (b p : ℕ) (z : ℤ) → p ≤ 10000 → 113 ≤ field b → nat_abs z ≡ significand b * p → Fraction z (pos (2 ^ (150 - field b)))
fraction b p z h f e =
    record {
      divisor = record { above = refl; some = pow_pos (150 - field b) };
      small = omega (arith, times_small b p h);
      narrow = omega (arith, unit_small b f);
    }

pub turned_fits : (b p : ℕ) → p ≤ 10000 → SFits w64 (neg_ℤ (pos (significand b * p)))
turned_fits b p h = abs_fits (neg_ℤ (pos (significand b * p))) (omega (arith, abs_neg (pos (significand b * p)), times_small b p h))
