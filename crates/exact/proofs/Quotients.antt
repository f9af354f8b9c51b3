-- The signed quotients that the code makes are the definitions, and they fit. Assumes nothing.
use mathlib.Core.Path.{◌≡◌, refl, sym}
use mathlib.Core.Bool.{true, false}
use Prim.Native.Nat.{ℕ, zero, suc, ◌+◌, ◌*◌, ◌/◌, ◌≤◌, ◌<◌}
use native.Mathlib.Omega.{arith}
use native.Mathlib.Nat.{div-le_self}
use lib.IntN.{ℤ, pos, negsuc, neg_ℤ, nat_abs, ◌+ℤ◌, ◌-ℤ◌, ◌*ℤ◌, neg_ℤ-+ℤ}
use lib.Signed.{quot_z, mag}
use mir.Syntax.{w64}
use mir.Val.{SFits, of_z}
use Rattle.std.specs.Int.{int_div_euclid}
use Rattle.exact.specs.Sign.{is_neg}
use Rattle.exact.specs.Exact.{Divisor, Fraction, half_up, nearest, cut, floor}
use Rattle.exact.proofs.Z.{never, quot_neg, abs_fits, abs_add_le, abs_sub_le, abs_mul, abs_quot_le}

-- ---- nearest: on each side of zero half a divisor is added away from zero, and the quotient is cut

pub nearest_up : (n d : ℤ) → is_neg n ≡ false → is_neg d ≡ false → quot_z (pos 2 *ℤ n +ℤ d) (pos 2 *ℤ d) ≡ nearest n (nat_abs d)
unfolding nearest half_up
nearest_up (pos a) (pos b) e f = refl
nearest_up (pos a) (negsuc b) e f = never (sym f)
nearest_up (negsuc a) d e f = never (sym e)

pub nearest_down : (n d : ℤ) → is_neg n ≡ true → is_neg d ≡ false → quot_z (pos 2 *ℤ n -ℤ d) (pos 2 *ℤ d) ≡ nearest n (nat_abs d)
unfolding nearest half_up
nearest_down (pos a) d e f = never e
nearest_down (negsuc a) (negsuc b) e f = never (sym f)
nearest_down (negsuc a) (pos b) e f = rw (← neg_ℤ-+ℤ (pos (2 * suc a)) (pos b)) (quot_neg (2 * suc a + b) (2 * b))

-- every number on the way fits
pub record Fits (n d : ℤ) : Type 0 where
  pub twice_n : SFits w64 (pos 2 *ℤ n)
  pub twice_d : SFits w64 (pos 2 *ℤ d)
  pub more : SFits w64 (pos 2 *ℤ n +ℤ d)
  pub less : SFits w64 (pos 2 *ℤ n -ℤ d)
  pub up : SFits w64 (quot_z (pos 2 *ℤ n +ℤ d) (pos 2 *ℤ d))
  pub down : SFits w64 (quot_z (pos 2 *ℤ n -ℤ d) (pos 2 *ℤ d))

pub fit : (n d : ℤ) → Fraction n d → Fits n d
fit n d f =
    let an = abs_mul (pos 2) n in
    let ad = abs_mul (pos 2) d in
    let am = abs_add_le (pos 2 *ℤ n) d in
    let al = abs_sub_le (pos 2 *ℤ n) d in
    record {
      twice_n = abs_fits _ (omega arith);
      twice_d = abs_fits _ (omega arith);
      more = abs_fits _ (omega arith);
      less = abs_fits _ (omega arith);
      up = abs_fits _ (omega (arith, abs_quot_le (pos 2 *ℤ n +ℤ d) (pos 2 *ℤ d)));
      down = abs_fits _ (omega (arith, abs_quot_le (pos 2 *ℤ n -ℤ d) (pos 2 *ℤ d)));
    }

-- the bits of a doubled divisor, which `/` asks not to be 0
pub twice_some : (d : ℤ) → Divisor d → 0 < of_z w64 (pos 2 *ℤ d)
twice_some (pos b) h = omega arith
twice_some (negsuc b) h = never (sym h.above)

-- ---- cut: the quotient of the machine itself

pub quotient_cut : (n d : ℤ) → Divisor d → quot_z n d ≡ cut n (nat_abs d)
unfolding cut
quotient_cut (pos a) (pos b) h = refl
quotient_cut (negsuc a) (pos b) h = refl
quotient_cut n (negsuc b) h = never (sym h.above)

mag_minus : (k a : ℕ) → k ≤ suc a → mag (neg_ℤ (pos k)) ≤ a
mag_minus zero a h = omega arith
mag_minus (suc k) a h = omega arith

mag_cut : (n : ℤ) (d : ℕ) → mag (cut n d) ≤ mag n
unfolding cut
mag_cut (pos a) d = div-le_self a d
mag_cut (negsuc a) d = mag_minus (suc a / d) a (div-le_self (suc a) d)

-- a cut quotient fits where the dividend does
pub cut_fits : (n : ℤ) (d : ℕ) → SFits w64 n → SFits w64 (cut n d)
cut_fits n d f = record { sfits = omega (arith, mag_cut n d) }

-- ---- floor: of a divisor above zero it is std's Euclidean quotient

pub floor_euclid : (n d : ℤ) → Divisor d → int_div_euclid n d ≡ floor n (nat_abs d)
unfolding floor
floor_euclid (pos a) (pos b) h = refl
floor_euclid (negsuc a) (pos b) h = refl
floor_euclid n (negsuc b) h = never (sym h.above)
