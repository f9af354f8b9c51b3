-- What `scaled` computes with fits 64 bits, for any three numbers of 32 bits, and its quotient is `floor_by`. Assumes nothing.
use mathlib.Core.Path.{◌≡◌, refl, sym}
use mathlib.Core.Bool.{true, false}
use native.Mathlib.Omega.{arith}
use lib.IntN.{ℤ, pos, negsuc, neg_ℤ, nat_abs, ◌-ℤ◌, ◌*ℤ◌}
use mir.Syntax.{w32, w64}
use mir.Val.{SFits}
use Rattle.exact.specs.Sign.{is_neg, eq_z}
use Rattle.exact.specs.Exact.{Divisor, floor}
use Rattle.exact.proofs.Z.{never, abs_fits, abs_neg, abs_sub_le, abs_mul, fits_abs, differ_some, turned}
use Rattle.analog.specs.Analog.{floor_by}

-- the two numbers of the fraction, of the low and the high display and a number
abbrev pub rise : ℤ → ℤ → ℤ
rise low v = pos 4095 *ℤ (v -ℤ low)

abbrev pub run : ℤ → ℤ → ℤ
run low high = high -ℤ low

-- every number on the way fits
pub record Fits (low high v : ℤ) : Type 0 where
  pub above : SFits w64 (v -ℤ low)
  pub up : SFits w64 (rise low v)
  pub across : SFits w64 (run low high)
  pub down : SFits w64 (neg_ℤ (rise low v))
  pub back : SFits w64 (neg_ℤ (run low high))

pub fit : {low high v : ℤ} → SFits w32 low → SFits w32 high → SFits w32 v → Fits low high v
fit {low} {high} {v} l h n =
    let bl = fits_abs l in
    let bh = fits_abs h in
    let bn = fits_abs n in
    let a = abs_sub_le v low in
    let b = abs_sub_le high low in
    let m = abs_mul (pos 4095) (v -ℤ low) in
    record {
      above = abs_fits _ (omega arith);
      up = abs_fits _ (omega arith);
      across = abs_fits _ (omega arith);
      down = abs_fits _ (omega (arith, abs_neg (rise low v)));
      back = abs_fits _ (omega (arith, abs_neg (run low high)));
    }

-- the divisor is above zero, turned where the range falls
pub rising : (low high : ℤ) → eq_z low high ≡ false → is_neg (run low high) ≡ false → Divisor (run low high)
rising low high e u = record { above = u; some = differ_some low high e }

pub falling : (low high : ℤ) → eq_z low high ≡ false → is_neg (run low high) ≡ true → Divisor (neg_ℤ (run low high))
falling low high e u = record { above = turned (run low high) u; some = rw (abs_neg (run low high)) (differ_some low high e) }

-- `floor_by` on each side of zero
pub floor_up : (n d : ℤ) → is_neg d ≡ false → floor n (nat_abs d) ≡ floor_by n d
unfolding floor_by
floor_up n (pos d) e = refl
floor_up n (negsuc d) e = never (sym e)

pub floor_down : (n d : ℤ) → is_neg d ≡ true → floor (neg_ℤ n) (nat_abs (neg_ℤ d)) ≡ floor_by n d
unfolding floor_by
floor_down n (pos d) e = never e
floor_down n (negsuc d) e = refl
