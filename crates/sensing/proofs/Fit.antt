-- Each step of a line's fraction fits 64 bits: the place is one of the table, and the three numbers may be any of 32 bits. Assumes nothing.
use mathlib.Core.Path.{◌≡◌}
use mathlib.Core.Bool.{true}
use Prim.Native.Nat.{ℕ, ◌*◌, ◌^◌, ◌≤◌, ◌<◌}
use native.Mathlib.Omega.{arith}
use lib.IntN.{ℤ, pos, nat_abs, ◌+ℤ◌, ◌-ℤ◌, ◌*ℤ◌}
use lib.Signed.{lt_z}
use mir.Syntax.{w32, w64}
use mir.Val.{SFits}
use Rattle.exact.specs.Exact.{Fraction}
use Rattle.exact.proofs.Z.{abs_fits, fits_abs, abs_sub_le, abs_add_le, abs_mul_le, lt_diff}
use Rattle.platinum.specs.Platinum.{entries}

abbrev pub start : ℕ → ℤ
start place = pos (10 * place) -ℤ pos 2000

abbrev pub numerator : (left right input : ℤ) → ℕ → ℤ
numerator left right input place = start place *ℤ (right -ℤ left) +ℤ (input -ℤ left) *ℤ pos 10

pub record Fit (left right input : ℤ) (place : ℕ) : Type 0 where
  pub run : SFits w64 (right -ℤ left)
  pub ten : SFits w64 (pos (10 * place))
  pub offset : SFits w64 (start place)
  pub base : SFits w64 (start place *ℤ (right -ℤ left))
  pub far : SFits w64 (input -ℤ left)
  pub climb : SFits w64 ((input -ℤ left) *ℤ pos 10)
  pub whole : SFits w64 (numerator left right input place)
  pub fraction : Fraction (numerator left right input place) (right -ℤ left)

abbrev IsWide : (a b : ℤ) → Type 0
IsWide a b = nat_abs (a -ℤ b) ≤ 2 ^ 32

distance : (a b : ℤ) → SFits w32 a → SFits w32 b → IsWide a b
distance a b fa fb = omega (arith, abs_sub_le a b, fits_abs fa, fits_abs fb)

module _ (left right input : ℤ) (place : ℕ) (fl : SFits w32 left) (fr : SFits w32 right) (fi : SFits w32 input) (h : place < entries) where
  start_small : nat_abs (start place) ≤ 12500
  start_small = omega (arith, abs_sub_le (pos (10 * place)) (pos 2000))

  base_small : nat_abs (start place *ℤ (right -ℤ left)) ≤ 12500 * 2 ^ 32
  base_small = abs_mul_le (start place) (right -ℤ left) 12500 (2 ^ 32) start_small (distance right left fr fl)

  climb_small : nat_abs ((input -ℤ left) *ℤ pos 10) ≤ 2 ^ 32 * 10
  climb_small = abs_mul_le (input -ℤ left) (pos 10) (2 ^ 32) 10 (distance input left fi fl) (omega arith)

  whole_small : nat_abs (numerator left right input place) ≤ 10 ^ 14
  whole_small = omega (arith, abs_add_le (start place *ℤ (right -ℤ left)) ((input -ℤ left) *ℤ pos 10), base_small, climb_small)

  pub fit : lt_z left right ≡ true → Fit left right input place
  fit up =
      let r = distance right left fr fl in
      let d = lt_diff left right up in
      record {
        run = abs_fits (right -ℤ left) (omega arith);
        ten = abs_fits (pos (10 * place)) (omega arith);
        offset = abs_fits (start place) (omega (arith, start_small));
        base = abs_fits (start place *ℤ (right -ℤ left)) (omega (arith, base_small));
        far = abs_fits (input -ℤ left) (omega (arith, distance input left fi fl));
        climb = abs_fits ((input -ℤ left) *ℤ pos 10) (omega (arith, climb_small));
        whole = abs_fits (numerator left right input place) (omega (arith, whole_small));
        fraction = record { divisor = record { above = d.0; some = d.1 }; small = omega (arith, whole_small); narrow = omega arith };
      }
