-- Each step of a line's fraction fits 64 bits: its start may be any number of 32 bits, since rise, run and input are small. Assumes nothing.
use Prim.Native.Nat.{◌+◌, ◌*◌, ◌^◌, ◌≤◌}
use native.Mathlib.Omega.{arith}
use lib.Dec.{lit<}
use lib.IntN.{ℤ, nat_abs, ◌+ℤ◌, ◌-ℤ◌, ◌*ℤ◌}
use mir.Syntax.{w32, w64}
use mir.Val.{SFits}
use Rattle.exact.specs.Exact.{Fraction}
use Rattle.exact.proofs.Z.{abs_fits, fits_abs, abs_sub_le, abs_add_le, abs_mul_le, between_is, from_to, both}
use Rattle.exact.proofs.Meaning.{nearest_le}
use Rattle.segments.specs.Segments.{along, Line}

pub record Fit (x0 y0 rise run x : ℤ) : Type 0 where
  pub along : SFits w64 (x -ℤ x0)
  pub start : SFits w64 (y0 *ℤ run)
  pub climb : SFits w64 ((x -ℤ x0) *ℤ rise)
  pub whole : SFits w64 (y0 *ℤ run +ℤ (x -ℤ x0) *ℤ rise)
  pub fraction : Fraction (y0 *ℤ run +ℤ (x -ℤ x0) *ℤ rise) run
  pub small : nat_abs (y0 *ℤ run +ℤ (x -ℤ x0) *ℤ rise) ≤ 10 ^ 15
  pub narrow : nat_abs run ≤ 199998

pub fit : (x0 y0 rise run x : ℤ) → SFits w32 x0 → SFits w32 y0 → Line rise run x → Fit x0 y0 rise run x
fit x0 y0 rise run x fx fy l =
    let b = both _ _ l.segment in
    let r = from_to run _ _ b.0 in
    let bx0 = fits_abs fx in
    let by0 = fits_abs fy in
    let bx = between_is x 99999 99998 (lit< tt) l.input in
    let brise = between_is rise 199998 199997 (lit< tt) b.1 in
    let along : nat_abs (x -ℤ x0) ≤ 2 ^ 31 + 99999 = omega (arith, abs_sub_le x x0) in
    let start : nat_abs (y0 *ℤ run) ≤ 2 ^ 31 * 199998 = abs_mul_le y0 run (2 ^ 31) 199998 by0 r.1.1 in
    let climb : nat_abs ((x -ℤ x0) *ℤ rise) ≤ (2 ^ 31 + 99999) * 199998 = abs_mul_le (x -ℤ x0) rise (2 ^ 31 + 99999) 199998 along brise in
    let whole : nat_abs (y0 *ℤ run +ℤ (x -ℤ x0) *ℤ rise) ≤ 10 ^ 15 = omega (arith, abs_add_le (y0 *ℤ run) ((x -ℤ x0) *ℤ rise)) in
    record {
      along = abs_fits _ (omega arith);
      start = abs_fits _ (omega arith);
      climb = abs_fits _ (omega arith);
      whole = abs_fits _ (omega arith);
      fraction = record { divisor = record { above = r.0; some = omega (arith, r.1.0) }; small = omega arith; narrow = omega (arith, r.1.1) };
      small = whole;
      narrow = r.1.1;
    }

-- the line's whole number is small enough to be rounded to a step
pub line_small : (x0 y0 rise run x : ℤ) → SFits w32 x0 → SFits w32 y0 → Line rise run x → nat_abs (along x0 y0 rise run x) ≤ 10 ^ 18
unfolding along
line_small x0 y0 rise run x fx fy l =
    let f = fit x0 y0 rise run x fx fy l in
    omega (arith, nearest_le (y0 *ℤ run +ℤ (x -ℤ x0) *ℤ rise) (nat_abs run), f.small, f.narrow)
