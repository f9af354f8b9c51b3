-- `total::is_in_range` meets its contract: the limits times the unit fit 64 bits, and a sum between them is one in range. Assumes nothing.
use borrow.Author.Rules.{rules}
use native.Mathlib.Omega.{arith}
use mathlib.Core.Path.{◌≡◌, sym, ap, ◌∙◌}
use Prim.Native.Nat.{◌≤◌}
use lib.IntN.{ℤ, pos, nat_abs, ◌*ℤ◌}
use mir.Syntax.{w64}
use mir.Val.{SFits, to_z, of_z}
use Rattle.exact.specs.Sign.{minus}
use Rattle.exact.proofs.Z.{rd, fits_as, abs_fits, abs_mul_le, back64}
use Rattle.total.specs.Total.{unit_of}
use Rattle.total.proofs.Sums.{unit_le}
use Rattle.total.proofs.Bounds.{kept_exactly}
use Rattle.total.proofs.is_in_range.Goals as goal

-- a limit times the unit, as it is made
limit_is : (c : goal.After-unit_of-unit) (z : ℤ) → z *ℤ to_z w64 (of_z w64 c.unit_of-unit.result) ≡ z *ℤ pos (unit_of c.args.s)
limit_is c z = ap (λ (u : ℤ). z *ℤ u) (back64 c.unit_of-unit.result c.unit_of-unit.type_inv ∙ c.unit_of-unit.ensures)

limit_fits : (c : goal.After-unit_of-unit) (z : ℤ) → nat_abs z ≤ 1000000000 → SFits w64 (z *ℤ pos (unit_of c.args.s))
limit_fits c z h =
    let s = c.args.s in
    abs_fits _ (omega (arith, abs_mul_le z (pos (unit_of s)) 1000000000 1728000000 h (unit_le s c.requires)))

pub overflow_mul-result : goal.overflow_mul-result
overflow_mul-result c = fits_as (limit_is c (minus 200000000)) (limit_fits c (minus 200000000) (omega arith))

pub overflow_mul-result-2 : goal.overflow_mul-result-2
overflow_mul-result-2 c =
    let u = c in
    fits_as (limit_is u.before.before.before (pos 1000000000)) (limit_fits u.before.before.before (pos 1000000000) (omega arith))

pub returns : goal.returns
returns c =
    let u = c in
    let s = u in
    let sum : to_z w64 (of_z w64 s.args.t.sum) ≡ s.args.t.sum = search rules in
    rw (
      rd (limit_is u.before.before.before.before (minus 200000000)) (limit_fits u.before.before.before.before (minus 200000000) (omega arith)),
      rd (limit_is u.before.before.before.before (pos 1000000000)) (limit_fits u.before.before.before.before (pos 1000000000) (omega arith)),
      sum,
    )
    (sym (kept_exactly s.args.s s.requires s.args.t.sum))
