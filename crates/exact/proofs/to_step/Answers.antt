-- `exact::to_step` meets its contract: the nearest multiple is at most half a step farther out than v, so the product fits. Assumes nothing.
use native.Mathlib.Omega.{arith}
use mathlib.Core.Path.{◌≡◌, ap}
use lib.IntN.{ℤ, nat_abs, ◌*ℤ◌}
use mir.Syntax.{w64}
use mir.Val.{SFits, to_z, of_z}
use mir.Facts.{to_z-of_z}
use Rattle.exact.specs.Exact.{nearest, to_step}
use Rattle.exact.proofs.Z.{fits_as, rd, abs_fits, back64, is_pos}
use Rattle.exact.proofs.Meaning.{step_abs}
use Rattle.exact.proofs.to_step.Goals as goal

pub nearest-requires : goal.nearest-requires
nearest-requires c = rw (to_z-of_z c.ranges.v, to_z-of_z c.ranges.step) c.requires

-- the product that the machine makes
is : (c : goal.After-nearest) → to_z w64 (of_z w64 c.nearest.result) *ℤ to_z w64 (of_z w64 c.args.step) ≡ to_step c.args.v (nat_abs c.args.step)
unfolding to_step
is c =
    let s = c.before in
    rw (back64 c.nearest.result c.nearest.type_inv, to_z-of_z s.ranges.step, c.nearest.ensures, to_z-of_z s.ranges.v, to_z-of_z s.ranges.step)
    (ap (λ (z : ℤ). nearest s.args.v (nat_abs s.args.step) *ℤ z) (is_pos s.args.step s.requires.divisor.above))

fits : (c : goal.After-nearest) → SFits w64 (to_step c.args.v (nat_abs c.args.step))
fits c = abs_fits _ (omega (arith, step_abs c.args.v (nat_abs c.args.step)))

pub overflow_mul-result : goal.overflow_mul-result
overflow_mul-result c = fits_as (is c) (fits c)

pub returns : goal.returns
returns c = rd (is c) (fits c)
