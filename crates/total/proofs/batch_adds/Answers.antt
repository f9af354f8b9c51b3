-- `total::batch_adds` meets its contract: a number of 32 bits times the unit fits. Assumes nothing.
use Rattle.std.proofs.Common.{rules, arith, ◌≡◌, w32, w64, ◌^◌, ◌≤◌, ◌*ℤ◌, pos, nat_abs, to_z, of_z}
use mir.Val.{SFits}
use mir.Facts.{to_z-of_z}
use Rattle.exact.proofs.Z.{rd, fits_as, abs_fits}
use Rattle.total.specs.Total.{unit_of, batch_adds}
use Rattle.total.proofs.Sums.{batch_abs}
use Rattle.total.proofs.batch_adds.Goals as goal
use Rattle.total.proofs.batch_adds.Goals.{After-unit_of}

-- the product that the machine makes
is : (c : After-unit_of) → to_z w64 (of_z w64 c.from.result) *ℤ to_z w64 (of_z w64 c.unit_of.result) ≡ c.in-Number.v *ℤ pos (unit_of c.args.s)
is c =
    let f : SFits w32 c.in-Number.v = search rules in
    let v : to_z w64 (of_z w64 c.from.result) ≡ c.in-Number.v = search (rules, to_z-of_z) in
    let u : to_z w64 (of_z w64 c.unit_of.result) ≡ pos (unit_of c.args.s) = search (rules, to_z-of_z) in
    rw (v, u)

small : (c : After-unit_of) → nat_abs (c.in-Number.v *ℤ pos (unit_of c.args.s)) ≤ 2 ^ 62
small c =
    let f : SFits w32 c.in-Number.v = search rules in
    batch_abs _ c.requires f

fits : (c : After-unit_of) → SFits w64 (c.in-Number.v *ℤ pos (unit_of c.args.s))
fits c = abs_fits _ (omega (arith, small c))

pub overflow_mul-result : goal.overflow_mul-result
overflow_mul-result c = fits_as (is c) (fits c)

pub returns-in-Number-clause-value : goal.returns-in-Number-clause-value
unfolding batch_adds
returns-in-Number-clause-value c = rw (rd (is c) (fits c), c.in-Number.is)

pub returns-in-Number-clause-small : goal.returns-in-Number-clause-small
returns-in-Number-clause-small c = rw (rd (is c) (fits c)) (small c)
