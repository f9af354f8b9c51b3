-- `meter::slices::carry_one` meets its contract: a value that fits a byte goes to the public call, any other leaves what stands. Assumes nothing.
use Rattle.std.proofs.Common.{rules, refl}
use Rattle.meter.specs.Slices.{carried_one}
use Rattle.meter.proofs.Carrying.{back, fits, fits_none}
use Rattle.meter.proofs.slices.carry_one.Goals as goal

pub returns-in-Ok : goal.returns-in-Ok
unfolding carried_one
returns-in-Ok c =
    let f = rw (back c.args.value c.ranges.value) at c.in-Ok.ensures in
    rw (c.in-2.is, fits c.args.value f.0, ← f.1) (search rules)

pub returns-in-Err : goal.returns-in-Err
unfolding carried_one
returns-in-Err c =
    let f = rw (back c.args.value c.ranges.value) at c.in-Err.ensures in
    rw (c.in-2.is, fits_none c.args.value f) record { value = refl; buffer_after = refl }
