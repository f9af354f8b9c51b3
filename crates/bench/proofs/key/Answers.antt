-- `bench::key` meets its contract: it is the meter's own. Assumes nothing.
use mir.Facts.{to_z-of_z}
use Rattle.bench.specs.Bench.{key_step}
use Rattle.bench.proofs.key.Goals as goal

pub returns : goal.returns
unfolding key_step
returns c =
    let e = to_z-of_z c.ranges.number in
    record { value = rw e at c.key.ensures.value; reply_after = rw e at c.key.ensures.buffer_after }
