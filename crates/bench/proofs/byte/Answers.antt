-- `bench::byte` meets its contract: it is the meter's own. Assumes nothing.
use Rattle.bench.specs.Bench.{byte_step}
use Rattle.bench.proofs.byte.Goals as goal

pub returns : goal.returns
unfolding byte_step
returns c = record { value = c.byte.ensures.value; reply_after = c.byte.ensures.buffer_after }
