use Rattle.std.proofs.Common.{◌<◌}
use Rattle.cost.proofs.mixed_samples.Given as goal

abbrev pub invariant-loop : goal.invariant-loop
invariant-loop l = l.at < 16
