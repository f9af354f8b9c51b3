use Rattle.std.proofs.Common.{◌<◌, length}
use Rattle.cost.proofs.bytes.Given as goal

abbrev pub invariant-loop : goal.invariant-loop
invariant-loop l = l.at < length l.list
