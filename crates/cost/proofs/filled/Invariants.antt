-- What is left of the block is filled.
use Rattle.std.proofs.Common.{◌-◌, ◌≤◌, length}
use Rattle.cost.proofs.filled.Given as goal

abbrev pub invariant-loop-n : goal.invariant-loop-n
invariant-loop-n l = l.n ≤ length l.block

abbrev pub decreases-loop-n : goal.decreases-loop-n
decreases-loop-n l = length l.block - l.n
