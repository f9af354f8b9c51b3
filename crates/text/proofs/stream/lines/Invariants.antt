-- It is kept which lines have ended and which bytes came since.
use Rattle.std.proofs.Common.{◌≤◌, ◌-◌, length}
use Rattle.text.proofs.Streams.{Reaches}
use Rattle.text.proofs.stream.lines.Given as goal

abbrev pub invariant-loop-at : goal.invariant-loop-at
invariant-loop-at g l =
    (l.at ≤ length l.block)
    × Reaches g.H.Hears.heard_by l.block l.initial.line (g.H.Hears.standing l.initial.program) (g.H.Hears.standing l.program) l.line l.at

abbrev pub decreases-loop-at : goal.decreases-loop-at
decreases-loop-at g l = length l.block - l.at
