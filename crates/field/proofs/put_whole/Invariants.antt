use Rattle.std.proofs.Common.{◌≡◌, ◌++◌, ◌≤◌, ◌<◌, ◌^◌, length, take, drop}
use Rattle.field.specs.Field.{whole}
use Rattle.field.proofs.put_whole.Given as goal

abbrev pub invariant-loop-left : goal.invariant-loop-left
invariant-loop-left l =
    (l.i ≤ length l.buf)
    × (length l.buf ≡ length l.initial.buf)
    × (l.left < 10 ^ 9)
    × (length (whole l.left) ≤ l.i)
    × (whole l.n ≡ whole l.left ++ drop l.i l.buf)
    × (take l.i l.buf ≡ take l.i l.initial.buf)

abbrev pub decreases-loop-left : goal.decreases-loop-left
decreases-loop-left l = l.left
