use mathlib.Core.Path.{◌≡◌}
use Prim.Native.Nat.{◌≤◌, ◌-◌}
use Rattle.reading.specs.Reading.{first_from}
use Rattle.scaling.proofs.segment.Given as goal

-- the input is its bits here
abbrev pub invariant-loop-i : goal.invariant-loop-i
invariant-loop-i l =
    (l.i ≤ l.last) × (first_from l.inputs l.input l.i (l.last - l.i) ≡ first_from l.inputs l.input 0 l.last)

abbrev pub decreases-loop-i : goal.decreases-loop-i
decreases-loop-i l = l.last - l.i
