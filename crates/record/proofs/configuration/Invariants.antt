use Prim.Native.Nat.{◌≤◌, ◌-◌}
use lib.ListN.{length}
use Rattle.record.specs.Record.{word_count}
use Rattle.record.proofs.Turns.{Reading}
use Rattle.record.proofs.configuration.Given as goal

abbrev pub invariant-loop-i : goal.invariant-loop-i
invariant-loop-i l = (l.at ≤ length l.s) × (l.i ≤ word_count) × Reading l.s l.initial.settings l.settings l.at l.i

abbrev pub decreases-loop-i : goal.decreases-loop-i
decreases-loop-i l = word_count - l.i
