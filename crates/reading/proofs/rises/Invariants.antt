use Rattle.std.proofs.Common.{◌≡◌}
use Rattle.reading.specs.Reading.{up_to, rises_at}
use Rattle.reading.proofs.rises.Given as goal

abbrev pub invariant-loop-i : goal.invariant-loop-i
invariant-loop-i l = l.all ≡ up_to (rises_at l.inputs) l.i
