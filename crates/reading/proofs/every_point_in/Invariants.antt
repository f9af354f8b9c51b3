use Rattle.std.proofs.Common.{◌≡◌}
use Rattle.reading.specs.Reading.{up_to, point_in}
use Rattle.reading.proofs.every_point_in.Given as goal

abbrev pub invariant-loop-i : goal.invariant-loop-i
invariant-loop-i l = l.all ≡ up_to (point_in l.inputs l.displays) l.i
