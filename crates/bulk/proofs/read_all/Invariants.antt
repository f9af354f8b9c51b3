use Rattle.std.proofs.Common.{◌≡◌, take}
use Rattle.bulk.specs.Bulk.{read_into}
use Rattle.bulk.proofs.read_all.Given as goal

abbrev pub invariant-loop-i : goal.invariant-loop-i
invariant-loop-i l = l.readings ≡ read_into l.s (take l.i l.inputs) l.initial.readings
