use Rattle.std.proofs.Common.{◌≡◌}
use Rattle.meter.specs.Slices.{carried_out}
use Rattle.meter.proofs.Carrying.{left}
use Rattle.meter.proofs.slices.carry_out.Given as goal

-- what is left of the slices makes of the outcome and the buffer so far what the whole makes of those before
abbrev pub invariant-loop-kind : goal.invariant-loop-kind
invariant-loop-kind l =
    left (record { outcome = l.last; buffer = l.buffer }) l.kind-iterator
    ≡ carried_out (record { outcome = l.initial.last; buffer = l.initial.buffer }) l.kinds l.values l.places
