use Rattle.std.proofs.Common.{take}
use Rattle.line.proofs.Over.{Upto}
use Rattle.block.specs.Block.{order, chosen_lines}
use Rattle.block.specs.Values.{value_line}
use Rattle.block.proofs.put_block.Given as goal

-- the chosen lines up to the register stand at the front
abbrev pub invariant-loop-register : goal.invariant-loop-register
invariant-loop-register l = Upto l.initial.buf 0 (chosen_lines l.print (value_line l.style l.values) (take l.register-index order)) l.at l.buf
