-- `register::written_at` meets its contract: the table in the code is the list's column of what V writes. Assumes nothing.
use Rattle.std.proofs.Common.{◌∙◌}
use lib.ListN.{get_or-map}
use Rattle.register.specs.Registers.{Listed, registers, no_register, entry}
use Rattle.register.proofs.written_at.Goals as goal

pub returns : goal.returns
unfolding entry
returns c = c.entry_or.ensures ∙ get_or-map (λ (x : Listed). x.written) registers c.args.index no_register
