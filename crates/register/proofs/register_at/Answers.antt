-- `register::register_at` meets its contract: the table in the code is the list of `Registers`, but for what V writes. Assumes nothing.
use Rattle.std.proofs.Common.{◌∙◌}
use lib.ListN.{get_or-map}
use Rattle.register.specs.Registers.{registers, no_register, register_of, entry}
use Rattle.register.proofs.register_at.Goals as goal

pub returns : goal.returns
unfolding entry
returns c = c.entry_or.ensures ∙ get_or-map register_of registers c.args.index no_register
