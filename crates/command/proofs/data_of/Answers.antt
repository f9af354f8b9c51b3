-- `command::data_of` meets its contract: what the table says of the register is the case. Assumes nothing.
use mathlib.Core.Path.{◌∙◌}
use Rattle.command.specs.Parse.{data_of}
use Rattle.command.proofs.data_of.Goals as goal

pub returns-in-Nothing : goal.returns-in-Nothing
unfolding data_of
returns-in-Nothing c = rw c.in-Nothing.is

pub returns-in-Number : goal.returns-in-Number
unfolding data_of
returns-in-Number c = c.write_number.ensures ∙ rw c.in-Number.is

pub returns-in-Byte : goal.returns-in-Byte
unfolding data_of
returns-in-Byte c = c.status.ensures ∙ rw c.in-Byte.is
