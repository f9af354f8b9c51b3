-- `command::write` meets its contract: the list says what V writes to the register. Assumes nothing.
use Rattle.std.proofs.Common.{sym, ◌∙◌, arith}
use Rattle.command.specs.Parse.{writing}
use Rattle.numeral.proofs.Lists.{none, split}
use Rattle.command.proofs.write.Goals as goal

pub returns-in_default : goal.returns-in_default
unfolding writing
returns-in_default c = rw (none c.args.s.now (omega (arith, c.in_default.len_below)))

pub returns-in-len1-up : goal.returns-in-len1-up
unfolding writing
returns-in-len1-up c =
    c.data_of.ensures ∙ sym (split writing c.args.s.now (omega (arith, c.in-len1-up.len_at_least)) ∙ rw (← c.index_of-i.ensures, ← c.written_at.ensures))
