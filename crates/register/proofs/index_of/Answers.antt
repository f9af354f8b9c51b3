-- `register::index_of` meets its contract: an arm of a range is two tests. Assumes nothing.
use native.Mathlib.Omega.{arith}
use mathlib.Core.Path.{sym, ◌∙◌}
use mathlib.Core.Logic.{inl, inr}
use Rattle.register.proofs.Table.{index_in, index_out}
use Rattle.register.proofs.index_of.Goals as goal

pub returns-in-65-to-74 : goal.returns-in-65-to-74
returns-in-65-to-74 c = c.from.ensures ∙ sym (index_in c.args.letter (omega arith) (omega arith))

pub returns-in_default : goal.returns-in_default
returns-in_default c = sym (index_out c.args.letter (inl (omega arith)))

pub returns-in_default-2 : goal.returns-in_default-2
returns-in_default-2 c = sym (index_out c.args.letter (inr (omega arith)))
