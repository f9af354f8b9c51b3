-- `command::print` meets its contract: nothing may stand there. Assumes nothing.
use Rattle.std.proofs.Common.{◌≡◌, sym, ◌<◌, length, rules}
use borrow.Author.Tests.{tests}
use Rattle.command.specs.Parse.{printing}
use Rattle.numeral.proofs.Lists.{none, split}
use Rattle.command.proofs.print.Goals as goal

pub returns-then-is_empty : goal.returns-then-is_empty
unfolding printing
returns-then-is_empty c = let empty : length c.args.s.now ≡ 0 = search (rules, tests) in rw (none c.args.s.now empty)

pub returns-else-is_empty : goal.returns-else-is_empty
unfolding printing
returns-else-is_empty c = let some : 0 < length c.args.s.now = search (rules, tests) in sym (split printing c.args.s.now some)
