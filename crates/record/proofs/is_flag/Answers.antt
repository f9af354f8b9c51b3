-- The tests agree with the table at each of its places.
use Rattle.std.proofs.Common.{rules}
use Rattle.record.proofs.Settings.{kind_alarm, kind_other}
use Rattle.record.proofs.is_flag.Goals as goal

pub returns-then-contains : goal.returns-then-contains
returns-then-contains c = kind_alarm c.args.i (search rules) c.requires

pub returns-else-contains : goal.returns-else-contains
returns-else-contains c = kind_other c.args.i (search rules) c.requires
