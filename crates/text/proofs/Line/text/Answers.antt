use Rattle.std.proofs.Common.{arith}
use Rattle.text.proofs.Lines.{heard_is, heard_long}
use Rattle.text.proofs.Line.text.Goals as goal

pub returns-then-self-le-KEPT : goal.returns-then-self-le-KEPT
returns-then-self-le-KEPT c = heard_is c.args.self.now (omega arith)

pub returns-else-self-le-KEPT : goal.returns-else-self-le-KEPT
returns-else-self-le-KEPT c = heard_long c.args.self.now (omega arith)
