-- Where nothing came nothing is changed.
use Rattle.text.proofs.Streams.{none_came}
use Rattle.text.proofs.stream.came.Goals as goal

pub returns-then-n-eq0-clause-carried : goal.returns-then-n-eq0-clause-carried
returns-then-n-eq0-clause-carried g c =
    none_came g.H.Hears.heard_by c.args.block.now c.args.line.now c.args.n (g.H.Hears.standing c.args.program.now) c.if-n-eq0.true
