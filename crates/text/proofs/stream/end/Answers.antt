-- A line of no bytes is no line.
use Rattle.std.proofs.Common.{◌∙◌, arith}
use Rattle.text.proofs.Streams.{last_none, last_line}
use Rattle.text.proofs.stream.end.Goals as goal

pub returns-then-line-gt0 : goal.returns-then-line-gt0
returns-then-line-gt0 g c =
    c.hear.ensures ∙ last_line g.H.Hears.heard_by (g.H.Hears.standing c.args.program.now) c.args.line.now (λ e. omega arith)

pub returns-else-line-gt0 : goal.returns-else-line-gt0
returns-else-line-gt0 g c = last_none g.H.Hears.heard_by (g.H.Hears.standing c.args.program.now) c.args.line.now (omega arith)
