-- What the first line makes of the program, and what it is told.
use Rattle.std.proofs.Common.{◌∙◌, ap}
use Rattle.text.specs.Output.{waiting}
use Rattle.rescale.specs.Rescale.{stand, opened_at}
use Rattle.rescale.proofs.Program.open.Goals as goal

pub returns : goal.returns
returns c =
    ap (stand c.first-opened.result.mode) c.put_said.ensures ∙ ap (opened_at (waiting c.args.self.now.out)) c.first-opened.ensures
