-- The test says whether the first line is still to come.
use Rattle.std.proofs.Common.{◌∙◌, sym, ap}
use Rattle.text.specs.Line.{heard}
use Rattle.text.specs.Output.{waiting, puts}
use Rattle.rescaling.specs.Show.{shown_of}
use Rattle.rescaling.specs.declared.Said.{Said}
use Rattle.rescale.specs.Rescale.{stand, standing}
use Rattle.rescale.proofs.Stream.{opened_stand, hears_later}
use Rattle.rescale.proofs.ProgramHears.hear.Goals as goal

pub returns-then-awaits : goal.returns-then-awaits
returns-then-awaits c =
    let program = c.args.self.now in
    c.open.ensures
    ∙ opened_stand (standing program) (heard c.args.line.now) (sym c.awaits.ensures ∙ c.if-awaits.true)

pub returns-else-awaits : goal.returns-else-awaits
returns-else-awaits c =
    let program = c.args.self.now in
    ap (stand program.mode) (c.put_said.ensures ∙ ap (λ (x : Said). puts (waiting program.out) (shown_of x)) c.told.ensures)
    ∙ hears_later (standing program) (heard c.args.line.now) (sym c.awaits.ensures ∙ c.if-awaits.false)
