-- `historian::told` meets its contract: what waits after all lines is what is printed of them. Assumes nothing.
use Rattle.std.proofs.Common.{◌∙◌, ap}
use Rattle.text.specs.Line.{ran, all_lines}
use Rattle.text.specs.Output.{Waiting}
use Rattle.text.proofs.Streams.{whole_of}
use Rattle.historian.specs.Historian.{heard_by}
use Rattle.historian.proofs.Stream.{all_shown_lem}
use Rattle.historian.proofs.told.Goals as goal

pub returns : goal.returns
returns c =
    let all = c.run.ensures in (
      all.stream,
      c.end.ensures ∙ whole_of heard_by c.new-line.ensures all ∙ ap (λ (w : Waiting). ran heard_by w (all_lines all.stream)) c.new.ensures.waits ∙ all_shown_lem _ _,
    )
