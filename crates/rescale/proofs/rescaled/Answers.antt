-- No line has come yet, and nothing waits.
use Rattle.std.proofs.Common.{◌∙◌, ap}
use Rattle.text.specs.Line.{all_lines, ran}
use Rattle.text.specs.Output.{Waiting}
use Rattle.text.proofs.Streams.{whole_of}
use Rattle.rescaling.specs.declared.Mode.TheVariants.{Awaiting}
use Rattle.rescale.specs.Rescale.{Stand, stand, heard_by}
use Rattle.rescale.proofs.Stream.{prints}
use Rattle.rescale.proofs.rescaled.Goals as goal

pub returns : goal.returns
returns c =
    let all = c.run.ensures in
    let lines = all_lines all.stream in (
      all.stream,
      ap (λ (x : Stand). x.out)
          (c.end.ensures ∙ whole_of heard_by c.new-line.ensures all ∙ ap (λ (w : Waiting). ran heard_by (stand Awaiting w) lines) c.new.ensures.waits)
          ∙ prints _ lines,
    )
