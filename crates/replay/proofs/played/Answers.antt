-- The program begins with a meter not started and nothing that waits.
use Rattle.std.proofs.Common.{◌∙◌, ap}
use Rattle.text.specs.Line.{all_lines, ran}
use Rattle.text.proofs.Streams.{whole_of}
use Rattle.replay.specs.Replay.{Stand, heard_by}
use Rattle.replay.proofs.played.Goals as goal

pub returns : goal.returns
returns c =
    let all = c.run.ensures in (
      all.stream,
      ap (λ (x : Stand). x.out)
          (c.end.ensures ∙ whole_of heard_by c.new-line.ensures all ∙ ap (λ (s : Stand). ran heard_by s (all_lines all.stream)) c.new-program.ensures.stand),
    )
