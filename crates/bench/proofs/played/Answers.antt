-- The program begins with the bench meter and nothing that waits.
use Rattle.std.proofs.Common.{◌∙◌, ap, ap₂, replicate}
use Rattle.meter.specs.Meter.{powered_up}
use Rattle.meter.specs.declared.Meter.{Meter}
use Rattle.meter.specs.declared.Outcome.{Outcome}
use Rattle.text.specs.Line.{all_lines, ran}
use Rattle.text.specs.Output.{Waiting}
use Rattle.text.proofs.Streams.{whole_of}
use Rattle.bench.specs.Bench.{Stand, stand, heard_by}
use Rattle.bench.proofs.played.Goals as goal

pub returns : goal.returns
returns c =
    let all = c.run.ensures in
    let meter = ap (λ (o : Outcome). o.meter) (c.power_up.ensures ∙ ap powered_up c.bench.ensures) in
    let begun = ap₂ (λ (m : Meter) (w : Waiting). stand m (replicate 163 0) w) meter c.new.ensures.waits in (
      all.stream,
      ap (λ (x : Stand). x.out)
          (c.end.ensures ∙ whole_of heard_by c.new-line.ensures all ∙ ap (λ (s : Stand). ran heard_by s (all_lines all.stream)) begun),
    )
