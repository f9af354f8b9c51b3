-- A scale that is accepted has segments, and inputs can be read by them.
use Rattle.std.proofs.Common.{◌∙◌, sym, ap}
use Rattle.config.specs.Verdict.{verdict_of}
use Rattle.config.proofs.Acceptance.{scale_accepted}
use Rattle.segments.proofs.ByPoints.{passes}
use Rattle.rescaling.proofs.configured.Goals as goal

pub made-requires : goal.made-requires
made-requires c = scale_accepted c.args.c (sym c.judged.ensures ∙ ap verdict_of c.in-Ok.is)

pub new-requires : goal.new-requires
new-requires c = rw c.made.ensures (passes c.args.c.scale (scale_accepted c.args.c (sym c.judged.ensures ∙ ap verdict_of c.in-Ok.is)))
