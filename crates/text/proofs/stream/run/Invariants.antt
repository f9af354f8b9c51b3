-- Each turn reads on in the stream.
use Rattle.text.specs.Line.{Streamed}
use Rattle.text.proofs.stream.run.Given as goal

abbrev pub invariant-loop : goal.invariant-loop
invariant-loop g l =
    Streamed g.H.Hears.heard_by l.initial.line (g.H.Hears.standing l.initial.program) (g.H.Hears.standing l.program) l.line
