use Rattle.std.proofs.Common.{◌≡◌}
use Rattle.reading.specs.Reading.{up_to}
use Rattle.segments.specs.Segments.{segment_at}
use Rattle.scaling.proofs.segments_in.Given as goal

abbrev pub invariant-loop-k : goal.invariant-loop-k
invariant-loop-k l = l.all ≡ up_to (segment_at l.rises l.runs) l.k
