-- `scaling::segments_in` meets its contract. The invariant: what is kept says of the segments passed whether all are such. Assumes nothing.
use Rattle.std.proofs.Common.{rules, ◌≡◌, refl, sym}
use Rattle.reading.specs.Reading.{up_to}
use Rattle.reading.proofs.Walk.{walk_next}
use Rattle.segments.specs.Segments.{segment_at}
use Rattle.scaling.proofs.segments_in.Goals as goal

pub loop-k-init : goal.loop-k-init
unfolding up_to
loop-k-init c = refl

pub loop-k-preserved : goal.loop-k-preserved
loop-k-preserved c =
    let test : c.segment_in-all.result ≡ segment_at c.args.rises.now c.args.runs.now c.loop-k.k = search rules in
    rw (c.loop-k.invariant, test) (sym (walk_next _ c.loop-k.k))
