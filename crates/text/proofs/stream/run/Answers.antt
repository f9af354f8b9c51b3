-- The blocks that were read make one stream.
use Rattle.text.proofs.Streams.{no_reads, reads_on}
use Rattle.text.proofs.stream.run.Goals as goal

pub loop-init : goal.loop-init
loop-init g c = no_reads g.H.Hears.heard_by _ _

pub loop-preserved : goal.loop-preserved
loop-preserved g c = reads_on g.H.Hears.heard_by c.loop.invariant c.one_turn.ensures

pub returns-then-not-one_turn : goal.returns-then-not-one_turn
returns-then-not-one_turn g c = reads_on g.H.Hears.heard_by c.loop.invariant c.one_turn.ensures
