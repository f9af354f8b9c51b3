-- What the scale meets is what reading asks.
use Rattle.segments.proofs.Scale.{scale_tested}
use Rattle.rescaling.proofs.held.Held.read.Goals as goal

pub read-requires : goal.read-requires
read-requires c = scale_tested c.self.inside.scale c.self.invariant
