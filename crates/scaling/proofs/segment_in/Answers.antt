-- `scaling::segment_in` meets its contract: both numbers are read back from their bits. Assumes nothing.
use mir.Facts.{to_z-of_z}
use Rattle.scaling.proofs.segment_in.Goals as goal

pub returns : goal.returns
returns c = rw (c.is_within.ensures, c.is_within-2.ensures, to_z-of_z c.ranges.run, to_z-of_z c.ranges.rise)
