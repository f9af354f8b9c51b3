-- `excursion::lit` meets its contract: an input of 60 reads 120, and one of 40 reads 80, as computed. Assumes nothing.
use Rattle.std.proofs.Common.{refl}
use Rattle.excursion.proofs.Rows.{opened}
use Rattle.excursion.proofs.lit.Goals as goal

pub sampled-core-requires : goal.sampled-core-requires
unfolding opened
sampled-core-requires g c = refl

pub sampled-core-requires-in-loop : goal.sampled-core-requires-in-loop
unfolding opened
sampled-core-requires-in-loop g c = refl
