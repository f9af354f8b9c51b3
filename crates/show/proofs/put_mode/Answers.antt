-- The outputs are a number that has no sign.
use Rattle.exact.proofs.Z.{back64}
use Rattle.signed.specs.Signed.{signed}
use Rattle.show.specs.Show.{named, counted, mode_words}
use Rattle.show.proofs.put_mode.Goals as goal

pub returns-in-Manual : goal.returns-in-Manual
unfolding mode_words named counted signed
returns-in-Manual c = rw c.in-Manual.is (rw (back64 c.from.result c.from.type_inv, c.from.ensures) at c.put_named.ensures)
