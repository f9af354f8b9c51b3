-- How many readings a run has is a number that has no sign.
use Rattle.std.proofs.Common.{rules}
use Rattle.exact.proofs.Z.{back64}
use Rattle.register.specs.Bytes.{ascii}
use Rattle.signed.specs.Signed.{signed}
use Rattle.text.proofs.Pieces.{next}
use Rattle.show.specs.Show.{named, counted, streak_words}
use Rattle.show.proofs.put_streak.Goals as goal

pub returns-in-None : goal.returns-in-None
unfolding streak_words named counted signed
returns-in-None c = rw c.in-None.is c.put_named.ensures

pub returns-in-Some : goal.returns-in-Some
unfolding streak_words named counted signed
returns-in-Some c =
    let s = c.in-Some.s in
    rw c.in-Some.is
    (next _ _ _ (counted c.args.name.now s.readings) (named (ascii ":") s.nearest)
    (rw (back64 c.from.result c.from.type_inv, c.from.ensures) at c.put_named-in-Some.ensures)
    (search rules))
