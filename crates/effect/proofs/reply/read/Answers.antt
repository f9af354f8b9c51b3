-- `effect::reply::read` meets its contract: what is shown fits a line. Assumes nothing.
use Rattle.std.proofs.Common.{arith}
use Rattle.effect.proofs.Shows.{writable}
use Rattle.effect.proofs.reply.read.Goals as goal

pub write_line-requires : goal.write_line-requires
write_line-requires c =
    rw (c.style.ensures, c.places_at-places.ensures, c.shown_at-shown.ensures)
    (writable c.args.talking c.args.working c.args.i c.requires.able (omega (arith, c.well_formed.1.1.0)) c.args.register c.requires.register_lt_count)
