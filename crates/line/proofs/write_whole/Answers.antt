-- `line::write_whole` meets its contract: the tail that is lent is all that stands behind the place. Assumes nothing.
use Rattle.std.proofs.Common.{arith, ◌-◌, length, drop, length-drop, refl}
use lib.Seq.{take_all}
use Rattle.field.proofs.Right.{tail_back}
use Rattle.line.proofs.write_whole.Goals as goal

pub returns-then-has_room-clause-written : goal.returns-then-has_room-clause-written
returns-then-has_room-clause-written g c _ =
    let d = c.args.buf.now in
    let p = c.args.place in (
      c.put.new.arg2,
      record { shown = _; shows = take_all (length d - p) (drop p d) (omega (arith, length-drop p d)); left = _; met = c.put.ensures; leaves = refl },
      tail_back d c.put.new.arg2 p,
    )
