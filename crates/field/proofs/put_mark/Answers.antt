-- `field::put_mark` meets its contract: the mark is copied over a tail of its length. Assumes nothing.
use Rattle.std.proofs.Common.{◌-◌, length}
use Rattle.field.specs.Field.{at_right}
use Rattle.field.proofs.Right.{tail_back}
use Rattle.field.proofs.put_mark.Goals as goal

pub returns : goal.returns
unfolding at_right
returns c =
    let d = c.args.buf.now in
    rw c.copy_from_slice.ensures.after (tail_back d c.args.mark.now (length d - length c.args.mark.now))
