-- What is copied to the part that is lent is laid in the buffer.
use Rattle.std.proofs.Common.{arith}
use Rattle.text.specs.Output.{waiting}
use Rattle.text.proofs.Waits.{too_big, put_is}
use Rattle.text.proofs.output.Out.put.Goals as goal

pub returns-then-self-s : goal.returns-then-self-s
returns-then-self-s c = too_big (waiting c.args.self.now) c.args.s.now (omega arith)

pub returns : goal.returns
returns c =
    put_is (waiting c.args.self.now) c.make_room.new.self.bytes.now c.args.s.now _ c.make_room.new.self.pending.at _ (omega arith) c.make_room.ensures.bytes
    c.make_room.ensures.count c.make_room.ensures.same_buffer c.copy_from_slice.ensures.after
