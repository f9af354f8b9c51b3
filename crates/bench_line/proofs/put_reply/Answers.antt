-- The reply is put where it has as many bytes.
use Rattle.std.proofs.Common.{refl}
use Rattle.text.specs.Output.{waiting, puts}
use Rattle.text.proofs.Pieces.{one, alike}
use Rattle.bench_line.proofs.Pieces.{reply_there, reply_none}
use Rattle.bench_line.proofs.put_reply.Goals as goal

pub returns-then-n-reply : goal.returns-then-n-reply
returns-then-n-reply c = alike _ _ _ _ (reply_there c.args.n c.args.reply.now c.if-n-reply.true) (one _ _ _ c.put.ensures)

pub returns-else-n-reply : goal.returns-else-n-reply
unfolding puts
returns-else-n-reply c = alike (waiting c.args.out.now) _ _ _ (reply_none c.args.n c.args.reply.now c.if-n-reply.false) refl
