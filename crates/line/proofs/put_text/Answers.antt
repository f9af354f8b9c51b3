-- `line::put_text` meets its contract: the front of the buffer is lent, as long as the text, and becomes it. Assumes nothing.
use Rattle.line.specs.Buffer.{over}
use Rattle.line.proofs.put_text.Goals as goal

pub returns : goal.returns
unfolding over
returns c = rw c.copy_from_slice.ensures.after
