-- `line::node_text` meets its contract: a node of at most two digits has them as its tens and its ones. Assumes nothing.
use borrow.Author.Tests.{ne_eqb}
use native.Mathlib.Omega.{arith}
use mathlib.Core.Path.{◌≡◌}
use Prim.Native.Nat.{◌/◌, ◌%◌}
use Rattle.field.specs.Field.{digits}
use Rattle.line.specs.Line.{node_text}
use Rattle.line.proofs.node_text.Goals as goal

pub returns-then-node-eq0 : goal.returns-then-node-eq0
unfolding node_text
returns-then-node-eq0 c = rw c.if-node-eq0.true

pub returns-else-node-eq0 : goal.returns-else-node-eq0
unfolding node_text digits
returns-else-node-eq0 c =
    let n = c.args.node in
    let e : n / 10 % 10 ≡ n / 10 = omega arith in
    rw (ne_eqb n 0 c.if-node-eq0.false, e)
