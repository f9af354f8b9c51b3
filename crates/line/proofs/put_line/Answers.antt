-- `line::put_line` meets its contract: an abbreviated line is the data alone, and a full one has it over the tail behind its head. Assumes nothing.
use native.Mathlib.Omega.{arith}
use Prim.Native.Nat.{◌≤◌}
use lib.ListN.{length}
use Rattle.line.specs.Line.{head, abbreviated_line, full_line, line}
use Rattle.line.proofs.Over.{tail_length, then_back}
use Rattle.line.proofs.Lines.{head_length}
use Rattle.line.proofs.put_line.Goals as goal
use Rattle.line.proofs.put_line.Lts as lts
use Rattle.line.proofs.put_line.Reads as reads
use Rattle.line.proofs.put_line.Tie as tie

abbrev Else-style : Type 0
Else-style = lts.Else1 tie.the-claims reads.Pre reads.Post

abbrev Then-style : Type 0
Then-style = lts.Then1 tie.the-claims reads.Pre reads.Post

-- the room that is asked for, in each branch
short : (c : Then-style) → 14 ≤ length c.args.buf.now
short c = rw c.if-style.true at c.requires.1

long : (c : Else-style) → 20 ≤ length c.args.buf.now
long c = rw c.if-style.false at c.requires.1

pub put_data-requires : goal.put_data-requires
put_data-requires c = (c.requires.0.fits, short c.before)

pub put_head-requires : goal.put_head-requires
put_head-requires c =
    let w = c.requires.0 in
    (w.named, w.known, omega (arith, long c.before))

pub slice_bounds-put_data-count : goal.slice_bounds-put_data-count
slice_bounds-put_data-count c = omega (arith, long c.before.before.before.before.before)

pub put_data-requires-else-style : goal.put_data-requires-else-style
put_data-requires-else-style c =
    let h = c in
    (h.requires.0.fits, simp tail_length (omega (arith, long h.before.before.before.before.before)))

pub returns-then-style : goal.returns-then-style
unfolding line
returns-then-style c = rw c.if-style.true c.put_data.ensures

pub returns-else-style : goal.returns-else-style
unfolding line full_line
returns-else-style c =
    let h = c in
    let s = h in
    rw h.if-style.false
    (then_back s.args.buf.now (head s.args.style.node s.args.register) (abbreviated_line s.args.places s.args.shown) _ _ 6
    h.put_head.ensures (head_length s.args.style.node s.args.register s.requires.0.known) (omega (arith, long h.before.before.before.before.before.before.before.before.before))
    c.put_data-else-style.ensures)
