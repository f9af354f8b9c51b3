-- `block::put_value` meets its contract: the line has the register's own places, and shows its own value. Assumes nothing.
use Rattle.std.proofs.Common.{◌∙◌, ap, ℕ, arith}
use Rattle.line.specs.Buffer.{over}
use Rattle.line.specs.Line.{line}
use Rattle.block.specs.Values.{value_at, places_of, value_line}
use Rattle.block.proofs.Blocks.{value_writable}
use Rattle.block.proofs.put_value.Goals as goal

pub put_line-requires : goal.put_line-requires
put_line-requires c =
    let a = c.args in
    let w = value_writable a.style a.values.now c.requires.0 a.register c.requires.1 in
    rw (c.places_of-places.ensures, c.shown-shown.ensures)
    (record { named = w.named; known = omega arith; fits = w.fits }, c.requires.2)

pub returns : goal.returns
unfolding value_line
returns c =
    let a = c.args in
    let v = a.values.now in
    c.put_line.ensures
    ∙ rw (c.places_of-places.ensures, c.shown-shown.ensures)
    (ap (λ (r : ℕ). over a.buf.now (line a.style r (places_of v a.register) (value_at v a.register))) (omega arith))
