-- `block::put_block` meets its contract. The invariant: the chosen lines up to the register stand at the front. Assumes nothing.
use Rattle.std.proofs.Common.{◌≡◌, refl, sym, ap, ◌∙◌, true, false, ℕ, ◌<◌, length, get_or, append-nil, arith}
use Rattle.line.proofs.Over.{room_next, put_next, tail_length, tail_back, laid_front, laid_nil}
use Rattle.block.specs.Block.{wants, option_at, order, chosen, chosen_lines, some, block_end, block}
use Rattle.block.specs.Values.{value_line}
use Rattle.block.proofs.Blocks.{ordered, at_its_place, one_more, fits_one_more, value_length}
use Rattle.block.proofs.put_block.Goals as goal
use Rattle.block.proofs.put_block.Goals.{then-is_chosen, else-is_chosen}

pub loop-register-init : goal.loop-register-init
unfolding chosen_lines
loop-register-init c = record { room = omega arith; next = refl; bytes = sym (laid_nil c.args.buf.now 0) }

pub put_value-requires : goal.put_value-requires
put_value-requires c =
    let a = c.args in
    let v = a.values.now in
    let l = c.loop-register in
    let i = l.register-index in
    let h : i < 8 = omega arith in
    let e : get_or ordered i 0 ≡ i = at_its_place i h in
    let wanted : wants a.print (option_at i) ≡ true = sym (ap (λ (r : ℕ). wants a.print (option_at r)) e) ∙ sym c.is_chosen.ensures ∙ c.if-is_chosen.true in
    let room =
    rw wanted at
    (room_next a.buf.now _ (chosen (wants a.print (option_at i)) (value_line a.style v i)) _ 0 _ l.invariant
    (fits_one_more a.print (value_line a.style v) i (length a.buf.now) h c.requires.1)) in
    rw (e, tail_length l.buf l.at)
    (c.requires.0, omega arith, omega (arith, room, value_length a.style v c.requires.0 i (omega arith)))

pub loop-register-preserved : goal.loop-register-preserved
loop-register-preserved c =
    let a = c.args in
    let v = a.values.now in
    let l = c.loop-register in
    let i = l.register-index in
    let h : i < 8 = omega arith in
    let e : get_or ordered i 0 ≡ i = at_its_place i h in
    let asked = sym (ap (λ (r : ℕ). wants a.print (option_at r)) e) ∙ sym c.is_chosen.ensures in
    let u = chosen (wants a.print (option_at i)) (value_line a.style v i) in
    let fits = fits_one_more a.print (value_line a.style v) i (length a.buf.now) h c.requires.1 in
    rw (one_more a.print (value_line a.style v) i h)
    (elim c.if-is_chosen.branch [
      | then-is_chosen w ↦
          let wanted : wants a.print (option_at i) ≡ true = asked ∙ w.if-is_chosen.true in
          put_next a.buf.now _ u l.buf _ 0 l.at _ l.invariant fits
          (w.at-is ∙ rw (wanted, w.line_length-at.ensures, value_length a.style v c.requires.0 i (omega arith)))
          (w.buf-is ∙ rw wanted (tail_back l.buf (value_line a.style v i) _ l.at (w.put_value.ensures ∙ rw e)))
      | else-is_chosen w ↦
          let wanted : wants a.print (option_at i) ≡ false = asked ∙ w.if-is_chosen.false in
          rw (wanted, append-nil, w.at-is, w.buf-is) l.invariant
    ])

pub put_text-requires : goal.put_text-requires
unfolding block
put_text-requires c =
    let a = c.args in
    let l = c.loop-register in
    let z : l.register-index ≡ 8 = omega arith in
    let lines = rw z at l.invariant in
    let wanted : some a.print order ≡ true = sym c.any.ensures ∙ c.if-any.true in
    let room = rw wanted at (room_next a.buf.now _ (chosen (some a.print order) block_end) _ 0 _ lines (omega (arith, c.requires.1))) in
    rw (tail_length l.buf l.at) (omega (arith, room))

pub returns-then-any : goal.returns-then-any
unfolding block
returns-then-any c =
    let a = c.args in
    let l = c.loop-register in
    let z : l.register-index ≡ 8 = omega arith in
    let lines = rw z at l.invariant in
    let wanted : some a.print order ≡ true = sym c.any.ensures ∙ c.if-any.true in
    rw wanted
    ((put_next a.buf.now _ block_end l.buf _ 0 l.at _ lines (omega (arith, rw wanted at c.requires.1)) refl (tail_back l.buf block_end _ l.at c.put_text.ensures)).bytes
    ∙ laid_front a.buf.now _)

pub returns-else-any : goal.returns-else-any
unfolding block
returns-else-any c =
    let a = c.args in
    let l = c.loop-register in
    let z : l.register-index ≡ 8 = omega arith in
    let lines = rw z at l.invariant in
    let wanted : some a.print order ≡ false = sym c.any.ensures ∙ c.if-any.false in
    rw (wanted, append-nil) (lines.bytes ∙ laid_front a.buf.now _)
