-- `field::put_digits` meets its contract. The invariant: the digits asked for are those of what is left, and then what stands from i on. Assumes nothing.
use Rattle.std.proofs.Common.{◌∙◌, ◌≡◌, ◌-◌, ◌/◌, sym, arith}
use Rattle.field.specs.Field.{digits}
use Rattle.field.proofs.Digits.{digits_last, one_down}
use Rattle.field.proofs.put_digits.Goals as goal

pub loop-i-preserved : goal.loop-i-preserved
loop-i-preserved c =
    let l = c.loop-i in
    l.invariant
    ∙ rw (c.last_digit.ensures, digits_last l.i l.left (omega arith))
    (one_down (digits (l.i - 1) (l.left / 10)) l.buf l.i _ (omega arith) (omega arith))

pub returns : goal.returns
unfolding digits
returns c =
    let z : c.loop-i.i ≡ 0 = omega arith in
    sym (c.loop-i.invariant ∙ rw z)
