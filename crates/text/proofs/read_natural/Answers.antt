-- Each turn is one law.
use Rattle.std.proofs.Common.{◌≡◌, ◌<◌, ◌+◌, ◌*◌, ◌-◌, ◌∙◌, refl, length, get_or, false, arith}
use Rattle.text.proofs.Laws.{outside, inside, digits_at, value_at, natural_out, natural_bad, natural_over, natural_is}
use Rattle.text.proofs.read_natural.Goals as goal

pub returns-then-s-most : goal.returns-then-s-most
returns-then-s-most c = natural_out c.args.most c.args.s.now c.if-s-most.true

pub loop-b-init : goal.loop-b-init
loop-b-init c = (omega arith, refl, refl)

pub returns-then-b : goal.returns-then-b
returns-then-b c = natural_bad c.args.most c.args.s.now c.loop-b.b-index c.if-s-most.false c.loop-b.invariant.1 (omega arith) c.if-b.true

pub returns-in_err-checked_mul : goal.returns-in_err-checked_mul
returns-in_err-checked_mul c =
    let k : 18446744073709551615 < c.loop-b.v * 10 = omega (arith, c.in_err-checked_mul.ensures) in
    c.from_residual.ensures
    ∙ natural_over c.args.most c.args.s.now c.loop-b.b-index c.if-s-most.false c.loop-b.invariant.1 c.loop-b.v (omega arith) c.loop-b.invariant.2
    (omega (arith, k))

pub returns-in_err-v : goal.returns-in_err-v
returns-in_err-v c =
    let d = inside (get_or c.args.s.now c.loop-b.b-index 0) 48 57 c.if-b.false in
    let k : 18446744073709551615 < c.loop-b.v * 10 + (get_or c.args.s.now c.loop-b.b-index 0 - 48) =
    omega (arith, c.in_ok-checked_mul.ensures, c.from.ensures, c.in_err-v.ensures) in
    c.from_residual-in_err-v.ensures
    ∙ natural_over c.args.most c.args.s.now c.loop-b.b-index c.if-s-most.false c.loop-b.invariant.1 c.loop-b.v (omega arith) c.loop-b.invariant.2 k

pub loop-b-preserved : goal.loop-b-preserved
loop-b-preserved c =
    let d = inside (get_or c.args.s.now c.loop-b.b-index 0) 48 57 c.if-b.false in
    let h : c.loop-b.b-index < length c.args.s.now = omega arith in
    let sum : c.in_ok-v.v ≡ c.loop-b.v * 10 + (get_or c.args.s.now c.loop-b.b-index 0 - 48) =
    omega (arith, c.in_ok-checked_mul.ensures, c.from.ensures, c.in_ok-v.ensures) in (
      omega (arith, c.in_ok-v.ensures),
      c.loop-b.invariant.1 ∙ digits_at c.args.s.now c.loop-b.b-index h ∙ rw (outside (get_or c.args.s.now c.loop-b.b-index 0) 48 57 false c.if-b.false),
      c.loop-b.invariant.2 ∙ value_at c.loop-b.v c.args.s.now c.loop-b.b-index h ∙ rw sum,
    )

pub returns : goal.returns
returns c = natural_is c.args.most c.args.s.now c.loop-b.b-index c.if-s-most.false c.loop-b.invariant.1 c.loop-b.v (omega arith) c.loop-b.invariant.2 c.loop-b.invariant.0
