-- The first byte says which sign.
use Rattle.std.proofs.Common.{◌∙◌, sym, ap, true, false}
use Rattle.text.specs.Number.{signed_of}
use Rattle.text.proofs.Laws.{empty_not, with_minus, with_none}
use Rattle.text.proofs.read_number.Goals as goal

pub returns-then-s-lt1 : goal.returns-then-s-lt1
returns-then-s-lt1 c = empty_not c.args.s.now c.if-s-lt1.true

pub returns-in_err-read_natural : goal.returns-in_err-read_natural
unfolding signed_of
returns-in_err-read_natural c =
    c.from_residual.ensures ∙ ap (signed_of true) (sym c.in_err-read_natural.was ∙ c.read_natural.ensures) ∙ with_minus c.args.s.now c.if-s-eq45.true

pub returns-in_err-read_natural-2 : goal.returns-in_err-read_natural-2
unfolding signed_of
returns-in_err-read_natural-2 c =
    c.from_residual-in_err-read_natural-2.ensures ∙ ap (signed_of false) (sym c.in_err-read_natural-2.was ∙ c.read_natural-else-s-eq45.ensures) ∙ with_none c.args.s.now c.if-s-eq45.false

pub returns-in_ok-read_natural : goal.returns-in_ok-read_natural
returns-in_ok-read_natural c =
    c.with_sign.ensures ∙ ap (signed_of true) (sym c.in_ok-read_natural.was ∙ c.read_natural.ensures) ∙ with_minus c.args.s.now c.if-s-eq45.true

pub returns-in_ok-read_natural-2 : goal.returns-in_ok-read_natural-2
returns-in_ok-read_natural-2 c =
    c.with_sign-else-s-eq45.ensures ∙ ap (signed_of false) (sym c.in_ok-read_natural-2.was ∙ c.read_natural-else-s-eq45.ensures) ∙ with_none c.args.s.now c.if-s-eq45.false
