-- A reply comes after a 2 alone.
use Rattle.std.proofs.Common.{◌∙◌, sym}
use Rattle.answer.specs.Answer.{number, value}
use Rattle.text.proofs.Pieces.{next, alike}
use Rattle.bench_line.specs.Show.{number_line, reply_pieces}
use Rattle.bench_line.proofs.Pieces.{after_2, after_other}
use Rattle.bench_line.proofs.put_answer.Goals as goal

pub returns-then-number-eq2 : goal.returns-then-number-eq2
returns-then-number-eq2 c =
    let a = c.args in
    let number_is = c.number-number.ensures in
    alike _ _ _ _ (after_2 a.a a.reply.now (sym number_is ∙ c.if-number-eq2.true))
    (next _ _ _ (number_line (number a.a)) (reply_pieces (value a.a) a.reply.now) (rw number_is at c.put_number.ensures) (rw c.value.ensures at c.put_reply.ensures))

pub returns-else-number-eq2 : goal.returns-else-number-eq2
returns-else-number-eq2 c =
    let a = c.args in
    let number_is = c.number-number.ensures in
    alike _ _ _ _ (after_other a.a a.reply.now (λ e. c.if-number-eq2.false (number_is ∙ e))) (rw number_is at c.put_number.ensures)
