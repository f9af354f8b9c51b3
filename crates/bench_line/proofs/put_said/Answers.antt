-- The arm says what is shown.
use Rattle.std.proofs.Common.{Option, sym, ap}
use Rattle.answer.specs.declared.Answer.{Answer}
use Rattle.text.proofs.Pieces.{one, alike}
use Rattle.bench_line.specs.Show.{shown_of}
use Rattle.bench_line.proofs.put_said.Goals as goal

pub returns-in-Some : goal.returns-in-Some
unfolding shown_of
returns-in-Some c = alike _ _ _ _ (ap (λ (x : Option Answer). shown_of x c.args.reply.now) (sym c.in-Some.is)) c.put_answer.ensures

pub returns-in-None : goal.returns-in-None
unfolding shown_of
returns-in-None c = alike _ _ _ _ (ap (λ (x : Option Answer). shown_of x c.args.reply.now) (sym c.in-None.is)) (one _ _ _ c.put.ensures)
