-- A line that is not too long is its bytes.
use Rattle.std.proofs.Common.{◌∙◌, sym, ap}
use Rattle.text.specs.Line.{heard}
use Rattle.bench_line.specs.Grammar.{judged}
use Rattle.bench_line.specs.Asked.{asked}
use Rattle.bench_line.proofs.Sayings.{payload}
use Rattle.bench_line.proofs.grammar.judge.Goals as goal

pub returns-in_err-text-clause-value : goal.returns-in_err-text-clause-value
unfolding judged
returns-in_err-text-clause-value c = ap asked c.from_residual.ensures ∙ sym (ap judged c.in_err-text.ensures)

pub returns : goal.returns
unfolding judged
returns c =
    let value = c.parse.ensures ∙ sym (ap judged c.in_ok-text.ensures) in
    record { value = value; payload = λ s e. payload (heard c.args.line.now) s (sym value ∙ e) }
