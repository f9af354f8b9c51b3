-- A line that is not too long is its bytes.
use Rattle.std.proofs.Common.{◌∙◌, sym, ap}
use Rattle.rescaling.specs.Rescaling.{input_heard}
use Rattle.rescaling.proofs.input.Goals as goal

pub returns-in_err-text : goal.returns-in_err-text
unfolding input_heard
returns-in_err-text c = c.from_residual.ensures ∙ sym (ap input_heard c.in_err-text.ensures)

pub returns : goal.returns
unfolding input_heard
returns c = c.read_number.ensures ∙ sym (ap input_heard c.in_ok-text.ensures)
