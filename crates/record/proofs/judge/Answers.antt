-- A line that is not too long is its bytes.
use Rattle.std.proofs.Common.{◌∙◌, sym, ap}
use Rattle.text.specs.Line.{Heard}
use Rattle.record.specs.Record.{event_heard, read_heard, stored}
use Rattle.record.proofs.Said.{untouched}
use Rattle.record.proofs.judge.Goals as goal

pub returns-in_err-text : goal.returns-in_err-text
unfolding event_heard read_heard
returns-in_err-text c =
    let long = c.in_err-text.ensures in
    record { value = c.from_residual.ensures ∙ sym (ap event_heard long); settings_after = untouched c.args.settings.now (sym (ap read_heard long)) }

pub returns : goal.returns
unfolding event_heard read_heard
returns c =
    let bytes = c.in_ok-text.ensures in
    record {
      value = c.parse.ensures.value ∙ sym (ap event_heard bytes);
      settings_after = c.parse.ensures.settings_after ∙ sym (ap (λ (h : Heard). stored 0 c.args.settings.now (read_heard h)) bytes);
    }
