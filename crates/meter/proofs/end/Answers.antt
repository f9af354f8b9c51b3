-- `meter::end` meets its contract: what a string is parsed to may be carried out. Assumes nothing.
use Rattle.std.proofs.Common.{sym, ◌∙◌}
use Rattle.form.proofs.Understood.{understood}
use Rattle.meter.proofs.end.Goals as goal

pub tell-requires-clause-by_index : goal.tell-requires-clause-by_index
tell-requires-clause-by_index c = λ node asked e. (understood.permitted _ node asked (sym c.parse_held-parsed.ensures ∙ e)).1
