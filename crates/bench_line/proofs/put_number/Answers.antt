-- The numeral and the LF are put one after another.
use Rattle.std.proofs.Common.{[], ◌∷◌}
use Rattle.text.specs.Numeral.{numeral}
use Rattle.text.proofs.Pieces.{one, next}
use Rattle.bench_line.proofs.put_number.Goals as goal

pub returns : goal.returns
returns c = next _ _ _ (numeral c.args.n ∷ []) ((10 ∷ []) ∷ []) c.put_natural.ensures (one _ _ _ c.put.ensures)
