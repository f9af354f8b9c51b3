-- `historian_line::put_taken` meets its contract: a refusal is its number and the line's end. Assumes nothing.
use Rattle.std.proofs.Common.{[], ◌∷◌, ℕ, sym, ap}
use Rattle.text.specs.Numeral.{numeral}
use Rattle.text.proofs.Pieces.{alike}
use Rattle.filed.specs.Filed.{refusal_number}
use Rattle.historian_line.specs.Line.{taken_line}
use Rattle.historian_line.proofs.Ended.{line_end}
use Rattle.historian_line.proofs.put_taken.Goals as goal

pub returns-in-Err : goal.returns-in-Err
unfolding taken_line
returns-in-Err c =
    alike _ _ _ _ (ap taken_line (sym c.in-Err.is))
    (line_end _ _ _ (numeral (refusal_number c.in-Err.why) ∷ []) (alike _ _ _ _ (ap (λ (k : ℕ). numeral k ∷ []) c.number.ensures) c.put_natural.ensures) c.put.ensures)
