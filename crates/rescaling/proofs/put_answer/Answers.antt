-- The pieces are put one after another.
use Rattle.std.proofs.Common.{[], ◌∷◌}
use Rattle.answer.specs.Answer.{number, value}
use Rattle.register.specs.Bytes.{ascii}
use Rattle.text.specs.Numeral.{numeral}
use Rattle.text.proofs.Pieces.{one, next}
use Rattle.rescaling.proofs.put_answer.Goals as goal

pub returns : goal.returns
returns c =
    let a = c.args.a in
    next _ _ _ (numeral (number a) ∷ ascii " " ∷ numeral (value a) ∷ []) ((10 ∷ []) ∷ [])
    (next _ _ _ (numeral (number a) ∷ ascii " " ∷ []) (numeral (value a) ∷ [])
    (next _ _ _ (numeral (number a) ∷ []) (ascii " " ∷ []) (rw c.number.ensures at c.put_natural.ensures) (one _ _ _ c.put.ensures))
    (rw c.value.ensures at c.put_natural-2.ensures))
    (one _ _ _ c.put-2.ensures)
