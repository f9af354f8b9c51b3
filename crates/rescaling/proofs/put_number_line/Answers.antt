-- The number and the LF are put one after another.
use Rattle.std.proofs.Common.{◌≡◌, ap, [], ◌∷◌, w64, to_z, of_z, rules}
use Rattle.text.proofs.Pieces.{one, next, alike}
use Rattle.signed.specs.Signed.{signed}
use Rattle.rescaling.proofs.put_number_line.Goals as goal

pub returns : goal.returns
returns c =
    let z : to_z w64 (of_z w64 c.from.result) ≡ c.args.z = search rules in
    next _ _ _ (signed c.args.z) ((10 ∷ []) ∷ []) (alike _ _ _ _ (ap signed z) c.put_number.ensures) (one _ _ _ c.put.ensures)
