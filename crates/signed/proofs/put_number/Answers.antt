-- The sign is put where the number is below zero.
use Rattle.std.proofs.Common.{◌≡◌, ◌∙◌, ap, [], ◌∷◌, nat_abs, to_z-of_z}
use Rattle.exact.proofs.Z.{neg_is}
use Rattle.register.specs.Bytes.{ascii}
use Rattle.text.specs.Numeral.{numeral}
use Rattle.text.specs.Output.{Waiting, waiting, puts}
use Rattle.text.proofs.Pieces.{one, next, alike}
use Rattle.signed.proofs.Signs.{signed_neg, signed_pos}
use Rattle.signed.proofs.put_number.Goals.{then-z-lt0, else-z-lt0}
use Rattle.signed.proofs.put_number.Goals as goal

pub returns : goal.returns
returns c =
    let digits = numeral (nat_abs c.args.z) ∷ [] in
    let size : waiting c.put_natural.new.self ≡ puts (waiting c.if-z-lt0.out) digits =
    rw (c.unsigned_abs.ensures.value ∙ ap nat_abs (to_z-of_z c.ranges.z)) at c.put_natural.ensures in
    elim c.if-z-lt0.branch [
      | then-z-lt0 w ↦
          alike _ _ _ _ (signed_neg c.args.z (neg_is c.ranges.z w.if-z-lt0.true))
          (next _ _ _ (ascii "-" ∷ []) digits (one _ _ _ (ap waiting w.out-is ∙ w.put.ensures)) size)
      | else-z-lt0 w ↦
          alike _ _ _ _ (signed_pos c.args.z (neg_is c.ranges.z w.if-z-lt0.false)) (size ∙ ap (λ (x : Waiting). puts x digits) (ap waiting w.out-is))
    ]
