-- What `io::decimal` spells is the numeral.
use Rattle.std.proofs.Common.{◌∙◌, ap, arith}
use Rattle.text.specs.Output.{waiting, put_in}
use Rattle.text.proofs.Pieces.{one, numeral_is}
use Rattle.text.proofs.output.Out.put_natural.Goals as goal

pub returns : goal.returns
returns c =
    let d = c.decimal-k.ensures in
    one _ _ _ (c.put.ensures ∙ ap (put_in (waiting c.args.self.now)) (d.digits ∙ numeral_is c.args.n c.decimal-k.result d.len (omega arith)))
