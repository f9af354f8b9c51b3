-- What has a space in it is no number, so all that is left can be read as one word.
use Rattle.std.proofs.Common.{◌≡◌, ◌∙◌, sym, ap, Some, ℤ, w32, to_z, of_z, rules}
use Rattle.record.specs.Record.{sample_of}
use Rattle.record.specs.declared.Event.TheVariants.{Sample}
use Rattle.record.proofs.Said.{sample_is}
use Rattle.record.proofs.sample.Goals as goal

pub returns : goal.returns
returns c =
    let v = c.in_ok-read_number.field-0 in
    let e : to_z w32 (of_z w32 v) ≡ v = search rules in
    ap (λ (z : ℤ). Some (Sample z)) e ∙ ap sample_of (sym c.in_ok-read_number.was ∙ c.read_number.ensures) ∙ sample_is c.args.s.now

pub returns-in_err-read_number : goal.returns-in_err-read_number
returns-in_err-read_number c =
    c.from_residual.ensures ∙ ap sample_of (sym c.in_err-read_number.was ∙ c.read_number.ensures) ∙ sample_is c.args.s.now
