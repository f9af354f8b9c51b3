-- The number is the first word, and the place what is behind it.
use Rattle.std.proofs.Common.{◌≡◌, ◌∙◌, refl, sym, ap, ℤ, Some, None, w32, to_z, of_z, rules}
use Rattle.text.specs.Number.{number_of}
use Rattle.record.specs.Record.{place_of}
use Rattle.record.specs.declared.Event.TheVariants.{Key}
use Rattle.record.proofs.Said.{key_none, key_parts}
use Rattle.record.proofs.key.Goals as goal

pub returns-in_err-number : goal.returns-in_err-number
returns-in_err-number c = c.from_residual.ensures ∙ key_none c.args.s.now c.in_err-number.ensures

pub returns-in_err-read_number : goal.returns-in_err-read_number
returns-in_err-read_number c =
    let p = c.in_ok-number.ensures in
    c.from_residual-in_err-read_number.ensures
    ∙ key_parts c.args.s.now p.0 _ refl None (sym c.in_err-read_number.was ∙ c.read_number.ensures ∙ ap number_of p.1)

pub returns-in_err-place : goal.returns-in_err-place
returns-in_err-place c =
    let p = c.in_ok-number.ensures in
    c.from_residual-in_err-place.ensures
    ∙ key_parts c.args.s.now p.0 None (sym c.in_err-place.was ∙ c.place.ensures ∙ ap place_of p.2)
    (Some c.in_ok-read_number.field-0) (sym c.in_ok-read_number.was ∙ c.read_number.ensures ∙ ap number_of p.1)

pub returns : goal.returns
returns c =
    let p = c.in_ok-number.ensures in
    let v = c.in_ok-read_number.field-0 in
    let at = c.in_ok-place.field-0 in
    let e : to_z w32 (of_z w32 v) ≡ v = search rules in
    ap (λ (z : ℤ). Some (Key z at)) e
    ∙ key_parts c.args.s.now p.0 (Some at) (sym c.in_ok-place.was ∙ c.place.ensures ∙ ap place_of p.2)
    (Some v) (sym c.in_ok-read_number.was ∙ c.read_number.ensures ∙ ap number_of p.1)
