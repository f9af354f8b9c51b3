-- The number is the first word, and the place what is behind it.
use Rattle.std.proofs.Common.{◌≡◌, ◌∙◌, ◌≤◌, ◌<◌, refl, sym, ap, ℕ, Some, None, rules}
use Rattle.text.specs.Number.{natural_of}
use Rattle.record.specs.Record.{place_of}
use Rattle.record.specs.declared.Event.TheVariants.{Byte}
use Rattle.record.proofs.Said.{byte_none, byte_parts, byte_past, byte_within}
use Rattle.record.proofs.byte.Goals as goal

pub returns-in_err-number : goal.returns-in_err-number
returns-in_err-number c = c.from_residual.ensures ∙ byte_none c.args.s.now c.in_err-number.ensures

pub returns-in_err-read_natural : goal.returns-in_err-read_natural
returns-in_err-read_natural c =
    let p = c.in_ok-number.ensures in
    c.from_residual-in_err-read_natural.ensures
    ∙ byte_parts c.args.s.now p.0 _ refl None (sym c.in_err-read_natural.was ∙ c.read_natural.ensures ∙ ap (natural_of 3) p.1)

pub returns-in_err-byte : goal.returns-in_err-byte
returns-in_err-byte c =
    let p = c.in_ok-number.ensures in
    let v = c.in_ok-read_natural.field-0 in
    let past : 255 < v = search rules in
    c.from_residual-in_err-byte.ensures ∙ byte_past v _ past
    ∙ byte_parts c.args.s.now p.0 _ refl (Some v) (sym c.in_ok-read_natural.was ∙ c.read_natural.ensures ∙ ap (natural_of 3) p.1)

pub returns-in_err-place : goal.returns-in_err-place
returns-in_err-place c =
    let p = c.in_ok-number.ensures in
    c.from_residual-in_err-place.ensures
    ∙ byte_parts c.args.s.now p.0 None (sym c.in_err-place.was ∙ c.place.ensures ∙ ap place_of p.2)
    (Some c.in_ok-read_natural.field-0) (sym c.in_ok-read_natural.was ∙ c.read_natural.ensures ∙ ap (natural_of 3) p.1)

pub returns : goal.returns
returns c =
    let p = c.in_ok-number.ensures in
    let v = c.in_ok-read_natural.field-0 in
    let at = c.in_ok-place.field-0 in
    let within : v ≤ 255 = search rules in
    let e : c.in_ok-byte.byte ≡ v = search rules in
    ap (λ (b : ℕ). Some (Byte b at)) e ∙ byte_within v at within
    ∙ byte_parts c.args.s.now p.0 (Some at) (sym c.in_ok-place.was ∙ c.place.ensures ∙ ap place_of p.2)
    (Some v) (sym c.in_ok-read_natural.was ∙ c.read_natural.ensures ∙ ap (natural_of 3) p.1)
