-- `hexadecimal::read_hex` meets its contract: nothing is filled in before the whole text is judged. Assumes nothing.
use mathlib.Core.Path.{sym, ◌∙◌}
use Rattle.hexadecimal.proofs.Digits.{read_not, read_is}
use Rattle.hexadecimal.proofs.read_hex.Goals as goal

pub returns-then-not-is_text : goal.returns-then-not-is_text
returns-then-not-is_text c =
    let r = read_not c.args.bytes.now c.args.text.now (sym c.is_text.ensures ∙ c.if-not-is_text.true) in
    record { value = r.0; bytes_after = r.1 }

pub fill-requires : goal.fill-requires
fill-requires c = sym c.is_text.ensures ∙ c.if-not-is_text.false

pub returns : goal.returns
returns c =
    let e = sym c.is_text.ensures ∙ c.if-not-is_text.false in
    let r = read_is _ _ e c.fill.ensures.value c.fill.ensures.bytes_after in
    record { value = r.0; bytes_after = r.1 }
