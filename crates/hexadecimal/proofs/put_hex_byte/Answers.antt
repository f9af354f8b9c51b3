-- `hexadecimal::put_hex_byte` meets its contract: the table has the sixteen digits. Assumes nothing.
use Rattle.std.proofs.Common.{[], ◌∷◌, ℕ, ap, ap₂, ◌∙◌, arith}
use Rattle.io.specs.Digits.{hex_digit_ascii}
use Rattle.text.specs.Output.{waiting, put_in}
use Rattle.text.proofs.Pieces.{one}
use Rattle.hexadecimal.proofs.Pieces.{hex_digit}
use Rattle.hexadecimal.proofs.put_hex_byte.Goals as goal

pub returns : goal.returns
returns c =
    let w = waiting c.args.out.now in
    one w (waiting c.put.new.self) _
    (c.put.ensures
    ∙ ap (put_in w)
    (ap₂ (λ (x y : ℕ). x ∷ y ∷ []) (hex_digit c.from-high.result (omega (arith, c.from-high.ensures)) ∙ ap hex_digit_ascii c.from-high.ensures)
    (hex_digit c.from-low.result (omega (arith, c.from-low.ensures)) ∙ ap hex_digit_ascii c.from-low.ensures)))
