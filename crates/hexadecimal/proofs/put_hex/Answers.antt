-- `hexadecimal::put_hex` meets its contract: each turn puts one byte more. Assumes nothing.
use Rattle.std.proofs.Common.{sym, ap, ◌∙◌, arith, eqb-true}
use borrow.Author.Tests.{eqb-false}
use Rattle.text.specs.Output.{puts}
use Rattle.text.proofs.Pieces.{one, alike}
use Rattle.hexadecimal.proofs.Pieces.{hex_none, hex_some, hex_turn, hex_out}
use Rattle.hexadecimal.proofs.put_hex.Goals as goal

pub returns-then-is_empty : goal.returns-then-is_empty
returns-then-is_empty c = alike _ _ _ _ (hex_none c.args.s.now (eqb-true _ 0 (sym c.is_empty.ensures ∙ c.if-is_empty.true))) (one _ _ _ c.put.ensures)

pub loop-b-preserved : goal.loop-b-preserved
loop-b-preserved c =
    let l = c.loop-b in
    l.invariant ∙ hex_turn _ _ c.args.s.now l.b-index (omega arith) c.put_hex_byte.ensures

pub returns : goal.returns
returns c =
    let l = c.loop-b in
    let s = c.args.s.now in
    sym (ap (puts _) (sym (hex_some s (eqb-false _ 0 (sym c.is_empty.ensures ∙ c.if-is_empty.false)))) ∙ l.invariant ∙ hex_out _ s l.b-index (omega arith))
