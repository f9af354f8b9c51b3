-- `line::put_head` meets its contract: three texts, each written over the tail behind the one before it. Assumes nothing.
use Rattle.std.proofs.Common.{◌≡◌, ap, ◌∙◌, ◌++◌, ◌∷◌, [], ◌-◌, length, take, drop, length-append, arith}
use Rattle.register.specs.Registers.{entry}
use Rattle.register.proofs.Table.{ruled}
use Rattle.line.specs.Buffer.{over}
use Rattle.line.specs.Line.{node_text, head}
use Rattle.line.proofs.Over.{over_length, tail_length, then_back}
use Rattle.line.proofs.Lines.{node_length}
use Rattle.line.proofs.put_head.Goals as goal
use Rattle.line.proofs.put_head.Goals.{After-put_text-2}

-- after the second text
spaced : (c : After-put_text-2) →
    let b = c.put_text.new.buf in
    take 2 b ++ (c.put_text-2.new.buf ++ drop (length b - 2) (drop 2 b)) ≡ over c.args.buf.now (node_text c.args.node ++ (32 ∷ []))
spaced c =
    let a = c.args in
    then_back a.buf.now (node_text a.node) _ _ _ 2 (c.put_text.ensures ∙ ap (over a.buf.now) c.node_text.ensures)
    (node_length a.node) (omega arith) c.put_text-2.ensures

pub put_text-requires-3 : goal.put_text-requires-3
put_text-requires-3 c =
    let a = c.args in
    let t = node_text a.node ++ (32 ∷ []) in
    let n = length-append (node_text a.node) (32 ∷ []) in
    let l = node_length a.node in
    let o = over_length a.buf.now t (omega arith) in
    rw (spaced (goal.at.put_text-requires-3 c).After-put_text-2, tail_length (over a.buf.now t) 3, o, c.register_at.ensures, (ruled a.register c.requires.1).mnemonic) (omega arith)

pub returns : goal.returns
unfolding head
returns c =
    let a = c.args in
    let t = node_text a.node ++ (32 ∷ []) in
    then_back a.buf.now t (entry a.register).mnemonic _ _ 3 (spaced (goal.at.returns c).After-put_text-2)
    (length-append (node_text a.node) (32 ∷ []) ∙ omega (arith, node_length a.node)) (omega arith)
    (c.put_text-3.ensures ∙ rw c.register_at.ensures)
