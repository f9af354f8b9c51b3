-- `line::write_line` meets its contract: what is put is the line, as long as the room that is asked for. Assumes nothing.
use Rattle.std.proofs.Common.{◌≡◌, ◌∙◌, sym, ap, List, ℕ, ◌++◌, take, drop, rules}
use Rattle.line.specs.Line.{line}
use Rattle.line.specs.Buffer.{over}
use Rattle.line.proofs.Over.{whole}
use Rattle.line.proofs.Lines.{line_length_lem}
use Rattle.line.proofs.write_line.Goals as goal

pub returns : goal.returns
returns c =
    let a = c.args in
    let w = c.write_whole in
    whole a.buf.now (line a.style a.register a.places a.shown) _ a.place _ _
    (c.line_length-bytes.ensures ∙ sym (line_length_lem a.style a.register a.places a.shown c.requires)) w.ensures.value
    (λ e.
    let t = w.ensures.written e in
    let q : t.0 ≡ over (drop a.place a.buf.now) (line a.style a.register a.places a.shown) = search rules in
    t.2 ∙ ap (λ (tail : List ℕ). take a.place a.buf.now ++ tail) q)
    w.ensures.left
