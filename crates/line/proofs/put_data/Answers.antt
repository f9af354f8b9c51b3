-- `line::put_data` meets its contract: the line's end is written over the tail behind the data. Assumes nothing.
use native.Mathlib.Omega.{arith}
use Rattle.field.proofs.Length.{field_length}
use Rattle.line.specs.Line.{line_end, abbreviated_line}
use Rattle.line.proofs.Over.{then_back}
use Rattle.line.proofs.put_data.Goals as goal

pub returns : goal.returns
unfolding abbreviated_line
returns c =
    let f = c in
    let s = f in
    then_back s.args.buf.now _ line_end _ _ 12 f.put_field.ensures (field_length s.args.places s.args.shown s.requires.0) (omega arith)
    c.put_text.ensures
