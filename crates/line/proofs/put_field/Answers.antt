-- `line::put_field` meets its contract: the first twelve bytes are lent, and come back as the field. Assumes nothing.
use Rattle.field.proofs.Length.{field_length}
use Rattle.line.specs.Buffer.{over}
use Rattle.line.proofs.put_field.Goals as goal

pub returns : goal.returns
unfolding over
returns c =
    let s = c in
    rw (c.fill.ensures, field_length s.args.places s.args.shown s.requires.0)
