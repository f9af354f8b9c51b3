-- `historian_line::put_fields` meets its contract: kind and places come first, and then the bits. Assumes nothing.
use Rattle.text.proofs.Pieces.{next}
use Rattle.historian_line.specs.Line.{kind_pieces, bits_pieces, fields_line}
use Rattle.historian_line.proofs.put_fields.Goals as goal

pub returns : goal.returns
unfolding fields_line
returns c =
    let a = c.args in
    next _ _ _ (kind_pieces a.kind a.places) (bits_pieces a.bits) c.put_kind.ensures c.put_bits.ensures
