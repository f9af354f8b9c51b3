-- `exact::among` meets its contract: std's search is the definition's. Assumes nothing.
use Rattle.std.proofs.Common.{◌∙◌}
use mir.Facts.{to_z-of_z}
use Rattle.exact.proofs.Table.{any_among}
use Rattle.exact.proofs.among.Goals as goal

pub returns : goal.returns
returns c =
    rw (to_z-of_z c.ranges.n) at c.contains.ensures.value ∙ any_among c.args.n c.args.table.now
