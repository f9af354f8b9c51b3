-- `filing::write` meets its contract: what is given has bits, so its bytes are laid. Assumes nothing.
use Rattle.std.proofs.Common.{sym, ap, ◌∙◌, to_z-of_z}
use Rattle.filed.specs.Filed.{given_of}
use Rattle.filing.proofs.Datums.{given_number}
use Rattle.filing.proofs.write.Goals as goal

pub bytes_of-requires : goal.bytes_of-requires
bytes_of-requires c =
    given_number c.args.reading c.args.places _ (sym c.in_ok-said.was ∙ c.give.ensures ∙ ap (given_of c.args.reading) (to_z-of_z c.ranges.places))
