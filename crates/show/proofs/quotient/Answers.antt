use Rattle.std.proofs.Common.{rules, ◌∙◌, w32, w64, SFits, to_z-of_z, pos, ◌*ℤ◌}
use Rattle.exact.proofs.Z.{back64}
use Rattle.show.proofs.Pieces.{quotient_is}
use Rattle.show.proofs.quotient.Goals as goal

pub returns : goal.returns
returns c =
    let base : SFits w32 c.args.s.now.time_base = search rules in
    let unit : SFits w64 (pos 20000 *ℤ c.args.s.now.time_base) = search rules in
    back64 c.cut.result c.cut.type_inv ∙ c.cut.ensures
    ∙ rw (to_z-of_z c.ranges.sum, back64 c.from.result c.from.type_inv, c.from.ensures, to_z-of_z base, to_z-of_z unit)
    (quotient_is c.args.s.now c.args.sum (rw (to_z-of_z base) at c.if-s-lt1.false))
