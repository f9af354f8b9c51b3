-- `exact::cut` meets its contract: the machine's quotient is the definition's, and no larger than the dividend. Assumes nothing.
use mir.Syntax.{w64}
use mir.Facts.{to_z-of_z}
use Rattle.exact.proofs.Z.{rd, divisor}
use Rattle.exact.proofs.Quotients.{quotient_cut, cut_fits}
use Rattle.exact.proofs.cut.Goals as goal

pub nonzero_div-result : goal.nonzero_div-result
nonzero_div-result c =
    simp (to_z-of_z c.ranges.n, to_z-of_z c.ranges.d, quotient_cut c.args.n c.args.d c.requires)
    (divisor w64 c.args.d c.requires.above c.requires.some, cut_fits _ _ c.ranges.n)

pub returns : goal.returns
returns c =
    simp (to_z-of_z c.ranges.n, to_z-of_z c.ranges.d)
    (rd (quotient_cut c.args.n c.args.d c.requires) (cut_fits _ _ c.ranges.n))
