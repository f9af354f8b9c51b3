-- `exact::nearest` meets its contract: each step fits, so each read gives what was written, and the quotient is the definition's. Assumes nothing.
use borrow.Author.Rules.{rules}
use mir.Facts.{to_z-of_z}
use Rattle.exact.proofs.Z.{neg_is}
use Rattle.exact.proofs.Quotients.{Fits, fit, nearest_up, nearest_down, twice_some}
use Rattle.exact.proofs.nearest.Goals as goal
use Rattle.exact.proofs.nearest.Lts as lts
use Rattle.exact.proofs.nearest.Reads as reads

abbrev Start : Type 0
Start = lts.Start reads.Pre reads.Post

of : (s : Start) → Fits s.args.n s.args.d
of s = fit _ _ s.requires

pub overflow_mul-result : goal.overflow_mul-result
overflow_mul-result c = let f = of c.before in search rules

pub overflow_sub-result : goal.overflow_sub-result
overflow_sub-result c = let f = of c.before in search rules

pub overflow_mul-result-then-n-lt0 : goal.overflow_mul-result-then-n-lt0
overflow_mul-result-then-n-lt0 c = let f = of c.before in search rules

pub nonzero_div-result : goal.nonzero_div-result
nonzero_div-result c =
    let s = c.before in
    let f = of s in
    simp (to_z-of_z s.ranges.n, to_z-of_z s.ranges.d, to_z-of_z f.twice_n, to_z-of_z f.twice_d, to_z-of_z f.less)
    (twice_some s.args.d s.requires.divisor, f.down)

pub overflow_mul-result-else-n-lt0 : goal.overflow_mul-result-else-n-lt0
overflow_mul-result-else-n-lt0 c = let f = of c.before in search rules

pub overflow_add-result : goal.overflow_add-result
overflow_add-result c = let f = of c.before in search rules

pub overflow_mul-result-else-n-lt0-2 : goal.overflow_mul-result-else-n-lt0-2
overflow_mul-result-else-n-lt0-2 c = let f = of c.before in search rules

pub nonzero_div-result-else-n-lt0 : goal.nonzero_div-result-else-n-lt0
nonzero_div-result-else-n-lt0 c =
    let s = c.before in
    let f = of s in
    simp (to_z-of_z s.ranges.n, to_z-of_z s.ranges.d, to_z-of_z f.twice_n, to_z-of_z f.twice_d, to_z-of_z f.more)
    (twice_some s.args.d s.requires.divisor, f.up)

pub returns-then-n-lt0 : goal.returns-then-n-lt0
returns-then-n-lt0 c =
    let s = c.before in
    let f = of s in
    simp (to_z-of_z s.ranges.n, to_z-of_z s.ranges.d, to_z-of_z f.twice_n, to_z-of_z f.twice_d, to_z-of_z f.less, to_z-of_z f.down)
    (nearest_down s.args.n s.args.d (neg_is s.ranges.n c.if-n-lt0.true) s.requires.divisor.above)

pub returns-else-n-lt0 : goal.returns-else-n-lt0
returns-else-n-lt0 c =
    let s = c.before in
    let f = of s in
    simp (to_z-of_z s.ranges.n, to_z-of_z s.ranges.d, to_z-of_z f.twice_n, to_z-of_z f.twice_d, to_z-of_z f.more, to_z-of_z f.up)
    (nearest_up s.args.n s.args.d (neg_is s.ranges.n c.if-n-lt0.false) s.requires.divisor.above)
