-- `total::added` meets its contract: the sum of a kept total and what is added fits. Assumes nothing.
use Rattle.std.proofs.Common.{rules, ◌≡◌, ◌∙◌, w64, to_z, of_z}
use mir.Facts.{to_z-of_z}
use Rattle.total.specs.Total.{added}
use Rattle.total.proofs.Sums.{sum_fits}
use Rattle.total.proofs.added.Goals as goal

pub returns-in-Within : goal.returns-in-Within
unfolding added
returns-in-Within c =
    let a = c.args in
    let e : to_z w64 (of_z w64 a.t.sum) ≡ a.t.sum = search rules in
    let f = sum_fits a.s c.requires.timed a.t a.x c.requires.t_value c.requires.x_bound in
    rw c.in-Within.is (c.summed.ensures ∙ rw (e, to_z-of_z c.ranges.x, to_z-of_z f))
