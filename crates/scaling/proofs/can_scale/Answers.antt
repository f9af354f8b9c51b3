-- `scaling::can_scale` meets its contract: the three tests, put together. Assumes nothing.
use Rattle.std.proofs.Common.{rules, ◌≡◌, w32, to_z, of_z}
use Rattle.segments.specs.Segments.{tested}
use Rattle.scaling.proofs.can_scale.Goals as goal

pub returns : goal.returns
unfolding tested
returns c =
    let step : to_z w32 (of_z w32 c.args.s.now.step) ≡ c.args.s.now.step = search rules in
    rw (c.is_within.ensures, c.segments_in.ensures, step)
