-- `scaling::along` meets its contract: each step of the fraction fits, so the fraction that is rounded is the definition's. Assumes nothing.
use mathlib.Core.Path.{◌∙◌}
use mir.Facts.{to_z-of_z}
use Rattle.exact.proofs.Z.{widens, widened, back64}
use Rattle.segments.specs.Segments.{along}
use Rattle.segments.proofs.Fit.{Fit, fit}
use Rattle.scaling.proofs.along.Goals as goal

of : (s : goal.Start) → Fit s.args.input s.args.display s.args.rise s.args.run s.args.x
of s = fit _ _ _ _ _ s.ranges.input s.ranges.display s.requires

pub overflow_cast-over : goal.overflow_cast-over
overflow_cast-over c = widens c.ranges.run

pub overflow_cast-display : goal.overflow_cast-display
overflow_cast-display c = widens c.ranges.display

pub overflow_mul-display : goal.overflow_mul-display
overflow_mul-display c = simp (widened c.ranges.run, widened c.ranges.display) (of c).start

pub overflow_cast-x : goal.overflow_cast-x
overflow_cast-x c = widens c.ranges.x

pub overflow_cast-input : goal.overflow_cast-input
overflow_cast-input c = widens c.ranges.input

pub overflow_sub-x : goal.overflow_sub-x
overflow_sub-x c = simp (widened c.ranges.x, widened c.ranges.input) (of c).along

pub overflow_cast-rise : goal.overflow_cast-rise
overflow_cast-rise c = widens c.ranges.rise

pub overflow_mul-x : goal.overflow_mul-x
overflow_mul-x c = simp (widened c.ranges.x, widened c.ranges.input, widened c.ranges.rise, to_z-of_z (of c).along) (of c).climb

pub overflow_add-display : goal.overflow_add-display
overflow_add-display c =
    let f = of c in
    simp (widened c.ranges.x, widened c.ranges.input, widened c.ranges.display, widened c.ranges.rise, widened c.ranges.run, to_z-of_z f.along, to_z-of_z f.start, to_z-of_z f.climb)
    f.whole

pub nearest-requires : goal.nearest-requires
nearest-requires c =
    let f = of c in
    simp (widened c.ranges.x, widened c.ranges.input, widened c.ranges.display, widened c.ranges.rise, widened c.ranges.run, to_z-of_z f.along, to_z-of_z f.start, to_z-of_z f.climb, to_z-of_z f.whole)
    f.fraction

pub returns : goal.returns
unfolding along
returns c =
    let s = c in
    let f = of s.before in
    rw (back64 c.nearest.result c.nearest.type_inv)
    (c.nearest.ensures
    ∙ simp (widened s.ranges.x, widened s.ranges.input, widened s.ranges.display, widened s.ranges.rise, widened s.ranges.run, to_z-of_z f.along, to_z-of_z f.start, to_z-of_z f.climb, to_z-of_z f.whole))
