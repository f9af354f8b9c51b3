-- `sensing::along` meets its contract: each step of the fraction fits, so the fraction that is rounded is the definition's. Assumes nothing.
use native.Mathlib.Omega.{arith}
use mathlib.Core.Path.{◌≡◌, sym, ◌∙◌}
use lib.IntN.{pos}
use mir.Syntax.{w64}
use mir.Val.{to_z}
use mir.Facts.{to_z-of_z, to_z_pos}
use Rattle.exact.proofs.Z.{widened, back64}
use Rattle.platinum.proofs.Laws.{fraction_is}
use Rattle.sensing.proofs.Fit.{Fit, fit}
use Rattle.sensing.proofs.along.Goals as goal
use Rattle.sensing.proofs.along.Goals.{Start}

of : (s : Start) → Fit s.args.left s.args.right s.args.input s.args.place
of s = fit s.args.left s.args.right s.args.input s.args.place s.ranges.left s.ranges.right s.ranges.input s.requires.place_lt_entries s.requires.right_value

-- a place of the table is its bits
place_is : (s : Start) → to_z w64 s.args.place ≡ pos s.args.place
place_is s = to_z_pos w64 {n = s.args.place} (omega (arith, s.requires.place_lt_entries))

pub overflow_sub-run : goal.overflow_sub-run
overflow_sub-run c = simp (c.from.ensures, c.from-2.ensures, widened c.ranges.right, widened c.ranges.left) (of (goal.at.overflow_sub-run c).Start).run

pub overflow_mul-place : goal.overflow_mul-place
overflow_mul-place c = simp (place_is (goal.at.overflow_mul-place c).Start) (of (goal.at.overflow_mul-place c).Start).ten

pub overflow_sub-place : goal.overflow_sub-place
overflow_sub-place c = simp (place_is (goal.at.overflow_sub-place c).Start, to_z-of_z (of (goal.at.overflow_sub-place c).Start).ten) (of (goal.at.overflow_sub-place c).Start).offset

pub overflow_mul-place-2 : goal.overflow_mul-place-2
overflow_mul-place-2 c =
    let f = of (goal.at.overflow_mul-place-2 c).Start in
    simp (place_is (goal.at.overflow_mul-place-2 c).Start, c.from.ensures, c.from-2.ensures, widened c.ranges.right, widened c.ranges.left, to_z-of_z f.ten, to_z-of_z f.offset, to_z-of_z f.run) f.base

pub overflow_sub-from : goal.overflow_sub-from
overflow_sub-from c = simp (c.from-3.ensures, c.from-4.ensures, widened c.ranges.input, widened c.ranges.left) (of (goal.at.overflow_sub-from c).Start).far

pub overflow_mul-from : goal.overflow_mul-from
overflow_mul-from c = simp (c.from-3.ensures, c.from-4.ensures, widened c.ranges.input, widened c.ranges.left, to_z-of_z (of (goal.at.overflow_mul-from c).Start).far) (of (goal.at.overflow_mul-from c).Start).climb

pub overflow_add-place : goal.overflow_add-place
overflow_add-place c =
    let f = of (goal.at.overflow_add-place c).Start in
    simp (place_is (goal.at.overflow_add-place c).Start, c.from.ensures, c.from-2.ensures, c.from-3.ensures, c.from-4.ensures, widened c.ranges.input, widened c.ranges.right, widened c.ranges.left, to_z-of_z f.ten, to_z-of_z f.offset, to_z-of_z f.run, to_z-of_z f.base, to_z-of_z f.far, to_z-of_z f.climb)
    f.whole

pub nearest-requires : goal.nearest-requires
nearest-requires c =
    let f = of (goal.at.nearest-requires c).Start in
    simp (place_is (goal.at.nearest-requires c).Start, c.from.ensures, c.from-2.ensures, c.from-3.ensures, c.from-4.ensures, widened c.ranges.input, widened c.ranges.right, widened c.ranges.left, to_z-of_z f.ten, to_z-of_z f.offset, to_z-of_z f.run, to_z-of_z f.base, to_z-of_z f.far, to_z-of_z f.climb, to_z-of_z f.whole)
    f.fraction

pub returns : goal.returns
returns c =
    let s = c in
    let f = of (goal.at.returns c).Start in
    let a = s.args in
    rw (back64 c.nearest.result c.nearest.type_inv)
    (c.nearest.ensures
    ∙ simp (place_is (goal.at.returns c).Start, c.from.ensures, c.from-2.ensures, c.from-3.ensures, c.from-4.ensures, widened s.ranges.input, widened s.ranges.right, widened s.ranges.left, to_z-of_z f.ten, to_z-of_z f.offset, to_z-of_z f.run, to_z-of_z f.base, to_z-of_z f.far, to_z-of_z f.climb, to_z-of_z f.whole)
    (sym (fraction_is a.left a.right a.input a.place)))
