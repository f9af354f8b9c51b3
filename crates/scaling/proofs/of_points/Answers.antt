-- `scaling::of_points` meets its contract: each closure gives what the definition says of a segment. Assumes nothing.
use Rattle.std.proofs.Common.{rules, ◌≡◌, ◌∙◌, ℕ, ◌+◌, ◌<◌, ◌≤◌, List, ℤ, ◌-ℤ◌, nat_abs, w32, to_z, of_z, arith}
use lib.Dec.{lit<}
use mir.Val.{SFits}
use mir.Facts.{to_z-of_z}
use Rattle.exact.proofs.Z.{abs_fits, abs_sub_le, between_is}
use Rattle.reading.specs.Reading.{point}
use Rattle.segments.specs.Segments.{start_of, difference_of}
use Rattle.scaling.proofs.of_points.Goals as goal

-- two points lie no further apart than the two ranges are wide
differs : (l : List ℤ) (k : ℕ) (z : ℤ) → nat_abs (point l k) ≤ 99999 → nat_abs (point l (k + 1)) ≤ 99999
    → z ≡ to_z w32 (of_z w32 (to_z w32 (of_z w32 (point l (k + 1))) -ℤ to_z w32 (of_z w32 (point l k)))) → z ≡ difference_of l k
differs l k z here next e =
    let from : SFits w32 (point l k) = abs_fits _ (omega arith) in
    let to : SFits w32 (point l (k + 1)) = abs_fits _ (omega arith) in
    let fits : SFits w32 (difference_of l k) = abs_fits _ (omega (arith, abs_sub_le (point l (k + 1)) (point l k))) in
    e ∙ rw (to_z-of_z to, to_z-of_z from) (to_z-of_z fits)

pub returns : goal.returns
returns c =
    let s = c.args.s.now in
    let points = c.requires.scalable in
    let count : to_z w32 (of_z w32 s.count) ≡ s.count = search rules in
    let input : (k : ℕ) → k < nat_abs s.count → nat_abs (point s.inputs k) ≤ 99999 = λ k h. between_is (point s.inputs k) 99999 99998 (lit< tt) (points.inputs_in k h) in
    let display : (k : ℕ) → k < nat_abs s.count → nat_abs (point s.displays k) ≤ 99999 = λ k h. between_is (point s.displays k) 99999 19998 (lit< tt) (points.displays_in k h) in
    let inputs = c.held.ensures (start_of s.inputs) (λ k z u post. search rules) in
    let displays = c.held-2.ensures (start_of s.displays) (λ k z u post. search rules) in
    let rises =
    c.held-3.ensures (difference_of s.displays)
    (λ k z u post. let h : k + 1 < nat_abs s.count = omega (arith, rw count at u) in differs s.displays k z (display k (omega arith)) (display (k + 1) h) (search rules))
    in
    let runs =
    c.held-4.ensures (difference_of s.inputs)
    (λ k z u post. let h : k + 1 < nat_abs s.count = omega (arith, rw count at u) in differs s.inputs k z (input k (omega arith)) (input (k + 1) h) (search rules))
    in
    rw (inputs, displays, rises, runs) (search rules)
