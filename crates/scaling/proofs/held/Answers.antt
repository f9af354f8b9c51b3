-- `scaling::held` meets its contract. The invariant: the segments before k have their number, and no other has one. Assumes nothing.
use Rattle.std.proofs.Common.{rules, ◌≡◌, refl, ◌∙◌, w32, to_z, of_z, arith}
use mir.Facts.{to_z-of_z}
use Rattle.segments.specs.Segments.{listed}
use Rattle.segments.proofs.Listed.{filled}
use Rattle.scaling.proofs.held.Goals as goal

pub loop-k-init : goal.loop-k-init
unfolding listed
loop-k-init g c = λ f is. refl

pub loop-k-preserved : goal.loop-k-preserved
loop-k-preserved g c = λ f is.
    let number : to_z w32 (of_z w32 c.number.result) ≡ c.number.result = search rules in
    rw (c.loop-k.invariant f is, to_z-of_z c.ranges.unused, number)
    (filled c.args.unused f c.loop-k.k c.number.result (omega arith) (is c.loop-k.k c.number.result (omega arith) c.number.ensures))

pub returns : goal.returns
returns g c = λ f is.
    let e : c.loop-k.k ≡ c.args.used = omega arith in
    c.loop-k.invariant f is ∙ rw (e, to_z-of_z c.ranges.unused)
