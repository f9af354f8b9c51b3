-- `scaling::segment` meets its contract. The invariant: the first segment from i on is the one that is looked for. Assumes nothing.
use Rattle.std.proofs.Common.{rules, ◌≡◌, ◌+◌, ◌-◌, ◌∙◌, sym, ap, true, false, arith, w32, to_z, of_z, to_z-of_z}
use lib.Signed.{le_z}
use Rattle.reading.specs.Reading.{point, first_from}
use Rattle.reading.proofs.Search.{stop, hit, next}
use Rattle.scaling.proofs.segment.Goals as goal

pub loop-i-init : goal.loop-i-init
loop-i-init c = (omega arith, ap (first_from c.args.inputs.now (to_z w32 (of_z w32 c.args.input)) 0) (omega arith))

pub loop-i-preserved : goal.loop-i-preserved
loop-i-preserved c =
    let e : le_z (to_z w32 (of_z w32 c.args.input)) (point c.args.inputs.now (c.loop-i.i + 1)) ≡ false = search rules in
    (omega arith, sym (next _ _ _ _ c.if-last-i.false e) ∙ c.loop-i.invariant.1)

pub returns-then-last-i : goal.returns-then-last-i
returns-then-last-i c =
    let e : c.args.last ≡ c.loop-i.i = omega arith in
    let left : first_from c.args.inputs.now c.args.input c.loop-i.i (c.args.last - c.loop-i.i) ≡ first_from c.args.inputs.now c.args.input 0 c.args.last =
    rw (to_z-of_z c.ranges.input) at c.loop-i.invariant.1 in
    e ∙ sym (stop _ _ _ _ c.if-last-i.true) ∙ left

pub returns-then-input-inputs : goal.returns-then-input-inputs
returns-then-input-inputs c =
    let e : le_z c.args.input (point c.args.inputs.now (c.loop-i.i + 1)) ≡ true = search rules in
    let left : first_from c.args.inputs.now c.args.input c.loop-i.i (c.args.last - c.loop-i.i) ≡ first_from c.args.inputs.now c.args.input 0 c.args.last =
    rw (to_z-of_z c.ranges.input) at c.loop-i.invariant.1 in
    sym (hit _ _ _ _ c.if-last-i.false e) ∙ left
