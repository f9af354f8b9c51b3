-- Each turn reads on in the block.
use Rattle.std.proofs.Common.{refl, arith}
use Rattle.text.proofs.Laws.{ahead}
use Rattle.text.proofs.Streams.{begins, turn_ended, turn_open, ends}
use Rattle.text.proofs.stream.lines.Goals as goal

pub loop-at-init : goal.loop-at-init
loop-at-init g c = (omega arith, begins g.H.Hears.heard_by _ _ _)

-- where the line ended
pub loop-at-preserved-then-step : goal.loop-at-preserved-then-step
loop-at-preserved-then-step g c =
    let f = c.feed-step.ensures in (
      omega (arith, ahead c.args.block.now c.loop-at.at f.used),
      turn_ended g.H.Hears.heard_by c.loop-at.invariant.1 f.value f.line_after c.if-step.true c.clear.ensures c.hear.ensures,
    )

-- and where it is read on
pub loop-at-preserved : goal.loop-at-preserved
loop-at-preserved g c =
    let f = c.feed-step.ensures in (
      omega (arith, ahead c.args.block.now c.loop-at.at f.used),
      turn_open g.H.Hears.heard_by c.loop-at.invariant.1 f.value f.line_after c.if-step.false refl refl,
    )

pub returns : goal.returns
returns g c = ends g.H.Hears.heard_by (omega arith) c.loop-at.invariant.1
