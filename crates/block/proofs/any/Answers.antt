-- `block::any` meets its contract: it asks of each option once. Assumes nothing.
use Rattle.std.proofs.Common.{◌≡◌}
use mathlib.Core.Bool.{◌||◌}
use Rattle.block.proofs.Blocks.{any_line}
use Rattle.block.proofs.any.Goals as goal
use Rattle.block.proofs.any.Goals.{then-print, else-print, then-print-2, else-print-2}

pub returns-then-print-3 : goal.returns-then-print-3
returns-then-print-3 c =
    let p = c.args.print in
    let two : c.if-print.value ≡ (p.input || p.total) = elim c.if-print.branch [ then-print w ↦ rw (w.value-is, w.if-print.true) | else-print w ↦ rw (w.value-is, w.if-print.false) ] in
    let three : c.if-print-2.value ≡ (c.if-print.value || p.extremes) = elim c.if-print-2.branch [ then-print-2 w ↦ rw (w.value-is, w.if-print-2.true) | else-print-2 w ↦ rw (w.value-is, w.if-print-2.false) ] in
    rw (any_line p, ← two, ← three, c.if-print-3.true)

pub returns-else-print-3 : goal.returns-else-print-3
returns-else-print-3 c =
    let p = c.args.print in
    let two : c.if-print.value ≡ (p.input || p.total) = elim c.if-print.branch [ then-print w ↦ rw (w.value-is, w.if-print.true) | else-print w ↦ rw (w.value-is, w.if-print.false) ] in
    let three : c.if-print-2.value ≡ (c.if-print.value || p.extremes) = elim c.if-print-2.branch [ then-print-2 w ↦ rw (w.value-is, w.if-print-2.true) | else-print-2 w ↦ rw (w.value-is, w.if-print-2.false) ] in
    rw (any_line p, ← two, ← three, c.if-print-3.false)
