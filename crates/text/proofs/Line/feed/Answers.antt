-- Each turn is one law. What has been read of the line stands in its room and in the local length.
use Rattle.std.proofs.Common.{◌+◌, ◌∙◌, drop, sym, ap, arith, eq-eqb, ne_eqb}
use Rattle.text.specs.declared.Line.{Line}
use Rattle.text.specs.Line.{Scanned, scan}
use Rattle.text.proofs.Laws.{scan_lf, scan_on, scan_out}
use Rattle.text.proofs.Line.feed.Goals as goal

pub returns-then-b-eq10-clause-value : goal.returns-then-b-eq10-clause-value
returns-then-b-eq10-clause-value c =
    ap (λ (x : Scanned). x.step) (sym (c.loop-i.invariant ∙ scan_lf c.args.s.now _ c.loop-i.i (omega arith) (eq-eqb _ _ c.if-b-eq10.true)))

pub returns-then-b-eq10-clause-line_after : goal.returns-then-b-eq10-clause-line_after
returns-then-b-eq10-clause-line_after c =
    ap (λ (x : Scanned). x.line) (sym (c.loop-i.invariant ∙ scan_lf c.args.s.now _ c.loop-i.i (omega arith) (eq-eqb _ _ c.if-b-eq10.true)))

pub loop-i-preserved : goal.loop-i-preserved
loop-i-preserved c =
    c.loop-i.invariant ∙ scan_on c.args.s.now _ c.loop-i.i (omega arith) (ne_eqb _ _ c.if-b-eq10.false)
    ∙ ap (λ (line : Line). scan (c.loop-i.i + 1) (drop (c.loop-i.i + 1) c.args.s.now) line) (sym c.keep-len.ensures)

pub returns-clause-value : goal.returns-clause-value
returns-clause-value c = ap (λ (x : Scanned). x.step) (sym (c.loop-i.invariant ∙ scan_out c.args.s.now _ c.loop-i.i (omega arith)))

pub returns-clause-line_after : goal.returns-clause-line_after
returns-clause-line_after c = ap (λ (x : Scanned). x.line) (sym (c.loop-i.invariant ∙ scan_out c.args.s.now _ c.loop-i.i (omega arith)))
