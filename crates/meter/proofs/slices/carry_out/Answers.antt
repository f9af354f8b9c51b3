-- `meter::slices::carry_out` meets its contract: what is left of the slices makes of the outcome so far what the whole makes of the first one.
-- Assumes nothing.
use Rattle.std.proofs.Common.{rules, ◌≡◌, sym, ap, ◌∙◌, to_z, of_z, w32}
use Rattle.meter.specs.Meter.{Step}
use Rattle.meter.proofs.Carrying.{carried_on, carried_end}
use Rattle.meter.proofs.slices.carry_out.Goals as goal

pub loop-kind-preserved : goal.loop-kind-preserved
loop-kind-preserved c =
    let l = c.loop-kind in
    let entry = c.in-Some in
    let same : to_z w32 (of_z w32 entry.value.now) ≡ entry.value.now = search rules in
    carried_on (record { outcome = l.last; buffer = l.buffer }) _ l.kind-iterator c.next.new.self entry.kind entry.value entry.place entry.ensures.steps (rw same at c.carry_one-last.ensures.value, rw same at c.carry_one-last.ensures.buffer_after) l.invariant

pub returns : goal.returns
returns c =
    let l = c.loop-kind in
    let e = sym (carried_end (record { outcome = l.last; buffer = l.buffer }) l.kind-iterator c.next.new.self c.in-None.ensures.steps) ∙ l.invariant in
    record { value = ap (λ (o : Step). o.outcome) e; buffer_after = ap (λ (o : Step). o.buffer) e }
