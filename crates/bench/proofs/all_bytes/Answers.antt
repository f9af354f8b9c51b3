-- Each byte is the first of what is left to receive.
use Rattle.std.proofs.Common.{◌∙◌, sym, ap, ◌+◌, drop, get_or, arith}
use Rattle.text.proofs.Laws.{rest}
use Rattle.meter.specs.Meter.{Step}
use Rattle.bench.specs.Bench.{byte_step, bytes_on, bytes_step}
use Rattle.bench.proofs.Stream.{step_of, step_same, bytes_at, bytes_out}
use Rattle.bench.proofs.all_bytes.Goals as goal

pub loop-b-preserved : goal.loop-b-preserved
loop-b-preserved c =
    let l = c.loop-b in
    let behind = drop 1 c.args.s.now in
    let all = rest 1 c.args.s.now in
    let e = c.byte-o-in-loop-b.ensures in
    l.invariant ∙ bytes_at (step_of l.o l.reply) behind l.b-index (rw all at c.loop-b-test.true)
    ∙ ap (λ (t : Step). bytes_on t (drop (l.b-index + 1) behind))
    (step_same (byte_step l.o.meter (get_or behind l.b-index 0) l.reply) _ _ (rw all at e.value) (rw all at e.reply_after))

pub returns : goal.returns
unfolding bytes_step
returns c =
    let a = c.args in
    let l = c.loop-b in
    let behind = drop 1 a.s.now in
    let all = rest 1 a.s.now in
    let e = c.byte-o.ensures in
    let low = rw all at c.loop-b-test.false in
    let high = rw all at l.auto.b-index-end in
    let z = ap (λ (t : Step). bytes_on t behind) (step_same (byte_step a.m (get_or a.s.now 0 0) a.reply.now) _ _ e.value e.reply_after)
    ∙ l.invariant ∙ bytes_out (step_of l.o l.reply) behind l.b-index (omega (arith, low, high)) in
    record { value = sym (ap (λ (t : Step). t.outcome) z); reply_after = sym (ap (λ (t : Step). t.buffer) z) }
