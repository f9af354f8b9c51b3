-- The arm says what the line asks.
use Rattle.std.proofs.Common.{◌≡◌, ◌∙◌, sym, ap, ℤ, Option, Some, w32, to_z, of_z, rules}
use Rattle.text.specs.Line.{heard}
use Rattle.meter.specs.Meter.{sampled}
use Rattle.bench_line.specs.Grammar.{Asked, sample, key, chars, judged}
use Rattle.bench_line.specs.declared.grammar.Parsed.{Parsed}
use Rattle.bench_line.specs.Asked.{asked_by}
use Rattle.bench.specs.Bench.{sample_step, key_step, effect_by, effect, program_after}
use Rattle.bench.specs.declared.Program.{Program}
use Rattle.bench.proofs.Stream.{told, left}
use Rattle.bench.proofs.Program.event.Goals.{in-Sample, in-Key, in-Bytes}
use Rattle.bench.proofs.Program.event.Goals as goal

pub returns-in_err-v : goal.returns-in_err-v
unfolding effect
returns-in_err-v c =
    let p = c.args.self.now in
    let none = c.in_err-v.ensures.value in
    record {
      value = c.from_residual.ensures ∙ ap (λ (x : Option Asked). (effect_by p.meter p.reply x).said) none;
      program_after = ap (λ (x : Option Asked). program_after p (effect_by p.meter p.reply x)) none;
    }

pub returns : goal.returns
unfolding sample_step
returns c =
    let p = c.args.self.now in
    let h = heard c.args.line.now in
    let self = c.match-branch-2.self in
    let o = c.match-branch-2.outcome in
    elim c.match-branch-2.branch [
      | in-Sample w ↦
          let v : to_z w32 (of_z w32 w.in-Sample.v) ≡ w.in-Sample.v = search rules in
          let is : Some (sample w.in-Sample.v) ≡ judged h = ap (λ (x : Parsed). Some (asked_by x)) (sym w.in-Sample.is) ∙ c.in_ok-v.ensures.value in
          let outcome = w.outcome-is ∙ w.sample-outcome.ensures ∙ ap (sampled p.meter) v in
          record {
            value = told p self h (sample w.in-Sample.v) o is outcome;
            program_after = left p self h (sample w.in-Sample.v) o is outcome (ap (λ (s : Program). s.reply) w.self-is) (ap (λ (s : Program). s.out) w.self-is);
          }
      | in-Key w ↦
          let v : to_z w32 (of_z w32 w.in-Key.v) ≡ w.in-Key.v = search rules in
          let is : Some (key w.in-Key.v) ≡ judged h = ap (λ (x : Parsed). Some (asked_by x)) (sym w.in-Key.is) ∙ c.in_ok-v.ensures.value in
          let outcome = w.outcome-is ∙ w.key-outcome.ensures.value ∙ ap (λ (z : ℤ). (key_step p.meter z p.reply).outcome) v in
          let reply = ap (λ (s : Program). s.reply) w.self-is ∙ w.key-outcome.ensures.reply_after ∙ ap (λ (z : ℤ). (key_step p.meter z p.reply).buffer) v in
          record {
            value = told p self h (key w.in-Key.v) o is outcome;
            program_after = left p self h (key w.in-Key.v) o is outcome reply (ap (λ (s : Program). s.out) w.self-is);
          }
      | in-Bytes w ↦
          let is : Some (chars w.in-Bytes.s.now) ≡ judged h = ap (λ (x : Parsed). Some (asked_by x)) (sym w.in-Bytes.is) ∙ c.in_ok-v.ensures.value in
          let outcome = w.outcome-is ∙ w.all_bytes-outcome.ensures.value in
          let reply = ap (λ (s : Program). s.reply) w.self-is ∙ w.all_bytes-outcome.ensures.reply_after in
          record {
            value = told p self h (chars w.in-Bytes.s.now) o is outcome;
            program_after = left p self h (chars w.in-Bytes.s.now) o is outcome reply (ap (λ (s : Program). s.out) w.self-is);
          }
    ]
