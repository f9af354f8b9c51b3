-- The meter over bytes and lines, over plain values. Assumes nothing.
use Rattle.std.proofs.Common.{◌≡◌, ◌∙◌, sym, ap, ap₂, ℕ, ◌+◌, ◌<◌, List, length, drop, get_or, Option, Some}
use native.Mathlib.Numerals.{add-one}
use lib.Seq.{drop-cons, drop-length}
use Rattle.answer.specs.declared.Answer.{Answer}
use Rattle.text.specs.Line.{Heard}
use Rattle.text.specs.declared.output.Out.{Out}
use Rattle.text.specs.Output.{Waiting, waiting, puts}
use Rattle.meter.specs.Meter.{Step}
use Rattle.meter.specs.declared.Outcome.{Outcome}
use Rattle.bench_line.specs.Grammar.{Asked, judged}
use Rattle.bench_line.specs.Show.{shown_of}
use Rattle.bench.specs.Bench.{byte_step, bytes_on, step_by, effect_by, effect, program_after, stand, standing, heard_by}
use Rattle.bench.specs.declared.Program.{Program}

-- ---- bytes

abbrev pub step_of : Outcome → List ℕ → Step
step_of o reply = record { outcome = o; buffer = reply }

pub step_same : (t : Step) (o : Outcome) (reply : List ℕ) → o ≡ t.outcome → reply ≡ t.buffer → t ≡ step_of o reply
step_same t o reply p q = sym (ap₂ step_of p q)

pub bytes_at : (t : Step) (s : List ℕ) (i : ℕ) → i < length s
    → bytes_on t (drop i s) ≡ bytes_on (byte_step t.outcome.meter (get_or s i 0) t.buffer) (drop (i + 1) s)
unfolding bytes_on
bytes_at t s i h = rw (drop-cons s i 0 h, add-one i)

pub bytes_out : (t : Step) (s : List ℕ) (i : ℕ) → i ≡ length s → bytes_on t (drop i s) ≡ t
unfolding bytes_on
bytes_out t s i e = ap (bytes_on t) (ap (λ (k : ℕ). drop k s) e ∙ drop-length s)

-- ---- a line

-- the event of what a line asks: what it is told, and the program after it
module _ (program self : Program) (h : Heard) (a : Asked) (o : Outcome) (is : Some a ≡ judged h)
    (outcome : o ≡ (step_by program.meter program.reply a).outcome) where
  pub told : Some o.answer ≡ (effect program.meter program.reply h).said
  unfolding effect
  told = ap (λ (x : Outcome). Some x.answer) outcome ∙ ap (λ (x : Option Asked). (effect_by program.meter program.reply x).said) is

  pub left : self.reply ≡ (step_by program.meter program.reply a).buffer → self.out ≡ program.out
      → record { meter = o.meter; reply = self.reply; out = self.out } ≡ program_after program (effect program.meter program.reply h)
  unfolding effect
  left reply out =
      ap (λ (x : Outcome). record { meter = x.meter; reply = self.reply; out = self.out }) outcome
      ∙ ap₂ (λ (l : List ℕ) (w : Out). record { meter = (step_by program.meter program.reply a).outcome.meter; reply = l; out = w }) reply out
      ∙ ap (λ (x : Option Asked). program_after program (effect_by program.meter program.reply x)) is

-- what is printed leaves the meter and the reply as the event left them
pub told_stand : (program after : Program) (h : Heard) (said : Option Answer) (v : Waiting)
    → said ≡ (effect program.meter program.reply h).said → after ≡ program_after program (effect program.meter program.reply h)
    → v ≡ puts (waiting after.out) (shown_of said after.reply) → stand after.meter after.reply v ≡ heard_by (standing program) h
unfolding heard_by
told_stand program after h said v p q w =
    ap (stand after.meter after.reply) w
    ∙ ap₂ (λ (s : Option Answer) (b : Program). stand b.meter b.reply (puts (waiting b.out) (shown_of s b.reply))) p q
