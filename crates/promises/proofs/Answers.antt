-- Which answers each call can give. Assumes nothing.
use mathlib.Core.Path.{◌≡◌, refl}
use mathlib.Core.Bool.{true}
use mathlib.Core.List.{List}
use mathlib.Core.Logic.{◌≢◌, ⊎_elim}
use Prim.Native.Nat.{ℕ, ◌≤◌}
use native.Mathlib.Omega.{arith}
use borrow.Author.Tests.{le-leb}
use Rattle.exact.proofs.Z.{either}
use Rattle.answer.specs.Answer.{number}
use Rattle.config.specs.Config.{judged}
use Rattle.config.specs.declared.Config.{Config}
use Rattle.config.specs.Verdict.{Verdict}
use Rattle.config.specs.Verdict.{Accepted, Broken}
use Rattle.receiver.specs.Receiver.{kind}
use Rattle.receiver.specs.declared.Kind.{Kind}
use Rattle.receiver.specs.declared.Kind.TheVariants.{End, Drop, Part}
use Rattle.meter.specs.Door.{sound, reach_of, door}
use Rattle.meter.specs.Meter.{Step, by_verdict, takes, by_kind}
use Rattle.meter.specs.declared.Meter.{Meter}
use Rattle.meter.specs.declared.Outcome.{Outcome}
use Rattle.promises.specs.Calls.{Call, power_up, sample, key, byte, answered, possible}
use Rattle.promises.specs.Started.{Never12}
use Rattle.promises.proofs.Door.{keyed_in, received_in, stands_open}
use Rattle.promises.proofs.Effects.{key_upon, end_upon}
use Rattle.promises.proofs.Settling.{answered_by}

verdicts : (c : Config) (v : Verdict) → possible (power_up c) (number (by_verdict c v).answer) ≡ true
verdicts c Accepted = refl
verdicts c (Broken rule) = refl

-- a byte of any kind that is let in is answered by 0 to 6, 8 or 9
by_kinds : (P : ℕ → Type 0) → ((n : ℕ) → n ≤ 6 → P n) → P 8 → P 9 → (m n : Meter) (buffer : List ℕ) (place : ℕ) (k : Kind)
    → P (number (by_kind m n buffer place k).outcome.answer)
by_kinds P small eight nine m n buffer place Part = small 1 (omega arith)
by_kinds P small eight nine m n buffer place Drop = small 5 (omega arith)
by_kinds P small eight nine m n buffer place End =
    answered_by buffer place P (small 0 (omega arith)) (λ n r. ⊎_elim (λ h. small n h.1) (λ e. rw e eight) r) (small 2 (omega arith)) nine (end_upon m)

pub numbered : (k : Call) → possible k (answered k) ≡ true
numbered (power_up c) = verdicts c (judged c)
numbered (sample m x) = either (λ (o : Outcome). possible (sample m x) (number o.answer) ≡ true) (sound m) refl refl
numbered (key m k buffer place) =
    let P : ℕ → Type 0 = λ n. possible (key m k buffer place) n ≡ true in
    either (λ (s : Step). P (number s.outcome.answer)) (sound m) (answered_by buffer place P refl (λ n ten. rw ten) refl refl (key_upon m k)) refl
numbered (byte m b buffer place) =
    let P : ℕ → Type 0 = λ n. possible (byte m b buffer place) n ≡ true in
    either (λ (s : Step). P (number s.outcome.answer)) (door (reach_of (kind b)) m)
    (by_kinds P (λ n small. rw (le-leb n 6 small)) refl refl m (takes m b) buffer place (kind b)) refl

-- a sound meter never answers 12
pub sound_never_12 : (m : Meter) → sound m ≡ true → Never12 m
sound_never_12 m ok =
    let P : ℕ → Type 0 = λ n. n ≢ 12 in
    record {
      sampled = λ x. rw ok (λ q. omega arith);
      keyed =
          λ k buffer place.
          rw (keyed_in m buffer place k ok)
          (answered_by buffer place P (λ q. omega arith) (λ n ten q. omega arith) (λ q. omega arith) (λ q. omega arith) (key_upon m k));
      received =
          λ b buffer place.
          rw (received_in m buffer place b (stands_open m (reach_of (kind b)) ok)) (by_kinds P (λ n small q. omega arith) (λ q. omega arith) (λ q. omega arith) m (takes m b) buffer place (kind b));
    }
