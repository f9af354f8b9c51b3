-- What the answers leave as it was. Assumes nothing.
use mathlib.Core.Path.{◌≡◌, refl, ap, ◌∙◌}
use mathlib.Core.Bool.{true}
use mathlib.Core.List.{List, []}
use mathlib.Core.Logic.{◌≢◌, ⊎_elim}
use Prim.Native.Nat.{ℕ}
use native.Mathlib.Omega.{arith}
use lib.IntN.{ℤ}
use Rattle.exact.proofs.Z.{either}
use Rattle.answer.specs.Answer.{number}
use Rattle.answer.specs.declared.Answer.TheVariants.{Done, Stored, Dropped, Refused, NotStarted}
use Rattle.config.specs.Config.{judged}
use Rattle.config.specs.declared.Config.{Config}
use Rattle.config.specs.Verdict.{Verdict}
use Rattle.config.specs.Verdict.{Accepted, Broken}
use Rattle.receiver.specs.Receiver.{bytes, kind, taken, next, heard}
use Rattle.receiver.specs.declared.Kind.{Kind}
use Rattle.receiver.specs.declared.Kind.TheVariants.{End, Drop, Part}
use Rattle.receiver.proofs.Hearing.{emptied_heard}
use Rattle.instrument.specs.declared.Instrument.{Instrument}
use Rattle.meter.specs.Door.{sound, reach_of, door}
use Rattle.meter.specs.Meter.{Step, by_verdict, with_instrument, with_receiver, takes, by_kind}
use Rattle.meter.specs.declared.Meter.{Meter}
use Rattle.meter.specs.declared.Outcome.{Outcome}
use Rattle.promises.specs.Calls.{Call, power_up, sample, key, byte, lent, place_of, result, answered, left}
use Rattle.promises.specs.Leaves.{Buffer, Emptied, Leaves}
use Rattle.promises.proofs.Door.{received_in}
use Rattle.promises.proofs.Effects.{key_upon, end_upon}
use Rattle.promises.proofs.Settling.{same, stays, settled_fine}

-- ---- the lent buffer

verdict_fine : (c : Config) (v : Verdict) → Buffer [] 0 (record { outcome = by_verdict c v; buffer = [] })
verdict_fine c Accepted = same [] 0 Done _ (λ q. omega arith)
verdict_fine c (Broken rule) = same [] 0 (Refused rule) _ (λ q. omega arith)

kind_fine : (m n : Meter) (d : List ℕ) (place : ℕ) (k : Kind) → Buffer d place (by_kind m n d place k)
kind_fine m n d place Part = same d place Stored _ (λ q. omega arith)
kind_fine m n d place Drop = same d place Dropped _ (λ q. omega arith)
kind_fine m n d place End = settled_fine d place n (⊎_elim (λ h. omega arith) (λ e. omega arith)) (end_upon m)

-- at every door, what is carried out and what is answered by 12
pub buffer_fine : (k : Call) → Buffer (lent k) (place_of k) (result k)
buffer_fine (power_up c) = verdict_fine c (judged c)
buffer_fine (sample m x) =
    either (λ (o : Outcome). Buffer [] 0 (record { outcome = o; buffer = [] })) (sound m)
    (same [] 0 Done _ (λ q. omega arith)) (same [] 0 NotStarted m (λ q. omega arith))
buffer_fine (key m k d place) =
    either (Buffer d place) (sound m)
    (settled_fine d place m (λ r. omega arith) (key_upon m k)) (same d place NotStarted m (λ q. omega arith))
buffer_fine (byte m b d place) =
    either (Buffer d place) (door (reach_of (kind b)) m) (kind_fine m (takes m b) d place (kind b)) (same d place NotStarted m (λ q. omega arith))

-- ---- the meter

module _ (m : Meter) where
  -- a receiver that took a byte which is no part of a string is empty
  none_heard : (k : Kind) (b : ℕ) → k ≢ Part → heard (taken k m.receiver b) ≡ bytes []
  none_heard Part b other = absurd (other refl)
  none_heard Drop b other = emptied_heard m.receiver
  none_heard End b other = emptied_heard m.receiver

  module _ (b : ℕ) (d : List ℕ) (place : ℕ) where
    -- a byte of kind k
    abbrev by : Kind → Step
    by k = by_kind m (with_receiver m (taken k m.receiver b)) d place k

    -- neither carried out nor stored
    emptied_kind : (k : Kind) → number (by k).outcome.answer ≢ 0 → number (by k).outcome.answer ≢ 1 → Emptied m (by k).outcome.meter
    emptied_kind Part p q = absurd (q refl)
    emptied_kind Drop p q = record { config = refl; instrument = refl; receiver = emptied_heard m.receiver }
    emptied_kind End p q = record { config = refl; instrument = stays d place (end_upon m) p; receiver = emptied_heard m.receiver }

    emptied_answer : answered (byte m b d place) ≢ 0 → answered (byte m b d place) ≢ 1 → answered (byte m b d place) ≢ 12
        → Emptied m (left (byte m b d place))
    emptied_answer =
        either (λ (s : Step). number s.outcome.answer ≢ 0 → number s.outcome.answer ≢ 1 → number s.outcome.answer ≢ 12 → Emptied m s.outcome.meter)
        (door (reach_of (kind b)) m) (λ p q r. emptied_kind (kind b) p q) (λ p q r. absurd (r refl))

    receiver_kind : (k : Kind) → (by k).outcome.meter.receiver ≡ taken k m.receiver b
    receiver_kind Part = refl
    receiver_kind Drop = refl
    receiver_kind End = refl

    hears : door (reach_of (kind b)) m ≡ true → (left (byte m b d place)).receiver ≡ next m.receiver b
    hears ok = ap (λ (s : Step). s.outcome.meter.receiver) (received_in m d place b ok) ∙ receiver_kind (kind b)

    config_kind : (k : Kind) → (by k).outcome.meter.config ≡ m.config
    config_kind Part = refl
    config_kind Drop = refl
    config_kind End = refl

  key_stays : (k : ℤ) (d : List ℕ) (place : ℕ) → answered (key m k d place) ≢ 0 → left (key m k d place) ≡ m
  key_stays k d place =
      either (λ (s : Step). number s.outcome.answer ≢ 0 → s.outcome.meter ≡ m) (sound m)
      (λ other. ap (λ (i : Instrument). with_instrument m i) (stays d place (key_upon m k) other)) (λ other. refl)

  pub leaves : Leaves m
  leaves =
      record {
        refused = λ b d place low high. emptied_answer b d place (λ e. omega arith) (λ e. omega arith) (λ e. omega arith);
        replied = λ b d place two. emptied_answer b d place (λ e. omega arith) (λ e. omega arith) (λ e. omega arith);
        hears = hears;
        ended = λ b d place ok other. ap heard (hears b d place ok) ∙ none_heard (kind b) b other;
        sample_half = λ x. either (λ (o : Outcome). o.meter.receiver ≡ m.receiver) (sound m) refl refl;
        key_half = λ k d place. either (λ (s : Step). s.outcome.meter.receiver ≡ m.receiver) (sound m) refl refl;
        other_key = key_stays;
        sample_config = λ x. either (λ (o : Outcome). o.meter.config ≡ m.config) (sound m) refl refl;
        key_config = λ k d place. either (λ (s : Step). s.outcome.meter.config ≡ m.config) (sound m) refl refl;
        byte_config = λ b d place. either (λ (s : Step). s.outcome.meter.config ≡ m.config) (door (reach_of (kind b)) m) (config_kind b d place (kind b)) refl;
      }
