-- Demand 1, with nothing left to assume.
use mathlib.Core.Path.{◌≡◌, sym, ap, ◌∙◌}
use mathlib.Core.Bool.{true}
use mathlib.Core.List.{List}
use Prim.Native.Nat.{ℕ}
use lib.ListN.{length}
use Rattle.answer.proofs.Numbered as answers
use Rattle.config.specs.Verdict.{Verdict}
use Rattle.receiver.specs.Receiver.{kind}
use Rattle.receiver.specs.declared.Receiver.{Receiver}
use Rattle.receiver.proofs.Hearing.{wide_taken}
use Rattle.meter.specs.Door.{sound, reach_of}
use Rattle.meter.specs.Meter.{Step, by_verdict}
use Rattle.meter.specs.declared.Meter.{Meter}
use Rattle.meter.specs.declared.Outcome.{Outcome}
use Rattle.promises.specs.Calls.{Call, result, Allows}
use Rattle.promises.specs.Started as started
use Rattle.promises.specs.Started.{Reached, Places}
use Rattle.promises.specs.Demand.{Demand1}
use Rattle.promises.proofs.Door.{stands_open}
use Rattle.promises.proofs.Answers.{numbered, sound_never_12}
use Rattle.promises.proofs.StaysSound.{stays_sound}
use Rattle.promises.proofs.Rows.{power_up_rows, event_rows, shut}
use Rattle.promises.proofs.Exactly.{exactly}
use Rattle.promises.proofs.Leaves.{buffer_fine, leaves}

-- a step by its two halves
joined : (o p : Outcome) (d e : List ℕ) → o ≡ p → d ≡ e → ◌≡◌ {A = Step} (record { outcome = o; buffer = d }) (record { outcome = p; buffer = e })
joined o p d e x y = rw (x, y)

one_outcome : (k : Call) (s t : Step) → Allows k s → Allows k t → s ≡ t
one_outcome k s t x y = joined s.outcome t.outcome s.buffer t.buffer (x.outcome ∙ sym y.outcome) (x.buffer ∙ sym y.buffer)

-- every meter that a history reaches is sound
reached_sound : {m : Meter} → Reached m → sound m ≡ true
reached_sound (started.powered_up c a) = ap (λ (v : Verdict). sound (by_verdict c v).meter) a ∙ stays_sound.fresh_sound c a
reached_sound (started.sampled {m} x r) = stays_sound.sampled_sound m x (reached_sound r)
reached_sound (started.keyed {m} k buffer place r) = stays_sound.keyed_sound m k buffer place (reached_sound r)
reached_sound (started.received {m} b buffer place r) = stays_sound.received_sound m b buffer place (reached_sound r)

-- and the receiver has its places, which a byte leaves
reached_places : {m : Meter} → Reached m → Places m
reached_places (started.powered_up c a) = ap (λ (v : Verdict). length (by_verdict c v).meter.receiver.bytes) a
reached_places (started.sampled {m} x r) = ap (λ (q : Receiver). length q.bytes) ((leaves m).sample_half x) ∙ reached_places r
reached_places (started.keyed {m} k buffer place r) = ap (λ (q : Receiver). length q.bytes) ((leaves m).key_half k buffer place) ∙ reached_places r
reached_places (started.received {m} b buffer place r) =
    ap (λ (q : Receiver). length q.bytes) ((leaves m).hears b buffer place (stands_open m (reach_of (kind b)) (reached_sound r)))
    ∙ wide_taken (kind b) m.receiver b (reached_places r)

pub demand_1 : Demand1
demand_1 =
    record {
      one_outcome = one_outcome;
      numbered = numbered;
      never_7 = λ k. (answers.numbered).withdrawn (result k).outcome.answer;
      power_up_rows = power_up_rows;
      event_rows = event_rows;
      exactly = exactly;
      buffer = buffer_fine;
      leaves = leaves;
      shut = shut;
      stays_sound = stays_sound;
      never_12 = λ m r. sound_never_12 m (reached_sound r);
      places = λ m r. reached_places r;
    }
