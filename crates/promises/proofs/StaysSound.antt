-- The tests at the door are harmless. Assumes nothing.
use mathlib.Core.Path.{◌≡◌}
use mathlib.Core.Bool.{true, ◌&&◌}
use mathlib.Core.List.{List}
use Prim.Native.Nat.{ℕ}
use lib.IntN.{ℤ}
use Rattle.exact.proofs.Z.{both, either}
use Rattle.config.specs.Config.{judged}
use Rattle.config.specs.declared.Config.{Config}
use Rattle.config.specs.declared.Working.{Working}
use Rattle.config.specs.Verdict.{Accepted}
use Rattle.config.proofs.Acceptance.{node_in, places_in, scale_accepted, time_base_in, analog_differs}
use Rattle.receiver.specs.Receiver as receivers
use Rattle.receiver.specs.declared.Receiver.{Receiver}
use Rattle.receiver.specs.declared.Kind.{Kind}
use Rattle.receiver.specs.declared.Kind.TheVariants.{End, Drop, Part}
use Rattle.instrument.specs.Instrument as instruments
use Rattle.instrument.specs.declared.Instrument.{Instrument}
use Rattle.segments.specs.Segments.{read}
use Rattle.segments.proofs.ByPoints.{read_displayable, passes}
use Rattle.instrument.proofs.Soundness as soundness
use Rattle.effect.specs.Able.{can_talk, can_work, able}
use Rattle.effect.specs.Effect.{Effect, settle}
use Rattle.meter.specs.Door.{sound, reach_of, door}
use Rattle.meter.specs.Meter.{Step, fresh, with_receiver, by_kind}
use Rattle.meter.specs.declared.Meter.{Meter}
use Rattle.meter.specs.declared.Outcome.{Outcome}
use Rattle.promises.specs.Calls.{sample, key, byte, left}
use Rattle.promises.specs.Started.{StaysSound}
use Rattle.promises.proofs.Door.{halves, sound_started}
use Rattle.promises.proofs.Effects.{Changed, by_batch, by_reset, by_alarms, by_write, by_status, Upon, key_upon, end_upon}
use Rattle.promises.proofs.Settling.{left_by}

-- ---- power-up

fresh_sound : (c : Config) → judged c ≡ Accepted → sound (fresh c) ≡ true
unfolding sound able
fresh_sound c a =
    rw (
      passes c.scale (scale_accepted c a),
      node_in c a,
      places_in c a,
      time_base_in c a,
      analog_differs c a,
      soundness.powered_up_passes c a,
    )

-- ---- an effect leaves a sound instrument

changed_sound : {w : Working} {i : Instrument} → instruments.sound w i ≡ true → (j : Instrument) → Changed w i j → instruments.sound w j ≡ true
changed_sound {w} {i} h _ by_batch = soundness.batched_stays w i h
changed_sound {w} {i} h _ (by_reset r top) = soundness.reset_register_stays w i h r top
changed_sound {w} {i} h _ by_alarms = soundness.reset_alarms_stays w i h
changed_sound {w} {i} h _ (by_write r z low top held) = soundness.write_register_stays w i h r z low top held
changed_sound {w} {i} h _ (by_status b) = soundness.write_status_stays w i h b

-- ---- an event leaves a sound meter

module _ (m : Meter) (e : sound m ≡ true) where
  abbrev Test : Instrument → Type 0
  Test i = instruments.sound m.config.working i ≡ true

  able_parts : ((can_talk m.config.talking && can_work m.config.working) ≡ true) × Test m.instrument
  unfolding able
  able_parts =
      both (can_talk m.config.talking && can_work m.config.working) (instruments.sound m.config.working m.instrument) (halves m e).1

  -- with another receiver, and another instrument that is sound
  with_sound : (i : Instrument) (r : Receiver) → Test i → sound (record { config = m.config; instrument = i; receiver = r }) ≡ true
  unfolding sound able
  with_sound i r h = rw ((halves m e).0, able_parts.0, h)

  settled_sound : {R : ℕ → Type 0} {x : Effect} (d : List ℕ) (place : ℕ) → Upon m.config.working m.instrument R x
      → Test (settle m.instrument x d place).settled.instrument
  settled_sound d place u = left_by d place Test able_parts.1 (changed_sound able_parts.1) u

  sampled_sound : (x : ℤ) → sound (left (sample m x)) ≡ true
  sampled_sound x =
      either (λ (o : Outcome). sound o.meter ≡ true) (sound m)
      (with_sound _ m.receiver (soundness.sampled_stays m.config.working m.instrument able_parts.1 (read m.config.scale x) (read_displayable m.config.scale x))) e

  keyed_sound : (k : ℤ) (d : List ℕ) (place : ℕ) → sound (left (key m k d place)) ≡ true
  keyed_sound k d place =
      either (λ (s : Step). sound s.outcome.meter ≡ true) (sound m)
      (with_sound _ m.receiver (settled_sound d place (key_upon m k))) e

  kind_sound : (r : Receiver) (d : List ℕ) (place : ℕ) (k : Kind) → sound (by_kind m (with_receiver m r) d place k).outcome.meter ≡ true
  kind_sound r d place Part = with_sound _ _ able_parts.1
  kind_sound r d place Drop = with_sound _ _ able_parts.1
  kind_sound r d place End = with_sound _ _ (settled_sound d place (end_upon m))

  received_sound : (b : ℕ) (d : List ℕ) (place : ℕ) → sound (left (byte m b d place)) ≡ true
  received_sound b d place =
      either (λ (s : Step). sound s.outcome.meter ≡ true) (door (reach_of (receivers.kind b)) m) (kind_sound (receivers.next m.receiver b) d place (receivers.kind b)) e

pub stays_sound : StaysSound
stays_sound =
    record {
      sound_started = sound_started;
      fresh_sound = fresh_sound;
      sampled_sound = λ m x e. sampled_sound m e x;
      keyed_sound = λ m k d place e. keyed_sound m e k d place;
      received_sound = λ m b d place e. received_sound m e b d place;
    }
