-- To whom the doors stand open, and what is done behind an open one: what a string's end comes to turns on what was heard alone.
-- Assumes nothing.
use mathlib.Core.Path.{◌≡◌, refl, sym, ap, ◌∙◌}
use mathlib.Core.Bool.{Bool, true, false, cond}
use mathlib.Core.List.{List}
use Prim.Native.Nat.{ℕ}
use lib.IntN.{ℤ}
use lib.ListN.{take}
use Rattle.exact.proofs.Z.{both}
use Rattle.answer.specs.declared.Answer.TheVariants.{TooLong}
use Rattle.receiver.specs.Receiver.{Heard, bytes, too_long, over, kind, taken, heard}
use Rattle.receiver.specs.declared.Kind.{Kind}
use Rattle.segments.specs.Segments.{can_scale}
use Rattle.segments.proofs.Scale.{scale_steps}
use Rattle.effect.specs.Able.{able}
use Rattle.effect.specs.Effect.{Effect, stands, settled, settle, told}
use Rattle.meter.specs.Door.{started, sound, Reach, works, hears, reach_of, door}
use Rattle.meter.specs.Meter.{with_receiver, settled_in, key_effect, end_effect, takes, by_kind, received, keyed}
use Rattle.meter.specs.declared.Meter.{Meter}

opens : {A : Type 0} {t : Bool} (x y : A) → t ≡ true → cond t x y ≡ x
opens x y e = rw e

pub shuts : {A : Type 0} {t : Bool} (x y : A) → t ≡ false → cond t x y ≡ y
shuts x y e = rw e

module _ (m : Meter) where
  pub halves : sound m ≡ true → (can_scale m.config.scale ≡ true) × (able m.config.talking m.config.working m.instrument ≡ true)
  unfolding sound
  halves ok = both (can_scale m.config.scale) (able m.config.talking m.config.working m.instrument) ok

  -- a sound meter was started, since it can scale
  pub sound_started : sound m ≡ true → started m ≡ true
  sound_started ok = scale_steps m.config.scale (halves ok).0

  -- so every door is open to a sound meter, and shut to one that was not started
  pub stands_open : (r : Reach) → sound m ≡ true → door r m ≡ true
  stands_open works ok = ok
  stands_open hears ok = sound_started ok

  unsound : (t : Bool) → sound m ≡ t → started m ≡ false → t ≡ false
  unsound true e never = sym (sound_started e) ∙ never
  unsound false e never = refl

  pub stands_shut : (r : Reach) → started m ≡ false → door r m ≡ false
  stands_shut works never = unsound (sound m) refl never
  stands_shut hears never = never

module _ (m : Meter) (buffer : List ℕ) (place : ℕ) where
  pub keyed_in : (k : ℤ) → sound m ≡ true → keyed m k buffer place ≡ settled_in m (settle m.instrument (key_effect m k) buffer place)
  keyed_in k ok = opens _ _ ok

  -- a byte whose kind is known, and one of any kind
  pub received_as : (b : ℕ) (k : Kind) → kind b ≡ k → door (reach_of k) m ≡ true → received m b buffer place ≡ by_kind m (with_receiver m (taken k m.receiver b)) buffer place k
  received_as b k e ok = rw e (opens _ _ ok)

  pub received_in : (b : ℕ) → door (reach_of (kind b)) m ≡ true → received m b buffer place ≡ by_kind m (takes m b) buffer place (kind b)
  received_in b ok = received_as b (kind b) refl ok

module _ (m : Meter) where
  -- a string that has ended, as its bytes or as too long
  abbrev pub ended_as : Heard → Effect
  ended_as (bytes s) = told m.config.talking m.config.working m.instrument s
  ended_as too_long = stands (settled TooLong m.instrument)

  pub ended_by : (s : List ℕ) (t : Bool) → ended_as (cond t too_long (bytes s)) ≡ cond t (ended_as too_long) (ended_as (bytes s))
  ended_by s true = refl
  ended_by s false = refl

  ended_heard : ended_as (heard m.receiver) ≡ end_effect m
  unfolding heard
  ended_heard = ended_by (take m.receiver.length m.receiver.bytes) (over m.receiver.length)

  pub at_end : (h : Heard) → heard m.receiver ≡ h → end_effect m ≡ ended_as h
  at_end h e = sym ended_heard ∙ ap ended_as e
