-- The tests at the door: they shut out what was never started, and are harmless to every other meter.
use Rattle.std.specs.Prelude.{◌≡◌, true, false, List, [], ◌≢◌, ℕ, ℤ, length}
use Rattle.config.specs.Config.{judged}
use Rattle.config.specs.declared.Config.{Config}
use Rattle.config.specs.Verdict.{Accepted}
use Rattle.receiver.specs.Receiver.{limit}
use Rattle.meter.specs.Door.{started, sound}
use Rattle.meter.specs.Meter.{fresh}
use Rattle.meter.specs.declared.Meter.{Meter}
use Rattle.promises.specs.Calls.{power_up, sample, key, byte, answered, left}
use Rattle.promises.specs.Rows.{Gives}

-- every event to a value that was not started is 12 and changes nothing
pub record Shut (m : Meter) : Type 0 where
  pub sampled : (x : ℤ) → started m ≡ false → Gives (sample m x) 12 0 m []
  pub keyed : (k : ℤ) (buffer : List ℕ) (place : ℕ) → started m ≡ false → Gives (key m k buffer place) 12 0 m buffer
  pub received : (b : ℕ) (buffer : List ℕ) (place : ℕ) → started m ≡ false → Gives (byte m b buffer place) 12 0 m buffer

-- power-up with an accepted configuration gives a sound meter, every event leaves one, and a sound meter was started
pub record StaysSound : Type 0 where
  pub sound_started : (m : Meter) → sound m ≡ true → started m ≡ true
  pub fresh_sound : (c : Config) → judged c ≡ Accepted → sound (fresh c) ≡ true
  pub sampled_sound : (m : Meter) (x : ℤ) → sound m ≡ true → sound (left (sample m x)) ≡ true
  pub keyed_sound : (m : Meter) (k : ℤ) (buffer : List ℕ) (place : ℕ) → sound m ≡ true → sound (left (key m k buffer place)) ≡ true
  pub received_sound : (m : Meter) (b : ℕ) (buffer : List ℕ) (place : ℕ) → sound m ≡ true → sound (left (byte m b buffer place)) ≡ true

-- the meters that an accepted power-up and any history after it leave
pub data Reached : Meter → Type 0 where
  powered_up : (c : Config) → judged c ≡ Accepted → Reached (left (power_up c))
  sampled : {m : Meter} (x : ℤ) → Reached m → Reached (left (sample m x))
  keyed : {m : Meter} (k : ℤ) (buffer : List ℕ) (place : ℕ) → Reached m → Reached (left (key m k buffer place))
  received : {m : Meter} (b : ℕ) (buffer : List ℕ) (place : ℕ) → Reached m → Reached (left (byte m b buffer place))

-- such a meter's receiver has its 32 places
abbrev pub Places : Meter → Type 0
Places m = length m.receiver.bytes ≡ limit

-- no event to such a meter is answered 12
pub record Never12 (m : Meter) : Type 0 where
  pub sampled : (x : ℤ) → answered (sample m x) ≢ 12
  pub keyed : (k : ℤ) (buffer : List ℕ) (place : ℕ) → answered (key m k buffer place) ≢ 12
  pub received : (b : ℕ) (buffer : List ℕ) (place : ℕ) → answered (byte m b buffer place) ≢ 12
