-- Histories of a meter: what happens to it after power-up, and which meter that leaves.
use Rattle.std.specs.Prelude.{List, [], ◌∷◌, ℕ, ℤ, nat_abs}
use Rattle.config.specs.declared.Config.{Config}
use Rattle.receiver.specs.Since.{since}
use Rattle.meter.specs.Meter.{powered_up, sampled, keyed, received}
use Rattle.meter.specs.declared.Meter.{Meter}
use Rattle.meter.specs.declared.Outcome.{Outcome}

-- a sample, a key or a received byte; key and byte with the place that the caller names and what the buffer holds that he lends
pub data Event : Type 0 where
  sample : (input : ℤ) → Event
  key : (number : ℤ) (place : ℕ) (buffer : List ℕ) → Event
  byte : (b place : ℕ) (buffer : List ℕ) → Event

-- what the public call for an event gives back
abbrev pub outcome_of : Meter → Event → Outcome
outcome_of m (sample x) = sampled m x
outcome_of m (key k place buffer) = (keyed m k buffer place).outcome
outcome_of m (byte b place buffer) = (received m b buffer place).outcome

-- events since power-up, newest first: `e ∷ h` is h and then e
abbrev pub History : Type 0
History = List Event

-- what the last public call of power-up and a history gives back, and the meter that it leaves
abbrev pub last_outcome : Config → History → Outcome
last_outcome c [] = powered_up c
last_outcome c (e ∷ h) = outcome_of (last_outcome c h).meter e

abbrev pub meter_after : Config → History → Meter
meter_after c h = (last_outcome c h).meter

-- its node
abbrev pub node_of : Config → ℕ
node_of c = nat_abs c.talking.node

-- the bytes of a history, newest first
abbrev pub bytes_of : History → List ℕ
bytes_of [] = []
bytes_of (sample x ∷ h) = bytes_of h
bytes_of (key k place buffer ∷ h) = bytes_of h
bytes_of (byte b place buffer ∷ h) = b ∷ bytes_of h

-- the string half received: every byte since power-up or the last ending byte, in the order in which they came
abbrev pub half : History → List ℕ
half h = since (bytes_of h)
