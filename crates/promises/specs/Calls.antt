-- The four public calls under one name, so that a promise is made once for all of them.
use Rattle.std.specs.Prelude.{◌≡◌, Bool, ◌||◌, List, [], ℕ, eqb, leb, ℤ}
use Rattle.answer.specs.Answer.{number}
use Rattle.config.specs.declared.Config.{Config}
use Rattle.meter.specs.Meter.{Step, powered_up, sampled, keyed, received}
use Rattle.meter.specs.declared.Meter.{Meter}

pub data Call : Type 0 where
  power_up : (config : Config) → Call
  sample : (m : Meter) (input : ℤ) → Call
  key : (m : Meter) (pressed : ℤ) (buffer : List ℕ) (place : ℕ) → Call
  byte : (m : Meter) (b : ℕ) (buffer : List ℕ) (place : ℕ) → Call

-- the bytes that are lent with a call and the place that it names; power-up and a sample are lent none
abbrev pub lent : Call → List ℕ
lent (power_up c) = []
lent (sample m x) = []
lent (key m k buffer place) = buffer
lent (byte m b buffer place) = buffer

abbrev pub place_of : Call → ℕ
place_of (power_up c) = 0
place_of (sample m x) = 0
place_of (key m k buffer place) = place
place_of (byte m b buffer place) = place

-- the definition that the call's contract cites: the outcome, and what the lent buffer then holds
abbrev pub result : Call → Step
result (power_up c) = record { outcome = powered_up c; buffer = [] }
result (sample m x) = record { outcome = sampled m x; buffer = [] }
result (key m k buffer place) = keyed m k buffer place
result (byte m b buffer place) = received m b buffer place

-- what the contract allows: it is an equation for the outcome and one for the buffer
pub record Allows (k : Call) (s : Step) : Type 0 where
  pub outcome : s.outcome ≡ (result k).outcome
  pub buffer : s.buffer ≡ (result k).buffer

-- document 01's number of the answer, and the meter that is left
abbrev pub answered : Call → ℕ
answered k = number (result k).outcome.answer

abbrev pub left : Call → Meter
left k = (result k).outcome.meter

-- which numbers a call can answer with: power-up 0 and 11, a sample 0 and 12, a key 0, 2, 9, 10 and 12, a byte 0 to 6, 8, 9 and 12
abbrev pub possible : Call → ℕ → Bool
possible (power_up c) n = eqb n 0 || eqb n 11
possible (sample m x) n = eqb n 0 || eqb n 12
possible (key m k buffer place) n = eqb n 0 || eqb n 2 || eqb n 9 || eqb n 10 || eqb n 12
possible (byte m b buffer place) n = leb n 6 || eqb n 8 || eqb n 9 || eqb n 12
