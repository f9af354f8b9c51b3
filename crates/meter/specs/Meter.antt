-- What each call answers, which meter it leaves, and every byte of the buffer, as document 01 has them.
use Rattle.std.specs.Prelude.{cond, List, ℕ, ℤ, take}
use Rattle.config.specs.Config as configs
use Rattle.config.specs.Bench.{nothing}
use Rattle.config.specs.declared.Config.{Config}
use Rattle.config.specs.declared.Talking.{Talking}
use Rattle.config.specs.declared.Working.{Working}
use Rattle.config.specs.Verdict.{Verdict}
use Rattle.config.specs.Verdict.{Accepted, Broken}
use Rattle.segments.specs.Segments.{segments_of, read}
use Rattle.segments.specs.declared.Segments.{Segments}
use Rattle.receiver.specs.Receiver as receivers
use Rattle.receiver.specs.declared.Receiver.{Receiver}
use Rattle.receiver.specs.declared.Kind.{Kind}
use Rattle.receiver.specs.declared.Kind.TheVariants.{End, Drop, Part}
use Rattle.instrument.specs.Instrument as instruments
use Rattle.instrument.specs.declared.Instrument.{Instrument}
use Rattle.effect.specs.Effect.{Effect, stands, settled, Settlement, settle, told, pressed}
use Rattle.answer.specs.declared.Answer.{Answer}
use Rattle.answer.specs.declared.Answer.TheVariants.{Done, Stored, Dropped, TooLong, Refused, NotStarted}
use Rattle.meter.specs.Door.{works, reach_of, door}
use Rattle.meter.specs.declared.Meter.{Meter}
use Rattle.meter.specs.declared.Outcome.{Outcome}

abbrev pub outcome : Answer → Meter → Outcome
outcome a m = record { answer = a; meter = m }

-- an outcome, and what the lent buffer then holds
pub record Step : Type 0 where
  pub outcome : Outcome
  pub buffer : List ℕ

abbrev pub step : Answer → Meter → List ℕ → Step
step a m buffer = record { outcome = outcome a m; buffer = buffer }

-- ---- parts of the meter, changed one at a time

abbrev pub with_instrument : Meter → Instrument → Meter
with_instrument m i = record { config = m.config; instrument = i; receiver = m.receiver }

abbrev pub with_receiver : Meter → Receiver → Meter
with_receiver m r = record { config = m.config; instrument = m.instrument; receiver = r }

-- ---- power-up: 0 with a fresh meter, or 11 with the number of the first broken rule

-- what a meter holds of a configuration: a scale, and its settings as they are; the setpoints are the alarms'
abbrev pub powered : Segments → Config → Meter
powered s c =
    record {
      config = record { scale = s; working = c.working; talking = c.talking };
      instrument = instruments.powered_up c.setpoints;
      receiver = receivers.silent;
    }

-- of an accepted one the scale is the segments of its points
abbrev pub fresh : Config → Meter
fresh c = powered (segments_of c.scale) c

-- the one meter value that a refusal leaves
abbrev pub not_started : Meter
not_started = fresh nothing

abbrev pub by_verdict : Config → Verdict → Outcome
by_verdict c Accepted = outcome Done (fresh c)
by_verdict c (Broken rule) = outcome (Refused rule) not_started

abbrev pub powered_up : Config → Outcome
powered_up c = by_verdict c (configs.judged c)

-- ---- a sample: 0, or 12 to a meter not started

abbrev pub measured : Meter → ℤ → Instrument
measured m x = instruments.sampled m.config.working m.instrument (read m.config.scale x)

abbrev pub sampled : Meter → ℤ → Outcome
sampled m x = cond (door works m) (outcome Done (with_instrument m (measured m x))) (outcome NotStarted m)

-- ---- a key: its effect, settled. A half received string stays as it is

abbrev pub key_effect : Meter → ℤ → Effect
key_effect m k = pressed m.config.talking m.config.working m.instrument k

abbrev pub settled_in : Meter → Settlement → Step
settled_in m s = step s.settled.answer (with_instrument m s.settled.instrument) s.buffer

abbrev pub keyed : Meter → ℤ → List ℕ → ℕ → Step
keyed m k buffer place =
    cond (door works m) (settled_in m (settle m.instrument (key_effect m k) buffer place)) (step NotStarted m buffer)

-- ---- a string that has ended: 6 for more than 32 bytes, and else what it is told

abbrev pub heard_effect : Talking → Working → Instrument → Receiver → Effect
heard_effect t w i r = cond (receivers.over r.length) (stands (settled TooLong i)) (told t w i (take r.length r.bytes))

abbrev pub end_effect : Meter → Effect
end_effect m = heard_effect m.config.talking m.config.working m.instrument m.receiver

-- ---- a byte goes into the receiver, whatever is answered

abbrev pub takes : Meter → ℕ → Meter
takes m b = with_receiver m (receivers.next m.receiver b)

-- 1 where it is part of a string, 5 where it drops one, and what the string says where it ends one. Then n is left, the meter m with
-- the byte heard; m has the string still
abbrev pub by_kind : Meter → Meter → List ℕ → ℕ → Kind → Step
by_kind m n buffer place Part = step Stored n buffer
by_kind m n buffer place Drop = step Dropped n buffer
by_kind m n buffer place End = settled_in n (settle m.instrument (end_effect m) buffer place)

abbrev pub received : Meter → ℕ → List ℕ → ℕ → Step
received m b buffer place =
    cond (door (reach_of (receivers.kind b)) m) (by_kind m (takes m b) buffer place (receivers.kind b)) (step NotStarted m buffer)
