-- What a line does to the meter and its buffer, and what is shown of it.
use Rattle.std.specs.Prelude.{ℕ, List, [], ◌∷◌, ◌++◌, ℤ, length, replicate, Option, Some, None}
use denote.MutBor.{MutBor}
use Rattle.text.specs.Line.{Heard, all_lines, ran}
use Rattle.text.specs.Output.{Waiting, waiting, nothing_waits, puts}
use Rattle.register.specs.Bytes.{ascii}
use Rattle.answer.specs.declared.Answer.{Answer}
use Rattle.config.specs.declared.Config.{Config}
use Rattle.meter.specs.Meter.{Step, not_started, powered_up, sampled, keyed, received}
use Rattle.meter.specs.declared.Meter.{Meter}
use Rattle.meter.specs.declared.Outcome.{Outcome}
use Rattle.record.specs.Record.{event_heard, read_heard}
use Rattle.record.specs.Configuration.{config_of}
use Rattle.record.specs.declared.Event.{Event}
use Rattle.record.specs.declared.Event.TheVariants.{Configuration, Sample, Key, Byte}
use Rattle.replay.specs.declared.Program.{Program}
use Rattle.show.specs.Show.{unwritten, power_line, event_line}

-- ---- events

-- nothing is written in it
unfoldable pub filled : List ℕ → List ℕ
filled buffer = replicate (length buffer) unwritten

unfoldable pub power_step : Config → List ℕ → Step
power_step c buffer = record { outcome = powered_up c; buffer = filled buffer }

unfoldable pub sample_step : Meter → ℤ → List ℕ → Step
sample_step m n buffer = record { outcome = sampled m n; buffer = buffer }

unfoldable pub key_step : Meter → ℤ → ℕ → List ℕ → Step
key_step m n place buffer = keyed m n buffer place

unfoldable pub byte_step : Meter → ℕ → ℕ → List ℕ → Step
byte_step m b place buffer = received m b buffer place

-- ---- a line

-- what is shown of it: the answer of a configuration, or an event's with the whole state, or that it is no line of a history
pub data Said : Type 0 where
  PoweredUp : Answer → Said
  Answered : Answer → Said
  Unknown : Said

-- that, with the meter after it
pub record Told : Type 0 where
  pub meter : Meter
  pub said : Said

-- and the buffer after it
pub record Effect : Type 0 where
  pub told : Told
  pub buffer : List ℕ

-- a new meter: its answer alone is shown
abbrev pub as_powered : Outcome → Told
as_powered o = record { meter = o.meter; said = PoweredUp o.answer }

-- an event of the meter: its answer and the whole state
abbrev pub as_told : Outcome → Told
as_told o = record { meter = o.meter; said = Answered o.answer }

abbrev pub powered : Step → Effect
powered t = record { told = as_powered t.outcome; buffer = t.buffer }

abbrev pub answered : Step → Effect
answered t = record { told = as_told t.outcome; buffer = t.buffer }

-- no line of a history: `?`, and no event at all
abbrev pub unknown : Meter → List ℕ → Effect
unknown m buffer = record { told = record { meter = m; said = Unknown }; buffer = buffer }

abbrev pub effect_by : Meter → List ℕ → List ℤ → Option Event → Effect
effect_by m buffer read (Some Configuration) = powered (power_step (config_of read) buffer)
effect_by m buffer read (Some (Sample n)) = answered (sample_step m n buffer)
effect_by m buffer read (Some (Key n place)) = answered (key_step m n place buffer)
effect_by m buffer read (Some (Byte b place)) = answered (byte_step m b place buffer)
effect_by m buffer read None = unknown m buffer

unfoldable pub effect : Meter → List ℕ → Heard → Effect
effect m buffer h = effect_by m buffer (read_heard h) (event_heard h)

-- what is printed of it, piece by piece
unfoldable pub shown_of : Said → Meter → List ℕ → List (List ℕ)
shown_of (PoweredUp a) m buffer = power_line a
shown_of (Answered a) m buffer = event_line a m buffer
shown_of Unknown m buffer = (ascii "?" ++ (10 ∷ [])) ∷ []

abbrev pub printed : Effect → List (List ℕ)
printed x = shown_of x.told.said x.told.meter x.buffer

-- ---- the stream

-- what goes on from line to line: the meter, its buffer, and what waits to be written
pub record Stand : Type 0 where
  pub meter : Meter
  pub buffer : List ℕ
  pub out : Waiting

abbrev pub stand : Meter → List ℕ → Waiting → Stand
stand m buffer out = record { meter = m; buffer = buffer; out = out }

abbrev pub standing : Program → Stand
standing program = stand program.meter program.buffer (waiting program.out)

abbrev pub stand_after : Waiting → Effect → Stand
stand_after out x = stand x.told.meter x.buffer (puts out (printed x))

unfoldable pub heard_by : Stand → Heard → Stand
heard_by s h = stand_after s.out (effect s.meter s.buffer h)

-- where it starts: a meter not started, a buffer of 170 bytes in which nothing is written, and nothing that waits
abbrev pub begun : MutBor (List ℕ) → Stand
begun room = stand not_started (replicate 170 unwritten) (nothing_waits room)

-- what waits after a whole stream
abbrev pub printed_of : MutBor (List ℕ) → List ℕ → Waiting
printed_of room stream = (ran heard_by (begun room) (all_lines stream)).out
