-- What the program that rescales is to tell each line. The first one decides for all the others, and an input is read by the source that
-- its configuration names.
use Rattle.std.specs.Prelude.{ℤ, ℕ, Option, Some, None}
use Rattle.answer.specs.declared.Answer.TheVariants.{Done, Refused}
use Rattle.reading.specs.declared.Reading.{Reading}
use Rattle.config.specs.Config.{judged}
use Rattle.config.specs.declared.Config.{Config}
use Rattle.config.specs.declared.Scale.{Scale}
use Rattle.config.specs.Verdict.{Verdict}
use Rattle.config.specs.Verdict.{Accepted, Broken}
use Rattle.source.specs.Source.{reading_by}
use Rattle.record.specs.Record.{event_heard, read_heard}
use Rattle.record.specs.Configuration.{config_of}
use Rattle.record.specs.declared.Event.{Event}
use Rattle.record.specs.declared.Event.TheVariants.{Configuration, Sample, Key, Byte}
use Rattle.text.specs.Line.{Heard, bytes, long}
use Rattle.text.specs.Number.{number_of}
use Rattle.rescaling.specs.declared.Said.{Said}
use Rattle.rescaling.specs.declared.Said.TheVariants.{Configured, Read, Unknown, Silence}

-- ---- the first line decides

-- it is a configuration that is accepted, of which only the scale counts; or one that is refused by a rule; or any other line
pub data Start : Type 0 where
  scaled : Scale → Start
  refused : ℕ → Start
  unconfigured : Start

abbrev pub by_verdict : Scale → Verdict → Start
by_verdict s Accepted = scaled s
by_verdict s (Broken rule) = refused rule

abbrev pub start_by : Config → Option Event → Start
start_by c (Some Configuration) = by_verdict c.scale (judged c)
start_by c (Some (Sample n)) = unconfigured
start_by c (Some (Key n place)) = unconfigured
start_by c (Some (Byte b place)) = unconfigured
start_by c None = unconfigured

-- which lines are a configuration, and which one, is as in a recorded history
unfoldable pub start_of : Heard → Start
start_of h = start_by (config_of (read_heard h)) (event_heard h)

-- a configuration is answered as a power-up is
abbrev pub first_told : Start → Said
first_told (scaled s) = Configured Done
first_told (refused rule) = Configured (Refused rule)
first_told unconfigured = Unknown

-- ---- every later line is told something by itself

-- the input that a line is: one number and nothing else
unfoldable pub input_heard : Heard → Option ℤ
input_heard (bytes l) = number_of l
input_heard long = None

-- an input is told its reading, by the configuration or by what is held of it, and any other line that it is not known
abbrev pub read_by : (ℤ → Reading) → Option ℤ → Said
read_by reads (Some x) = Read (reads x)
read_by reads None = Unknown

-- behind a configuration that is refused no line is told anything, and where there was none no line is known
abbrev pub later_told : Start → Heard → Said
later_told (scaled s) h = read_by (reading_by s) (input_heard h)
later_told (refused rule) h = Silence
later_told unconfigured h = Unknown
