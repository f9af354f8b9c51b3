-- What a line does to the meter and its reply buffer, and what is printed of it.
use Rattle.std.specs.Prelude.{ℕ, List, [], ◌∷◌, ℤ, drop, get_or, replicate, Option, Some, None}
use denote.MutBor.{MutBor}
use Rattle.text.specs.Line.{Heard, all_lines, ran}
use Rattle.text.specs.Output.{Waiting, waiting, nothing_waits, puts}
use Rattle.answer.specs.declared.Answer.{Answer}
use Rattle.config.specs.Bench.{bench_meter}
use Rattle.meter.specs.Meter.{Step, powered_up, sampled, keyed, received}
use Rattle.meter.specs.declared.Meter.{Meter}
use Rattle.bench_line.specs.Grammar.{Asked, sample, key, chars, judged}
use Rattle.bench_line.specs.Show.{shown_of}
use Rattle.bench.specs.declared.Program.{Program}

-- ---- events, each at place 0 of the reply buffer

unfoldable pub sample_step : Meter → ℤ → List ℕ → Step
sample_step m z reply = record { outcome = sampled m z; buffer = reply }

unfoldable pub key_step : Meter → ℤ → List ℕ → Step
key_step m k reply = keyed m k reply 0

unfoldable pub byte_step : Meter → ℕ → List ℕ → Step
byte_step m b reply = received m b reply 0

-- bytes that follow an event; the last one's answer counts
unfoldable pub bytes_on : Step → List ℕ → Step
bytes_on t [] = t
bytes_on t (b ∷ s) = bytes_on (byte_step t.outcome.meter b t.buffer) s

-- one byte, and those that follow
unfoldable pub bytes_step : Meter → List ℕ → List ℕ → Step
bytes_step m s reply = bytes_on (byte_step m (get_or s 0 0) reply) (drop 1 s)

-- ---- a line

-- what it is told, with the meter and the reply buffer after it
pub record Effect : Type 0 where
  pub meter : Meter
  pub said : Option Answer
  pub reply : List ℕ

abbrev pub answered : Step → Effect
answered t = record { meter = t.outcome.meter; said = Some t.outcome.answer; reply = t.buffer }

-- no line of this program: no event at all
abbrev pub unknown : Meter → List ℕ → Effect
unknown m reply = record { meter = m; said = None; reply = reply }

abbrev pub step_by : Meter → List ℕ → Asked → Step
step_by m reply (sample v) = sample_step m v reply
step_by m reply (key v) = key_step m v reply
step_by m reply (chars s) = bytes_step m s reply

abbrev pub effect_by : Meter → List ℕ → Option Asked → Effect
effect_by m reply (Some a) = answered (step_by m reply a)
effect_by m reply None = unknown m reply

unfoldable pub effect : Meter → List ℕ → Heard → Effect
effect m reply h = effect_by m reply (judged h)

-- the program after it, with nothing put out
abbrev pub program_after : Program → Effect → Program
program_after program x = record { meter = x.meter; reply = x.reply; out = program.out }

-- ---- the stream

-- what goes on from line to line: the meter, its reply buffer, and what waits to be written
pub record Stand : Type 0 where
  pub meter : Meter
  pub reply : List ℕ
  pub out : Waiting

abbrev pub stand : Meter → List ℕ → Waiting → Stand
stand m reply out = record { meter = m; reply = reply; out = out }

abbrev pub standing : Program → Stand
standing program = stand program.meter program.reply (waiting program.out)

abbrev pub stand_after : Waiting → Effect → Stand
stand_after out x = stand x.meter x.reply (puts out (shown_of x.said x.reply))

unfoldable pub heard_by : Stand → Heard → Stand
heard_by s h = stand_after s.out (effect s.meter s.reply h)

-- what waits after a whole stream, from document 01's bench meter on, where the longest reply has room
abbrev pub printed_of : MutBor (List ℕ) → List ℕ → Waiting
printed_of room stream = (ran heard_by (stand (powered_up bench_meter).meter (replicate 163 0) (nothing_waits room)) (all_lines stream)).out
