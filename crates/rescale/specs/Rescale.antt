-- What a line does to the program, as the code holds it, with the scale as its segments (`heard_by`); and what is printed of a whole stream,
-- which is said by the configuration and knows no state of the program (`printed_of`). The first is the contract of what
-- hears a line, the second that of the program; proofs/Stream joins them.
use Rattle.std.specs.Prelude.{ℕ, cond, List}
use denote.MutBor.{MutBor}
use Rattle.text.specs.Line.{Heard, all_lines}
use Rattle.text.specs.Output.{Waiting, waiting, nothing_waits, puts}
use Rattle.rescaling.specs.Show.{shown_of, all_shown}
use Rattle.rescaling.specs.Held.{opened, awaits, said_by}
use Rattle.rescaling.specs.declared.Mode.{Mode}
use Rattle.rescaling.specs.declared.Opened.{Opened}
use Rattle.rescale.specs.declared.Program.{Program}

-- what goes on from line to line: what the first line has made of the program, and what waits to be written
pub record Stand : Type 0 where
  pub mode : Mode
  pub out : Waiting

abbrev pub stand : Mode → Waiting → Stand
stand mode out = record { mode = mode; out = out }

abbrev pub standing : Program → Stand
standing program = stand program.mode (waiting program.out)

-- the first line makes the program what it is from then on
abbrev pub opened_at : Waiting → Opened → Stand
opened_at out o = stand o.mode (puts out (shown_of o.said))

-- a later one changes nothing but what waits
abbrev pub told_at : Stand → Heard → Stand
told_at s h = stand s.mode (puts s.out (shown_of (said_by s.mode h)))

unfoldable pub heard_by : Stand → Heard → Stand
heard_by s h = cond (awaits s.mode) (opened_at s.out (opened h)) (told_at s h)

-- what waits after a whole stream
abbrev pub printed_of : MutBor (List ℕ) → List ℕ → Waiting
printed_of room stream = puts (nothing_waits room) (all_shown (all_lines stream))
