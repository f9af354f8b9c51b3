-- What a line does to the program: nothing but what is printed of it. So all that goes on from line to line is what waits to be written.
use Rattle.std.specs.Prelude.{ℕ, List}
use denote.MutBor.{MutBor}
use Rattle.text.specs.Line.{Heard, all_lines}
use Rattle.text.specs.Output.{Waiting, waiting, nothing_waits, puts}
use Rattle.historian_line.specs.Line.{heard_shown, all_shown}
use Rattle.historian.specs.declared.Program.{Program}

-- what waits
abbrev pub standing : Program → Waiting
standing program = waiting program.out

unfoldable pub heard_by : Waiting → Heard → Waiting
heard_by out h = puts out (heard_shown h)

-- what waits after a whole stream, where nothing waited
abbrev pub printed_of : MutBor (List ℕ) → List ℕ → Waiting
printed_of room stream = puts (nothing_waits room) (all_shown (all_lines stream))
