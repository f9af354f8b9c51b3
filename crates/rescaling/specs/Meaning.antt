-- What is claimed of the definitions: how the first line decides for all that is printed, line by line and with no state between them; and
-- that what the code holds, segments, tells every line what the configuration tells.
use Rattle.std.specs.Prelude.{ℕ, ◌≡◌, true, false, List, [], ◌∷◌, ◌++◌, ◌≢◌, ℤ, Option, Some, None}
use Rattle.reading.specs.declared.Reading.TheVariants.{Nothing}
use Rattle.config.specs.Config.{judged}
use Rattle.config.specs.declared.Config.{Config}
use Rattle.config.specs.declared.Scale.{Scale}
use Rattle.config.specs.Verdict.{Accepted, Broken}
use Rattle.source.specs.Source.{reading_by}
use Rattle.record.specs.Record.{event_heard, read_heard}
use Rattle.record.specs.Configuration.{config_of}
use Rattle.record.specs.declared.Event.TheVariants.{Configuration}
use Rattle.register.specs.Bytes.{ascii}
use Rattle.text.specs.Line.{Heard, kept}
use Rattle.text.specs.Numeral.{numeral}
use Rattle.rescaling.specs.Rescaling.{start_of, first_told, input_heard, later_told}
use Rattle.rescaling.specs.Show.{ended, reading_line, all_shown}
use Rattle.rescaling.specs.Held.{opened, awaits, said_by, sound}

-- ---- all that is printed

-- the configuration that a line is, where it is one
abbrev pub config_in : List ℕ → Config
config_in l = config_of (read_heard (kept l))

-- the line of two numbers
abbrev pub two_numbers : List ℕ → List ℕ → List (List ℕ)
two_numbers a b = a ∷ ascii " " ∷ b ∷ (10 ∷ []) ∷ []

-- the reading of an input by the configuration's source, and `?` where the line is none
abbrev pub reading_at : Scale → Option ℤ → List (List ℕ)
reading_at s (Some x) = reading_line (reading_by s x)
reading_at s None = ended (ascii "?")

abbrev pub input_line : Scale → List ℕ → List (List ℕ)
input_line s l = reading_at s (input_heard (kept l))

-- what f makes of each line, one after another
unfoldable pub each : (List ℕ → List (List ℕ)) → List (List ℕ) → List (List ℕ)
each f [] = []
each f (l ∷ ls) = f l ++ each f ls

pub record Decides (first : List ℕ) (rest : List (List ℕ)) : Type 0 where
  -- a configuration that is accepted: `0 0`, and then for each line its reading
  pub accepted : event_heard (kept first) ≡ Some Configuration → judged (config_in first) ≡ Accepted
      → all_shown (first ∷ rest) ≡ two_numbers (numeral 0) (numeral 0) ++ each (input_line (config_in first).scale) rest
  -- one that is refused: `11` and the number of the first rule that it breaks, and not a byte more, whatever comes behind it
  pub refused : (rule : ℕ) → event_heard (kept first) ≡ Some Configuration → judged (config_in first) ≡ Broken rule
      → all_shown (first ∷ rest) ≡ two_numbers (numeral 11) (numeral rule)
  -- any other line: `?` for it and for every one behind it
  pub other : event_heard (kept first) ≢ Some Configuration → all_shown (first ∷ rest) ≡ each (λ _. ended (ascii "?")) (first ∷ rest)

-- no input reads Nothing, so that `--` is never printed
abbrev pub Readings : Type 0
Readings = (s : Scale) (x : ℤ) → reading_by s x ≢ Nothing

-- ---- what the code holds

pub record Agrees (first : Heard) : Type 0 where
  -- the first line is told what the definition says, and so is every later one, though it is read by segments
  pub told : (opened first).said ≡ first_told (start_of first)
  pub later : (h : Heard) → said_by (opened first).mode h ≡ later_told (start_of first) h
  -- no later line is taken for the first one
  pub once : awaits (opened first).mode ≡ false
  -- and inputs can be read by the scale where they are
  pub reads : sound (opened first).mode ≡ true
