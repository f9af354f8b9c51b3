-- Inputs in a list read into a list of numbers, one after another.
use Rattle.std.specs.Prelude.{◌≡◌, true, false, cond, List, [], ◌∷◌, ℕ, ◌≤◌, ◌<◌, ℤ, pos, length, get_or}
use Rattle.exact.specs.Sign.{minus}
use Rattle.reading.specs.declared.Reading.{Reading}
use Rattle.reading.specs.declared.Reading.TheVariants.{Nothing, Under, Number, Over}
use Rattle.config.specs.Config.{judged}
use Rattle.config.specs.declared.Config.{Config}
use Rattle.config.specs.Verdict.{Accepted}
use Rattle.source.specs.Source.{reading_by}
use Rattle.segments.specs.Segments.{segments_of, read, can_scale}
use Rattle.segments.specs.declared.Segments.{Segments}
use Rattle.answer.specs.declared.Answer.{Answer}
use Rattle.answer.specs.declared.Answer.TheVariants.{Done, NotStarted}

-- the number that stands for a reading: 100,000 for Over and -20,000 for Under, each one past the display range. No input reads
-- Nothing, for which 0 stands
abbrev pub number_of : Reading → ℤ
number_of Nothing = pos 0
number_of Under = minus 20000
number_of (Number v) = v
number_of Over = pos 100000

-- each input is read into the place that it has, as many as the shorter list has; what is left stays as it is
unfoldable pub read_into : Segments → (inputs readings : List ℤ) → List ℤ
read_into s [] readings = readings
read_into s (x ∷ xs) [] = []
read_into s (x ∷ xs) (before ∷ rest) = number_of (read s x) ∷ read_into s xs rest

-- 0, or 12 with nothing written where the scale fails its test
abbrev pub answered : Segments → Answer
answered s = cond (can_scale s) Done NotStarted

abbrev pub left : Segments → (inputs readings : List ℤ) → List ℤ
left s inputs readings = cond (can_scale s) (read_into s inputs readings) readings

-- ---- the claims: what stands at each place afterwards

abbrev pub at : List ℤ → ℕ → ℤ
at l k = get_or l k (pos 0)

pub record Rescales (s : Segments) (inputs readings : List ℤ) : Type 0 where
  -- as long as before
  pub as_long : length (left s inputs readings) ≡ length readings
  -- every place that both lists have holds its input's reading
  pub each : can_scale s ≡ true → (k : ℕ) → k < length inputs → k < length readings → at (left s inputs readings) k ≡ number_of (read s (at inputs k))
  -- every other place what it held, and so does each where the scale fails its test
  pub behind : (k : ℕ) → length inputs ≤ k → at (left s inputs readings) k ≡ at readings k
  pub refused : can_scale s ≡ false → left s inputs readings ≡ readings

-- of an accepted configuration the scale passes, and the number at a place stands for the reading by its source
pub record BySource (c : Config) (accepted : judged c ≡ Accepted) (inputs readings : List ℤ) : Type 0 where
  pub answer : answered (segments_of c.scale) ≡ Done
  pub each : (k : ℕ) → k < length inputs → k < length readings
      → at (left (segments_of c.scale) inputs readings) k
      ≡ number_of (reading_by c.scale (at inputs k))

-- the numbers tell apart what can be read: no input reads Nothing, and no number of the display range is 100,000 or -20,000
abbrev pub Told : Type 0
Told = (s : Segments) (x y : ℤ) → number_of (read s x) ≡ number_of (read s y) → read s x ≡ read s y
