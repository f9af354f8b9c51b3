-- A scale as a meter holds it: its segments, made once of the points of a configuration, and the reading of an input by them alone.
-- What a reading is stays the definition by source and points; that the two agree is claimed in Meaning.
use Rattle.std.specs.Prelude.{◌≡◌, Bool, cond, true, ◌&&◌, List, [], ◌∷◌, ℕ, zero, suc, ◌+◌, ◌-◌, ◌<◌, ltb, ℤ, pos, nat_abs, ◌+ℤ◌, ◌-ℤ◌, ◌*ℤ◌, replicate}
use Rattle.std.specs.Int.Signed.{lt_z}
use Rattle.exact.specs.Sign.{minus, within}
use Rattle.exact.specs.Exact.{nearest}
use Rattle.reading.specs.Reading.{in_input, point, first_from, displayed, up_to}
use Rattle.reading.specs.declared.Reading.{Reading}
use Rattle.reading.specs.declared.Reading.TheVariants.{Under, Over}
use Rattle.config.specs.declared.Scale.{Scale}
use Rattle.config.specs.declared.Source.{Source}
use Rattle.config.specs.declared.Source.TheVariants.{Points, Platinum}
use Rattle.source.specs.Source.{by_source}
use Rattle.segments.specs.declared.Segments.{Segments}

-- ---- the segments of a list of points

-- 16 points have 15 segments
abbrev pub places : ℕ
places = 15

-- count points have count - 1
abbrev pub used : Scale → ℕ
used s = nat_abs s.count - 1

-- segment k starts at point k and leads to point k + 1
abbrev pub start_of : List ℤ → ℕ → ℤ
start_of l k = point l k

abbrev pub difference_of : List ℤ → ℕ → ℤ
difference_of l k = point l (k + 1) -ℤ point l k

-- what f gives at k and so many places behind it
unfoldable pub listed : (ℕ → ℤ) → ℕ → ℕ → List ℤ
listed f k zero = []
listed f k (suc n) = f k ∷ listed f (suc k) n

-- a number for each of the first so many segments, and one fixed number at every other place
abbrev pub or_fixed : ℕ → ℤ → (ℕ → ℤ) → ℕ → ℤ
or_fixed n fixed f k = cond (ltb k n) (f k) fixed

abbrev pub held : ℕ → ℤ → (ℕ → ℤ) → List ℤ
held n fixed f = listed (or_fixed n fixed f) 0 places

-- a place that is not in use starts at 0 with 0, and is flat over a run of 1
abbrev pub of_points : Scale → Segments
of_points s =
    record {
      source = Points;
      step = s.step;
      last = nat_abs s.count - 2;
      inputs = held (used s) (pos 0) (start_of s.inputs);
      displays = held (used s) (pos 0) (start_of s.displays);
      rises = held (used s) (pos 0) (difference_of s.displays);
      runs = held (used s) (pos 1) (difference_of s.inputs);
    }

-- no place in use
abbrev pub unused : Source → (step : ℤ) → Segments
unused source step =
    record {
      source = source;
      step = step;
      last = 0;
      inputs = replicate 15 (pos 0);
      displays = replicate 15 (pos 0);
      rises = replicate 15 (pos 0);
      runs = replicate 15 (pos 1);
    }

-- and no step either
abbrev pub no_segments : Segments
no_segments = unused Points (pos 0)

-- of a platinum sensor the step is held and nothing of the points, which are not judged
abbrev pub held_by : Source → Scale → Segments
held_by Points s = of_points s
held_by Platinum s = unused Platinum s.step

abbrev pub segments_of : Scale → Segments
segments_of s = held_by s.source s

-- ---- the reading by segments

-- the line that starts at (x0, y0) and rises so far over a run is at x the exact fraction (y0 run + (x - x0) rise) / run; as one
-- whole it is rounded to the nearest whole number
unfoldable pub along : (x0 y0 rise run x : ℤ) → ℤ
along x0 y0 rise run x = nearest (y0 *ℤ run +ℤ (x -ℤ x0) *ℤ rise) (nat_abs run)

-- the line of segment k
abbrev pub along_at : (inputs displays rises runs : List ℤ) → ℕ → ℤ → ℤ
along_at inputs displays rises runs k x = along (point inputs k) (point displays k) (point rises k) (point runs k) x

-- an input beyond ±99,999 is Over or Under. Any other is read on its segment: the first whose right end, where the next one starts, is
-- not below it, and the last in use where none is
unfoldable pub read_on : (inputs displays rises runs : List ℤ) → ℕ → ℤ → ℤ → Reading
read_on inputs displays rises runs last step x =
    cond (lt_z (pos 99999) x) Over
    (cond (lt_z x (minus 99999)) Under
    (displayed (nat_abs step) (along_at inputs displays rises runs (first_from inputs x 0 last) x)))

-- or by the source that is no scale
abbrev pub read_by : Source → (inputs displays rises runs : List ℤ) → ℕ → ℤ → ℤ → Reading
read_by source inputs displays rises runs last step x = by_source source (read_on inputs displays rises runs last step) step x

abbrev pub read : Segments → ℤ → Reading
read s x = read_by s.source s.inputs s.displays s.rises s.runs s.last s.step x

-- ---- what reading leans on: a step of 1 to 100, a last segment that has a place, and at every place a run of 1 to 199,998, which is what
-- lies between the ends of the input range, and a rise of no more than that either way. A start may be any number

abbrev pub segment_in : (rise run : ℤ) → Bool
segment_in rise run = within (pos 1) (pos 199998) run && within (minus 199998) (pos 199998) rise

abbrev pub segment_at : (rises runs : List ℤ) → ℕ → Bool
segment_at rises runs k = segment_in (point rises k) (point runs k)

abbrev pub segments_in : (rises runs : List ℤ) → Bool
segments_in rises runs = up_to (segment_at rises runs) places

unfoldable pub tested : (step : ℤ) (last : ℕ) (rises runs : List ℤ) → Bool
tested step last rises runs = within (pos 1) (pos 100) step && ltb last places && segments_in rises runs

abbrev pub can_scale : Segments → Bool
can_scale s = tested s.step s.last s.rises s.runs

-- the same by its parts: of the segments, of a line of one, and of an input that is scaled
pub record Readable (rises runs : List ℤ) (last : ℕ) (step : ℤ) : Type 0 where
  pub last_in : last < places
  pub each_in : (k : ℕ) → k < places → segment_at rises runs k ≡ true
  pub step_in : within (pos 1) (pos 100) step ≡ true

pub record Line (rise run x : ℤ) : Type 0 where
  pub segment : segment_in rise run ≡ true
  pub input : in_input x ≡ true
