-- What a completed run gives, said from the history alone.
use Rattle.std.specs.Prelude.{◌≡◌, true, false, cond, List, ◌∷◌, ◌++◌, Option, None, Some, ◌≢◌, ℕ, ◌≤◌, ◌<◌, ℤ, length}
use Rattle.reading.specs.declared.Reading.{Reading}
use Rattle.reading.specs.declared.Reading.TheVariants.{Number}
use Rattle.run.specs.Run.{samples}
use Rattle.extremes.specs.declared.Side.{Side}
use Rattle.extremes.specs.declared.Extreme.{Extreme}
use Rattle.extremes.specs.Extremes.{extreme, streak, taken, beyond}
use Rattle.extremes.specs.History.{Event, sample, held, numbers}

-- v is one of some numbers
pub data OneOf (v : ℤ) : List ℤ → Type 0 where
  here : (vs : List ℤ) → OneOf v (v ∷ vs)
  further : (w : ℤ) (vs : List ℤ) → OneOf v vs → OneOf v (w ∷ vs)

-- each of some numbers lies beyond k
abbrev pub EachBeyond : Side → ℤ → List ℤ → Type 0
EachBeyond side k vs = (w : ℤ) → OneOf w vs → beyond side w k ≡ true

-- v is the closest of some numbers to what is kept: one of them, and no one of them lies nearer, so that v is beyond none
pub record Closest (side : Side) (v : ℤ) (vs : List ℤ) : Type 0 where
  pub one_of : OneOf v vs
  pub none_nearer : (w : ℤ) → OneOf w vs → beyond side v w ≡ false

-- the newest n samples of a history are a run: they read numbers beyond k, which was kept with no run before the first of them; v is the
-- closest of these n
pub record Ran (side : Side) (capture : ℤ) (h : List Event) (k : ℤ) (n : ℕ) (v : ℤ) : Type 0 where
  pub readings : List ℤ
  pub before : List Event
  pub newest : h ≡ numbers readings ++ before
  pub none_before : held side capture before ≡ extreme (Some k) None
  pub each_beyond : EachBeyond side k readings
  pub so_many : length readings ≡ n
  pub closest : Closest side v readings

-- each number beyond the kept one taken at once, as the rule for a count of 1 always was
abbrev pub at_once : Side → Option ℤ → ℤ → Extreme
at_once side None v = taken v
at_once side (Some k) v = cond (beyond side v k) (taken v) (extreme (Some k) None)

-- document 02's rule, for max and for min, with any capture time, after any history since power-up
pub record Takes (side : Side) (capture : ℤ) (h : List Event) : Type 0 where
  -- where a sample changes the number that is kept, it completes a run, of exactly as many readings as the capture time counts, and
  -- what is taken is the closest of them
  pub takes : (r : Reading) (k t : ℤ) → (held side capture h).kept ≡ Some k → (held side capture (sample r ∷ h)).kept ≡ Some t → t ≢ k → Ran side capture (sample r ∷ h) k (samples capture) t
  -- and where so many readings are a run, the closest of them is taken
  pub completes : (k t : ℤ) → Ran side capture h k (samples capture) t → held side capture h ≡ taken t
  -- with fewer nothing is taken: k stays, and the run remembers how many they are and the closest of them
  pub waits : (k v : ℤ) (n : ℕ) → Ran side capture h k n v → n < samples capture → held side capture h ≡ extreme (Some k) (Some (streak n v))
  -- nor does a run remember anything else
  pub remembers : (kept : Option ℤ) (v : ℤ) (n : ℕ) → held side capture h ≡ extreme kept (Some (streak n v)) → (k : ℤ) × (kept ≡ Some k) × Ran side capture h k n v
  -- with a count of 2 or more no reading is taken that lies alone: whichever one of a run is left out, there are others, and what is taken
  -- is no farther out than any of them
  pub not_alone : (k t : ℤ) (run : Ran side capture h k (samples capture) t) → 2 ≤ samples capture → (newer older : List ℤ) (v : ℤ) → run.readings ≡ newer ++ v ∷ older → (1 ≤ length (newer ++ older)) × ((w : ℤ) → OneOf w (newer ++ older) → beyond side t w ≡ false)
  -- with a count of 1 each number beyond the kept one is taken at once, as before
  pub one_sample : (v : ℤ) → samples capture ≡ 1 → held side capture (sample (Number v) ∷ h) ≡ at_once side (held side capture h).kept v
