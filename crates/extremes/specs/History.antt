-- What can happen to a max or a min, and what it is after it.
use Rattle.std.specs.Prelude.{List, [], ◌∷◌, ℤ}
use Rattle.reading.specs.declared.Reading.{Reading}
use Rattle.reading.specs.declared.Reading.TheVariants.{Nothing, Number}
use Rattle.extremes.specs.declared.Side.{Side}
use Rattle.extremes.specs.declared.Extreme.{Extreme}
use Rattle.extremes.specs.Extremes.{sampled, reset}

-- a sample, or a reset with the present reading
pub data Event : Type 0 where
  sample : Reading → Event
  reset_key : Reading → Event

-- since power-up, the events newest first
unfoldable pub held : Side → ℤ → List Event → Extreme
held side capture [] = reset Nothing
held side capture (sample r ∷ h) = sampled side capture (held side capture h) r
held side capture (reset_key r ∷ h) = reset r

-- samples that read numbers, newest first
unfoldable pub numbers : List ℤ → List Event
numbers [] = []
numbers (v ∷ vs) = sample (Number v) ∷ numbers vs
