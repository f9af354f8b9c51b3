-- What can happen to a total, and the total after it.
use Rattle.std.specs.Prelude.{Bool, true, false, List, [], ◌∷◌, ℤ, pos, ◌+ℤ◌}
use Rattle.reading.specs.declared.Reading.{Reading}
use Rattle.total.specs.declared.Totalizer.{Totalizer}
use Rattle.total.specs.declared.Total.{Total}
use Rattle.total.specs.Total.{reset, sampled, batched, sample_adds, batch_adds}

-- a sample, key 1 in a meter set for batch with the present reading, or a reset
pub data Event : Type 0 where
  sample : Reading → Event
  batch_key : Reading → Event
  reset_key : Event

abbrev pub step : Totalizer → Total → Event → Total
step s t (sample r) = sampled s t r
step s t (batch_key r) = batched s t r
step s t reset_key = reset

-- the total after some events, newest first
unfoldable pub from : Totalizer → Total → List Event → Total
from s t [] = t
from s t (e ∷ h) = step s (from s t h) e

-- and since power-up
abbrev pub after : Totalizer → List Event → Total
after s h = from s reset h

-- no event is a reset
unfoldable pub no_reset : List Event → Bool
no_reset [] = true
no_reset (sample r ∷ h) = no_reset h
no_reset (batch_key r ∷ h) = no_reset h
no_reset (reset_key ∷ h) = false

-- what the events since the last reset add, all together
unfoldable pub added_since : Totalizer → List Event → ℤ
added_since s [] = pos 0
added_since s (sample r ∷ h) = added_since s h +ℤ sample_adds s r
added_since s (batch_key r ∷ h) = added_since s h +ℤ batch_adds s r
added_since s (reset_key ∷ h) = pos 0
