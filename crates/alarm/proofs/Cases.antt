-- The worked cases, all of them by one computation. Assumes nothing.
use mathlib.Core.Path.{◌≡◌, refl}
use mathlib.Core.List.{map}
use Rattle.run.specs.Run.{samples, counted}
use Rattle.alarm.specs.Alarm.{above, below, at_most, at_least, on_condition, off_condition, awaited, delay, moved, sampled}
use Rattle.alarm.specs.Cases.{after, cases, outcome}

-- each case comes to what it says
pub cases_hold : map outcome cases ≡ map (λ k. k.last) cases
unfolding samples counted above below at_most at_least on_condition off_condition awaited delay moved sampled after cases
cases_hold = refl
