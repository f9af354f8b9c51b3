-- The worked cases, all of them by one computation. Assumes nothing.
use mathlib.Core.Path.{◌≡◌, refl}
use mathlib.Core.List.{map}
use Rattle.run.specs.Run.{samples, counted}
use Rattle.extremes.specs.Extremes.{beyond, moved, compared, sampled}
use Rattle.extremes.specs.Cases.{after, cases, outcome}

-- each case comes to what it says
pub cases_hold : map outcome cases ≡ map (λ k. k.last) cases
unfolding samples counted beyond moved compared sampled after cases
cases_hold = refl
