-- Readings, sides and what is kept, seen from the other side of zero.
use Rattle.std.specs.Prelude.{List, map, Option, None, Some, ℤ, neg_ℤ}
use Rattle.reading.specs.declared.Reading.{Reading}
use Rattle.reading.specs.declared.Reading.TheVariants.{Nothing, Under, Number, Over}
use Rattle.extremes.specs.declared.Side.{Side}
use Rattle.extremes.specs.declared.Side.TheVariants.{Max, Min}
use Rattle.extremes.specs.declared.Streak.{Streak}
use Rattle.extremes.specs.declared.Extreme.{Extreme}
use Rattle.extremes.specs.Extremes.{extreme, streak}
use Rattle.extremes.specs.History.{Event, sample, reset_key}

-- max for min, min for max
unfoldable pub other_side : Side → Side
other_side Max = Min
other_side Min = Max

-- Over for Under, and each number for its negation
unfoldable pub negated : Reading → Reading
negated Nothing = Nothing
negated Under = Over
negated (Number v) = Number (neg_ℤ v)
negated Over = Under

unfoldable pub negated_kept : Option ℤ → Option ℤ
negated_kept None = None
negated_kept (Some v) = Some (neg_ℤ v)

-- a run has as many readings from both sides
unfoldable pub negated_run : Option Streak → Option Streak
negated_run None = None
negated_run (Some s) = Some (streak s.readings (neg_ℤ s.nearest))

abbrev pub negated_extreme : Extreme → Extreme
negated_extreme e = extreme (negated_kept e.kept) (negated_run e.run)

unfoldable pub negated_event : Event → Event
negated_event (sample r) = sample (negated r)
negated_event (reset_key r) = reset_key (negated r)

abbrev pub negated_history : List Event → List Event
negated_history h = map negated_event h
