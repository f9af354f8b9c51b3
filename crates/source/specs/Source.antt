-- What makes a reading of an input: the line between scaling points, or the table of a platinum sensor. Nothing that is made of a reading
-- knows which of them it was.
use Rattle.std.specs.Prelude.{ℤ, nat_abs}
use Rattle.reading.specs.Reading.{reading_of}
use Rattle.reading.specs.declared.Reading.{Reading}
use Rattle.platinum.specs.Platinum.{sensed}
use Rattle.config.specs.declared.Scale.{Scale}
use Rattle.config.specs.declared.Source.{Source}
use Rattle.config.specs.declared.Source.TheVariants.{Points, Platinum}

-- by a source, from what points read and from the rounding step
abbrev pub by_source : Source → (ℤ → Reading) → (step : ℤ) → ℤ → Reading
by_source Points points step x = points x
by_source Platinum points step x = sensed step x

-- by the source, the points and the step of a configuration
abbrev pub reading_by : Scale → ℤ → Reading
reading_by s x = by_source s.source (reading_of s.inputs s.displays (nat_abs s.count) s.step) s.step x
