-- One input by both sources: two scales that differ in nothing else. Assumes nothing.
use mathlib.Core.Path.{◌≡◌, refl}
use mathlib.Core.List.{◌∷◌}
use lib.IntN.{pos}
use lib.ListN.{replicate}
use Rattle.exact.specs.Sign.{minus}
use Rattle.exact.specs.Exact.{half_up, nearest, to_step}
use Rattle.reading.specs.Reading.{first_from, segment, on_line, judged, displayed, reading_of}
use Rattle.reading.specs.declared.Reading.TheVariants.{Number, Over}
use Rattle.platinum.specs.Table.{resistances}
use Rattle.platinum.specs.Platinum.{tenths_at, sensed}
use Rattle.config.specs.declared.Scale.{Scale}
use Rattle.config.specs.declared.Source.{Source}
use Rattle.config.specs.declared.Source.TheVariants.{Points, Platinum}
use Rattle.source.specs.Source.{reading_by}

-- two points in use, (0, 0) and (10, 1), and a step of 10
abbrev scale : Source → Scale
scale source =
    record { source = source; step = pos 10; count = pos 2; inputs = pos 0 ∷ pos 10 ∷ replicate 14 (pos 0); displays = pos 0 ∷ pos 1 ∷ replicate 14 (pos 0) }

-- 18,737 is 1,873.7 by the points and -199.499.. degrees of the sensor; 100,000 is past the input range of points and 0 degrees
pub by_points : (reading_by (scale Points) (pos 18737) ≡ Number (pos 1870)) × (reading_by (scale Points) (pos 100000) ≡ Over)
unfolding reading_of segment first_from on_line displayed judged to_step nearest half_up
by_points = (refl, refl)

pub by_sensor : (reading_by (scale Platinum) (pos 18737) ≡ Number (minus 2000)) × (reading_by (scale Platinum) (pos 100000) ≡ Number (pos 0))
unfolding sensed resistances tenths_at segment first_from on_line displayed judged to_step nearest half_up
by_sensor = (refl, refl)
