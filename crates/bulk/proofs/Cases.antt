-- Worked cases of reading in bulk, on a scale that goes up by 100 from 5 to 15 and down by 150 from there to 45, and of a platinum sensor.
-- Assumes nothing.
use mathlib.Core.Path.{◌≡◌, refl}
use mathlib.Core.List.{List, [], ◌∷◌}
use lib.IntN.{ℤ, pos}
use Rattle.exact.specs.Sign.{minus}
use Rattle.exact.specs.Exact.{half_up, nearest, to_step}
use Rattle.reading.specs.Reading.{up_to, segment, first_from, on_line, judged, displayed}
use Rattle.platinum.specs.Table.{resistances}
use Rattle.platinum.specs.Platinum.{tenths_at, sensed}
use Rattle.config.specs.declared.Source.TheVariants.{Platinum}
use Rattle.segments.specs.Segments.{listed, unused, no_segments, segments_of, along, read_on, tested}
use Rattle.segments.proofs.Cases.{corner}
use Rattle.bulk.specs.Bulk.{read_into, left}

-- at the points and between them, beyond both ends, past the display range, and past the input range
abbrev inputs : List ℤ
inputs = pos 5 ∷ pos 10 ∷ pos 15 ∷ pos 16 ∷ pos 0 ∷ pos 100 ∷ pos 4034 ∷ pos 4035 ∷ pos 100000 ∷ minus 100000 ∷ []

abbrev readings : List ℤ
readings = pos 0 ∷ pos 50 ∷ pos 100 ∷ pos 95 ∷ minus 50 ∷ minus 325 ∷ minus 19995 ∷ minus 20000 ∷ pos 100000 ∷ minus 20000 ∷ []

pub all_read : left (segments_of corner) inputs inputs ≡ readings
unfolding listed tested up_to read_into read_on along displayed judged first_from to_step nearest half_up
all_read = refl

-- more places than inputs, of which the last stay; more inputs than places; and a scale with nothing in it, where all stay
abbrev three : List ℤ
three = pos 5 ∷ pos 10 ∷ pos 15 ∷ []

pub some_stay : left (segments_of corner) three (pos 7 ∷ pos 7 ∷ pos 7 ∷ pos 8 ∷ pos 9 ∷ []) ≡ pos 0 ∷ pos 50 ∷ pos 100 ∷ pos 8 ∷ pos 9 ∷ []
unfolding listed tested up_to read_into read_on along displayed judged first_from to_step nearest half_up
some_stay = refl

pub as_many_as_fit : left (segments_of corner) three (pos 7 ∷ pos 7 ∷ []) ≡ pos 0 ∷ pos 50 ∷ []
unfolding listed tested up_to read_into read_on along displayed judged first_from to_step nearest half_up
as_many_as_fit = refl

pub none_read : left no_segments three (pos 7 ∷ pos 8 ∷ []) ≡ pos 7 ∷ pos 8 ∷ []
unfolding tested up_to
none_read = refl

-- a platinum sensor: past both ends, at them, and between the first two entries
abbrev ohms : List ℤ
ohms = pos 18519 ∷ pos 18520 ∷ pos 18736 ∷ pos 18952 ∷ pos 390482 ∷ []

pub ohms_read : left (unused Platinum (pos 1)) ohms ohms ≡ minus 20000 ∷ minus 2000 ∷ minus 1995 ∷ minus 1990 ∷ pos 100000 ∷ []
unfolding tested up_to read_into sensed resistances tenths_at segment first_from on_line displayed judged to_step nearest half_up
ohms_read = refl
