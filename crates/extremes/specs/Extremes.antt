-- Max and min, as document 01 has them and document 02 corrects them (which reading of a run is taken): one definition, seen from two sides.
use Rattle.std.specs.Prelude.{Bool, cond, ◌&&◌, ℕ, ℤ, Option, None, Some}
use Rattle.std.specs.Int.Signed.{lt_z}
use Rattle.reading.specs.Reading.{displayable}
use Rattle.reading.specs.declared.Reading.{Reading}
use Rattle.reading.specs.declared.Reading.TheVariants.{Nothing, Under, Number, Over}
use Rattle.run.specs.Run.{samples, counted}
use Rattle.run.specs.declared.Run.{Run}
use Rattle.run.specs.declared.Run.TheVariants.{Broken, Going, Complete}
use Rattle.extremes.specs.declared.Side.{Side}
use Rattle.extremes.specs.declared.Side.TheVariants.{Max, Min}
use Rattle.extremes.specs.declared.Streak.{Streak}
use Rattle.extremes.specs.declared.Extreme.{Extreme}

abbrev pub extreme : Option ℤ → Option Streak → Extreme
extreme kept run = record { kept = kept; run = run }

-- a run of n readings, of which v is the nearest to what is kept
abbrev pub streak : ℕ → ℤ → Streak
streak n v = record { readings = n; nearest = v }

-- a number is taken: it is kept, and no run goes on
abbrev pub taken : ℤ → Extreme
taken v = extreme (Some v) None

-- no run goes on, and what is kept stays
abbrev pub ended : Extreme → Extreme
ended e = extreme e.kept None

-- v lies above a max, below a min
unfoldable pub beyond : Side → ℤ → ℤ → Bool
beyond Max v kept = lt_z kept v
beyond Min v kept = lt_z v kept

-- of two numbers beyond the kept one, the one nearer to it: above a max the lesser, below a min the greater
abbrev pub nearer : Side → ℤ → ℤ → ℤ
nearer side v w = cond (beyond side v w) w v

-- how many readings a run has
abbrev pub so_many : Option Streak → ℕ
so_many None = 0
so_many (Some s) = s.readings

-- of a run's readings and one more, the nearest to the kept number; the run remembers the nearest of those before
abbrev pub closest : Side → Option Streak → ℤ → ℤ
closest side None v = v
closest side (Some s) v = nearer side s.nearest v

-- a run of which v is the closest reading: one that goes on remembers it, one that is complete gives it to be kept
unfoldable pub moved : Extreme → ℤ → Run → Extreme
moved e v Broken = ended e
moved e v (Going n) = extreme e.kept (Some (streak n v))
moved e v Complete = taken v

-- a number: taken at once where none is kept, else by the run of successive samples beyond the kept one
against_kept : Side → ℤ → Extreme → ℤ → Option ℤ → Extreme
against_kept side capture e v None = taken v
against_kept side capture e v (Some k) = moved e (closest side e.run v) (counted (so_many e.run) (beyond side v k) (samples capture))

unfoldable pub compared : Side → ℤ → Extreme → ℤ → Extreme
unfolding against_kept
compared side capture e v = against_kept side capture e v e.kept

-- one sample; Over, Under and nothing end the run and are never taken
unfoldable pub sampled : Side → ℤ → Extreme → Reading → Extreme
sampled side capture e Nothing = ended e
sampled side capture e Under = ended e
sampled side capture e (Number v) = compared side capture e v
sampled side capture e Over = ended e

-- a reset takes the present reading if it is a number, else none, and clears the run
unfoldable pub reset : Reading → Extreme
reset Nothing = extreme None None
reset Under = extreme None None
reset (Number v) = taken v
reset Over = extreme None None

-- what is shown
shown_of : Option ℤ → Reading
shown_of None = Nothing
shown_of (Some v) = Number v

unfoldable pub shown : Extreme → Reading
unfolding shown_of
shown e = shown_of e.kept

-- what a run remembers
abbrev pub remembered : Option Streak → Reading
remembered None = Nothing
remembered (Some s) = Number s.nearest

-- what showing leans on: what is kept can be displayed, and what the run remembers, since that is kept once the run is complete
abbrev pub sound : Extreme → Bool
sound e = displayable (shown e) && displayable (remembered e.run)
