-- What holds of a reading whichever its source. Assumes nothing.
use mathlib.Core.Path.{◌≡◌, refl}
use mathlib.Core.Bool.{true}
use lib.IntN.{ℤ, pos, nat_abs}
use lib.Signed.{lt_z}
use Rattle.exact.specs.Exact.{to_step}
use Rattle.exact.proofs.Z.{either}
use Rattle.reading.specs.Reading.{judged, displayed, displayable}
use Rattle.reading.specs.declared.Reading.{Reading}
use Rattle.reading.specs.declared.Reading.TheVariants.{Under, Over}
use Rattle.reading.proofs.Laws.{judged_displayable}
use Rattle.platinum.specs.Platinum.{between, pair_of, sensed}
use Rattle.config.specs.declared.Source.{Source}
use Rattle.config.specs.declared.Source.TheVariants.{Points, Platinum}
use Rattle.source.specs.Source.{by_source}

-- what holds of what points read, of Over, of Under and of every number that is judged
pub by_source_lem : (P : Reading → Type 0) (source : Source) (points : ℤ → Reading) (step x : ℤ) → P (points x) → P Over → P Under → ((v : ℤ) → P (judged v)) → P (by_source source points step x)
unfolding sensed displayed
by_source_lem P Points points step x p o u j = p
by_source_lem P Platinum points step x p o u j =
    either P (lt_z (pos 390481) x) o (either P (lt_z x (pos 18520)) u (j (to_step (between (pair_of x) x) (nat_abs step))))

-- it can be displayed
pub source_displayable : (source : Source) (points : ℤ → Reading) (step x : ℤ) → displayable (points x) ≡ true → displayable (by_source source points step x) ≡ true
unfolding displayable
source_displayable source points step x p = by_source_lem (λ (r : Reading). displayable r ≡ true) source points step x p refl refl judged_displayable
