-- A worked case of segments: three points in use and thirteen behind them, computed over the definition. Assumes nothing.
use mathlib.Core.Path.{◌≡◌, refl}
use mathlib.Core.List.{◌∷◌}
use lib.IntN.{pos}
use lib.ListN.{replicate}
use Rattle.exact.specs.Sign.{minus}
use Rattle.config.specs.declared.Scale.{Scale}
use Rattle.config.specs.declared.Source.TheVariants.{Points}
use Rattle.segments.specs.Segments.{listed, segments_of}
use Rattle.segments.specs.declared.Segments.{Segments}

-- up by 100 over 10, and down by 150 over 30
abbrev pub corner : Scale
corner =
    record {
      source = Points;
      step = pos 1;
      count = pos 3;
      inputs = pos 5 ∷ pos 15 ∷ pos 45 ∷ replicate 13 (pos 7);
      displays = pos 0 ∷ pos 100 ∷ minus 50 ∷ replicate 13 (pos 7);
    }

abbrev held : Segments
held =
    record {
      source = Points;
      step = pos 1;
      last = 1;
      inputs = pos 5 ∷ pos 15 ∷ replicate 13 (pos 0);
      displays = pos 0 ∷ pos 100 ∷ replicate 13 (pos 0);
      rises = pos 100 ∷ minus 150 ∷ replicate 13 (pos 0);
      runs = pos 10 ∷ pos 30 ∷ replicate 13 (pos 1);
    }

pub case_holds : segments_of corner ≡ held
unfolding listed
case_holds = refl
