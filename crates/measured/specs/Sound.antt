-- The same by its parts: what a sound measurement gives.
use Rattle.std.specs.Prelude.{◌≡◌, true}
use Rattle.reading.specs.Reading.{displayable}
use Rattle.total.specs.Total.{in_range}
use Rattle.extremes.specs.Extremes as extremes
use Rattle.config.specs.declared.Working.{Working}
use Rattle.measured.specs.declared.Measured.{Measured}

pub record Sound (w : Working) (m : Measured) : Type 0 where
  pub reading : displayable m.reading ≡ true
  pub max : extremes.sound m.max ≡ true
  pub min : extremes.sound m.min ≡ true
  -- what counting and showing the total require
  pub total : in_range w.totalizer m.total ≡ true
