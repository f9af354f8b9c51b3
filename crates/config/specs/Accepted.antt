-- What an accepted configuration says of its scale.
use Rattle.std.specs.Prelude.{◌≡◌, true, false, pos, nat_abs}
use Rattle.exact.specs.Sign.{is_neg, within}
use Rattle.reading.specs.Reading.{Scalable}
use Rattle.config.specs.declared.Scale.{Scale}
use Rattle.config.specs.declared.Source.TheVariants.{Points}

-- a step of 1 to 100 and, where the reading comes from points, points that an input can be scaled by
pub record Measurable (s : Scale) : Type 0 where
  pub step_in : within (pos 1) (pos 100) s.step ≡ true
  pub counted : s.source ≡ Points → is_neg s.count ≡ false
  pub scalable : s.source ≡ Points → Scalable s.inputs s.displays (nat_abs s.count) s.step
