-- A meter that passes the test at the door has what the inner functions lean on. Assumes nothing.
use mathlib.Core.Path.{◌≡◌, sym, ◌∙◌}
use mathlib.Core.Bool.{Bool, true}
use Rattle.exact.proofs.Z.{both}
use Rattle.segments.specs.Segments.{can_scale}
use Rattle.segments.proofs.Scale.{scale_tested, scale_steps}
use Rattle.effect.specs.Able.{able}
use Rattle.effect.proofs.Able as abilities
use Rattle.meter.specs.Door.{started, workable, sound, Sound}
use Rattle.meter.specs.declared.Meter.{Meter}

module _ (m : Meter) (e : sound m ≡ true) where
  parts : (can_scale m.config.scale ≡ true) × (able m.config.talking m.config.working m.instrument ≡ true)
  unfolding sound
  parts = both (can_scale m.config.scale) (able m.config.talking m.config.working m.instrument) e

  pub tested : Sound m
  tested =
      record { scale = scale_tested m.config.scale parts.0; able = abilities.tested m.config.talking m.config.working m.instrument parts.1 }

  -- a sound meter was started
  pub sound_started : started m ≡ true
  sound_started = scale_steps m.config.scale parts.0

-- so has one of which the test answered yes
pub passed : (m : Meter) (answered : Bool) → answered ≡ workable m.config m.instrument → answered ≡ true → Sound m
unfolding sound
passed m answered e h = tested m (sym e ∙ h)
