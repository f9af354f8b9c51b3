-- Which meter values are meters that were started, and which test an event has to pass.
use Rattle.std.specs.Prelude.{Bool, ◌&&◌, pos}
use Rattle.std.specs.Int.Signed.{lt_z}
use Rattle.segments.specs.Segments.{can_scale, Readable}
use Rattle.receiver.specs.declared.Kind.{Kind}
use Rattle.receiver.specs.declared.Kind.TheVariants.{End, Drop, Part}
use Rattle.instrument.specs.declared.Instrument.{Instrument}
use Rattle.effect.specs.Able.{able, Able}
use Rattle.meter.specs.declared.Held.{Held}
use Rattle.meter.specs.declared.Meter.{Meter}

-- a started meter has a rounding step, which every accepted configuration has and the value that a refusal leaves has not
abbrev pub started : Meter → Bool
started m = lt_z (pos 0) m.config.scale.step

-- settings and an instrument that scaling, counting and showing can lean on
abbrev pub workable : Held → Instrument → Bool
workable c i = can_scale c.scale && able c.talking c.working i

-- a sound meter has such
unfoldable pub sound : Meter → Bool
sound m = workable m.config m.instrument

-- what an event does: it works on the instrument, or it only goes into the receiver
pub data Reach : Type 0 where
  works : Reach
  hears : Reach

-- a string's end works, and so do samples and keys; a byte that is stored or drops a string does not
abbrev pub reach_of : Kind → Reach
reach_of End = works
reach_of Drop = hears
reach_of Part = hears

-- what works asks that the meter is sound, what only hears that it was started. A value that fails is a meter not started
abbrev pub door : Reach → Meter → Bool
door works m = sound m
door hears m = started m

-- ---- a sound meter by its parts: what the inner functions lean on

pub record Sound (m : Meter) : Type 0 where
  pub scale : Readable m.config.scale.rises m.config.scale.runs m.config.scale.last m.config.scale.step
  pub able : Able m.config.talking m.config.working m.instrument
