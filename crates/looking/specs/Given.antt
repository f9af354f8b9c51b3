-- What a kept list gives by demand 2's definitions, from power-up: no receiver, place or buffer occurs here.
use Rattle.std.specs.Prelude.{List, [], ◌∷◌}
use Rattle.config.specs.declared.Config.{Config}
use Rattle.instrument.specs.Instrument.{powered_up, read, sampled}
use Rattle.instrument.specs.declared.Instrument.{Instrument}
use Rattle.effect.specs.Effect as effects
use Rattle.effect.specs.Effect.{leaves}
use Rattle.looking.specs.Kept.{Entry, measured, pressed, told}

-- what one entry leaves: a sample, or the effect of a key or of a string, which the public calls carry out too
abbrev pub carry : Config → Instrument → Entry → Instrument
carry c i (measured x) = sampled c.working i (read c.scale x)
carry c i (pressed k) = leaves (effects.pressed c.talking c.working i k)
carry c i (told s) = leaves (effects.told c.talking c.working i s)

-- what a kept list, newest first, makes of a meter's power-up
abbrev pub given : Config → List Entry → Instrument
given c [] = powered_up c.setpoints
given c (k ∷ ks) = carry c (given c ks) k
