-- Power-up and every event leave a sound meter, by promises' laws for the calls.
use mathlib.Core.Path.{◌≡◌}
use mathlib.Core.Bool.{true}
use Rattle.config.specs.Config.{judged}
use Rattle.config.specs.declared.Config.{Config}
use Rattle.config.specs.Verdict.{Accepted}
use Rattle.meter.specs.Door.{sound}
use Rattle.meter.specs.Meter.{fresh}
use Rattle.meter.specs.declared.Meter.{Meter}
use Rattle.promises.proofs.StaysSound.{stays_sound}
use Rattle.looking.specs.History.{Event, sample, key, byte, outcome_of}

pub fresh_sound : (c : Config) → judged c ≡ Accepted → sound (fresh c) ≡ true
fresh_sound = stays_sound.fresh_sound

pub event_sound : (m : Meter) (e : Event) → sound m ≡ true → sound (outcome_of m e).meter ≡ true
event_sound m (sample x) ok = stays_sound.sampled_sound m x ok
event_sound m (key k place buffer) ok = stays_sound.keyed_sound m k buffer place ok
event_sound m (byte b place buffer) ok = stays_sound.received_sound m b buffer place ok
