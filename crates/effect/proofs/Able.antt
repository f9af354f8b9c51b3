-- Settings and instrument that pass the test have what carrying out leans on. Assumes nothing.
use mathlib.Core.Path.{◌≡◌}
use mathlib.Core.Bool.{true, not, ◌&&◌}
use lib.IntN.{pos}
use Rattle.exact.specs.Sign.{eq_z, within}
use Rattle.exact.proofs.Z.{both, turned_true}
use Rattle.total.specs.Total.{Timed}
use Rattle.config.specs.Config.{node_rule, places_rule}
use Rattle.config.specs.declared.Talking.{Talking}
use Rattle.config.specs.declared.Working.{Working}
use Rattle.instrument.specs.Instrument as instruments
use Rattle.instrument.specs.declared.Instrument.{Instrument}
use Rattle.instrument.proofs.Soundness as soundness
use Rattle.effect.specs.Able.{can_talk, can_work, able, Able}

-- the time base, which the test of the instrument leans on itself
pub timed : (t : Talking) (w : Working) → (can_talk t && can_work w) ≡ true → Timed w.totalizer
timed t w e =
    record {
      base_in = (both (within (pos 1) (pos 86400) w.totalizer.time_base) (not (eq_z w.analog.low w.analog.high)) (both (can_talk t) (can_work w) e).1).0;
    }

module _ (t : Talking) (w : Working) (i : Instrument) where
  pub tested : able t w i ≡ true → Able t w i
  unfolding able
  tested e =
      let parts = both (can_talk t && can_work w) (instruments.sound w i) e in
      let settings = both (can_talk t) (can_work w) parts.0 in
      let talk = both (node_rule t.node) (places_rule t.places) settings.0 in
      let work = both (within (pos 1) (pos 86400) w.totalizer.time_base) (not (eq_z w.analog.low w.analog.high)) settings.1 in
      record {
        node = talk.0;
        places = talk.1;
        timed = timed t w parts.0;
        differ = turned_true (eq_z w.analog.low w.analog.high) work.1;
        instrument = soundness.tested w i parts.1;
      }
