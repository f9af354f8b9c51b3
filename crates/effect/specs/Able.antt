-- What carrying out leans on: the least that has to hold of settings and instrument.
use Rattle.std.specs.Prelude.{◌≡◌, Bool, true, false, not, ◌&&◌, pos}
use Rattle.exact.specs.Sign.{eq_z, within}
use Rattle.total.specs.Total.{Timed}
use Rattle.config.specs.Config.{node_rule, places_rule}
use Rattle.config.specs.declared.Talking.{Talking}
use Rattle.config.specs.declared.Working.{Working}
use Rattle.instrument.specs.Instrument as instruments
use Rattle.instrument.specs.Meaning as instruments_by_part
use Rattle.instrument.specs.declared.Instrument.{Instrument}

-- a node and decimal places that a line can show
abbrev pub can_talk : Talking → Bool
can_talk t = node_rule t.node && places_rule t.places

-- a time base to divide by, and analog displays that differ
abbrev pub can_work : Working → Bool
can_work w = within (pos 1) (pos 86400) w.totalizer.time_base && not (eq_z w.analog.low w.analog.high)

unfoldable pub able : Talking → Working → Instrument → Bool
able t w i = can_talk t && can_work w && instruments.sound w i

-- ---- the same by its parts

pub record Able (t : Talking) (w : Working) (i : Instrument) : Type 0 where
  pub node : node_rule t.node ≡ true
  pub places : places_rule t.places ≡ true
  pub timed : Timed w.totalizer
  pub differ : eq_z w.analog.low w.analog.high ≡ false
  pub instrument : instruments_by_part.Sound w i
