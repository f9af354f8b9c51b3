-- The status number of a meter, over its whole history: what is stored is what gathering it anew would give.
use Rattle.std.specs.Prelude.{◌≡◌, pos}
use Rattle.register.specs.Registers.{at}
use Rattle.reading.specs.declared.Reading.TheVariants.{Number}
use Rattle.config.specs.declared.Config.{Config}
use Rattle.line.specs.Line.{line}
use Rattle.outputs.specs.Meaning.{IsStatus}
use Rattle.instrument.specs.Meaning as instruments
use Rattle.instrument.specs.declared.Instrument.{Instrument}
use Rattle.effect.specs.Reply.{style, read_reply}
use Rattle.looking.specs.History.{History, meter_after}

-- of an instrument
pub record StatusTrue (c : Config) (i : Instrument) : Type 0 where
  -- the alarms that are on, or in manual mode the manual bits, and 16 for manual
  pub gathered : i.outputs.status ≡ instruments.gathered i
  -- the same bit by bit: output k is driven, the mode is manual, and there is no other bit
  pub bits : IsStatus i.outputs.mode i.alarms i.outputs.status
  -- and T shows it
  pub shown : read_reply c.talking c.working i (at "J") ≡ line (style c.talking) (at "J") 0 (Number (pos (instruments.gathered i)))

-- after any history
abbrev pub StatusStored : Config → Type 0
StatusStored c = (h : History) → StatusTrue c (meter_after c h).instrument
