-- What the status comes to, said without its definition's way of working it out.
use Rattle.std.specs.Prelude.{◌≡◌, Bool, true, not, List, ℕ, ◌<◌, leb}
use Rattle.alarm.specs.declared.Alarm.{Alarm}
use Rattle.alarms.specs.Alarms.{alarm_at, bit}
use Rattle.outputs.specs.Outputs.{automatic, in_code}
use Rattle.outputs.specs.declared.Mode.{Mode}
use Rattle.outputs.specs.declared.Mode.TheVariants.{Automatic, Manual}
use Rattle.outputs.specs.declared.Outputs.{Outputs}

-- output k is driven: by alarm k in automatic mode, by bit k of the manual outputs in manual mode
abbrev pub driven : Mode → List Alarm → ℕ → Bool
driven Automatic l k = (alarm_at l k).on
driven (Manual bits) l k = bit bits k

-- the manual outputs are four bits
unfoldable pub bits_in : Mode → Bool
bits_in Automatic = true
bits_in (Manual bits) = leb bits 15

pub record IsStatus (mode : Mode) (l : List Alarm) (n : ℕ) : Type 0 where
  pub outputs : (k : ℕ) → k < 4 → bit n k ≡ driven mode l k
  pub manual : bit n 4 ≡ not (automatic mode)
  pub small : n < 32

pub record Sound (o : Outputs) : Type 0 where
  pub code : in_code o.code ≡ true
