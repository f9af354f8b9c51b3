-- What keys, V and R come to, said without their definitions' way of working it out.
use Rattle.std.specs.Prelude.{◌≡◌, Bool, true, cond, ℕ, ◌+◌, ◌%◌, eqb, ℤ}
use Rattle.register.specs.Registers.{at}
use Rattle.reading.specs.Reading.{in_display}
use Rattle.alarm.specs.declared.Alarm.{Alarm}
use Rattle.alarms.specs.Alarms.{on_bits}
use Rattle.alarms.specs.Meaning as alarms
use Rattle.config.specs.declared.Working.{Working}
use Rattle.measured.specs.Measured as measured
use Rattle.measured.specs.Sound as measured_sound
use Rattle.outputs.specs.Outputs.{status, in_code, code_by}
use Rattle.outputs.specs.Meaning as outputs
use Rattle.outputs.specs.declared.Mode.TheVariants.{Automatic, Manual}
use Rattle.instrument.specs.Instrument.{with_measured, reset_register, reset_alarms}
use Rattle.instrument.specs.declared.Instrument.{Instrument}

-- ---- R by its letter, and keys 2 to 5, which act as the R strings do

pub record Keys (w : Working) (i : Instrument) : Type 0 where
  -- RB is what key 2 does, RC key 3, RD key 4
  pub total : reset_register w i (at "B") ≡ with_measured i (measured.reset_total i.measured)
  pub max : reset_register w i (at "C") ≡ with_measured i (measured.reset_max i.measured)
  pub min : reset_register w i (at "D") ≡ with_measured i (measured.reset_min i.measured)
  -- key 5 is RE, RF, RG and RH in turn
  pub alarms : reset_alarms w i ≡ reset_register w (reset_register w (reset_register w (reset_register w i (at "E")) (at "F")) (at "G")) (at "H")

-- ---- the numbers that V leaves in a register: an analog code in I, a number that can be displayed in E to H

abbrev pub number_in : ℕ → ℤ → Bool
number_in r z = cond (eqb r (at "I")) (in_code z) (in_display z)

-- ---- the status as it is gathered: the alarms that are on, or in manual mode the manual bits, and 16 for manual

abbrev pub gathered : Instrument → ℕ
gathered i = status i.outputs.mode (on_bits i.alarms)

-- the number that is stored is that one, and in manual mode four bits are driven. No test asks for it: power-up makes it so, and
-- whatever changes an instrument leaves it so
pub record StatusKept (i : Instrument) : Type 0 where
  pub stored : i.outputs.status ≡ gathered i
  pub bits : outputs.bits_in i.outputs.mode ≡ true

-- ---- V and R of one alarm, and VJ with byte b, make n of i

-- alarm k is a, the status that is stored is s, and all else stands
pub record OneAlarm (i n : Instrument) (k : ℕ) (a : Alarm) (s : ℕ) : Type 0 where
  pub measured : n.measured ≡ i.measured
  pub alarms : alarms.OneAlarm i.alarms n.alarms k a
  pub code : n.outputs.code ≡ i.outputs.code
  pub mode : n.outputs.mode ≡ i.outputs.mode
  pub status : n.outputs.status ≡ s

-- bit 4 set: only the mode changes, to manual with outputs 1 to 4 as bits 0 to 3, and the status with it
pub record ToManual (b : ℕ) (i n : Instrument) : Type 0 where
  pub measured : n.measured ≡ i.measured
  pub alarms : n.alarms ≡ i.alarms
  pub code : n.outputs.code ≡ i.outputs.code
  pub mode : n.outputs.mode ≡ Manual (b % 16)
  pub status : n.outputs.status ≡ 16 + b % 16

-- bit 4 clear: automatic mode; an alarm whose bit is 1 stays as it is, any other is reset; the code is that of the present reading,
-- and the status that of the alarms which are left on
pub record ToAutomatic (w : Working) (b : ℕ) (i n : Instrument) : Type 0 where
  pub measured : n.measured ≡ i.measured
  pub alarms : alarms.ByBits b i.alarms n.alarms
  pub code : n.outputs.code ≡ code_by w i.measured.reading
  pub mode : n.outputs.mode ≡ Automatic
  pub status : n.outputs.status ≡ on_bits n.alarms

-- ---- a sound instrument, by its parts

pub record Sound (w : Working) (i : Instrument) : Type 0 where
  pub measured : measured_sound.Sound w i.measured
  pub alarms : alarms.Sound i.alarms
  pub outputs : outputs.Sound i.outputs
