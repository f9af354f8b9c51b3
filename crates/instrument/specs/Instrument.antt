-- What changes the instrument: samples, keys, V and R, as document 01 has them. It has three parts, and each part's own changes are
-- said in its crate. The settings go in whole, since a later rule may need more of them than today's.
use Rattle.std.specs.Prelude.{Bool, cond, ◌&&◌, List, ℕ, ◌-◌, eqb, ℤ}
use Rattle.register.specs.Registers.{at}
use Rattle.source.specs.Source.{reading_by}
use Rattle.reading.specs.declared.Reading.{Reading}
use Rattle.alarm.specs.declared.Alarm.{Alarm}
use Rattle.alarms.specs.Alarms as alarms
use Rattle.config.specs.declared.Scale.{Scale}
use Rattle.config.specs.declared.Working.{Working}
use Rattle.measured.specs.Measured as measured
use Rattle.measured.specs.declared.Measured.{Measured}
use Rattle.outputs.specs.Outputs as outputs
use Rattle.outputs.specs.declared.Mode.{Mode}
use Rattle.outputs.specs.declared.Outputs.{Outputs}
use Rattle.instrument.specs.declared.Instrument.{Instrument}

-- ---- parts, changed one at a time

abbrev pub with_measured : Instrument → Measured → Instrument
with_measured i m = record { measured = m; alarms = i.alarms; outputs = i.outputs }

abbrev pub with_alarms : Instrument → List Alarm → Instrument
with_alarms i l = record { measured = i.measured; alarms = l; outputs = i.outputs }

abbrev pub with_outputs : Instrument → Outputs → Instrument
with_outputs i o = record { measured = i.measured; alarms = i.alarms; outputs = o }

-- alarms as a reset leaves them, and the outputs that they drive
abbrev pub with_reset : Instrument → List Alarm → Instrument
with_reset i l = with_outputs (with_alarms i l) (outputs.alarms_reset i.outputs (alarms.on_bits l))

-- ---- power-up: no reading, a sum of 0, nothing kept, alarms off, automatic mode

abbrev pub powered_up : List ℤ → Instrument
powered_up setpoints = record { measured = measured.powered_up; alarms = alarms.powered_up setpoints; outputs = outputs.powered_up }

-- ---- a sample: reading, total, max and min, alarms, analog

-- the reading of an input on a scale, by its source. What a meter holds of it reads the same (`segments`)
abbrev pub read : Scale → ℤ → Reading
read s x = reading_by s x

abbrev pub sampled : Working → Instrument → Reading → Instrument
sampled w i r =
    let after = alarms.all_sampled w.alarms i.alarms r in
    record {
      measured = measured.sampled w i.measured r;
      alarms = after;
      outputs = outputs.sampled w i.outputs (alarms.on_bits after) r;
    }

-- ---- R, and keys 2 to 5, which act as the R strings do

-- the alarm of a setpoint's register: E is that of the first
abbrev pub alarm_of : ℕ → ℕ
alarm_of r = r - at "E"

-- RB makes sum and total 0, RC and RD let max and min take the present reading, RE to RH reset one alarm
unfoldable pub reset_register : Working → Instrument → ℕ → Instrument
reset_register w i r =
    cond (eqb r (at "B")) (with_measured i (measured.reset_total i.measured))
    (cond (eqb r (at "C")) (with_measured i (measured.reset_max i.measured))
    (cond (eqb r (at "D")) (with_measured i (measured.reset_min i.measured))
    (with_reset i (alarms.reset_at i.alarms (alarm_of r)))))

-- key 5 resets all alarms
abbrev pub reset_alarms : Working → Instrument → Instrument
reset_alarms w i = with_reset i (alarms.all_reset i.alarms)

-- ---- key 1 in a meter set for batch

abbrev pub batched : Working → Instrument → Instrument
batched w i = with_measured i (measured.batched w i.measured)

-- ---- V of a number that the register holds: I is the analog register, E to H are the setpoints

-- the analog register is shut in automatic mode
abbrev pub shut : Mode → ℕ → Bool
shut mode r = eqb r (at "I") && outputs.automatic mode

unfoldable pub write_register : Working → Instrument → ℕ → ℤ → Instrument
write_register w i r z =
    cond (eqb r (at "I")) (with_outputs i (outputs.write_code i.outputs z))
    (with_alarms i (alarms.written_at i.alarms (alarm_of r) z))

-- ---- VJ: bit 4 set, manual mode, and all else stands; bit 4 clear, automatic, and each alarm whose bit is 0 is reset

abbrev pub to_manual : Instrument → ℕ → Instrument
to_manual i b = with_outputs i (outputs.to_manual i.outputs (alarms.on_bits i.alarms) b)

abbrev pub to_automatic : Working → Instrument → List Alarm → Instrument
to_automatic w i l = with_outputs (with_alarms i l) (outputs.to_automatic w (alarms.on_bits l) i.measured.reading)

unfoldable pub write_status : Working → Instrument → ℕ → Instrument
write_status w i b = cond (alarms.bit b 4) (to_manual i b) (to_automatic w i (alarms.reset_by_bits b i.alarms))

-- ---- what showing and counting lean on: the least that has to hold of an instrument

unfoldable pub sound : Working → Instrument → Bool
sound w i = measured.sound w i.measured && alarms.sound i.alarms && outputs.sound i.outputs
