-- The status that is stored is the one that is gathered: power-up makes it so, and whatever changes an instrument leaves it so.
-- Assumes nothing.
use mathlib.Core.Path.{refl, sym, ap, ◌∙◌}
use mathlib.Core.List.{List}
use Prim.Native.Nat.{ℕ}
use lib.Dec.{eqb}
use lib.IntN.{ℤ}
use Rattle.exact.proofs.Z.{either}
use Rattle.register.specs.Registers.{at}
use Rattle.reading.specs.declared.Reading.{Reading}
use Rattle.alarm.specs.declared.Alarm.{Alarm}
use Rattle.alarms.specs.Alarms.{bit, on_bits}
use Rattle.alarms.proofs.Bits.{written_bits}
use Rattle.config.specs.declared.Working.{Working}
use Rattle.measured.specs.declared.Measured.{Measured}
use Rattle.outputs.specs.Outputs.{status}
use Rattle.outputs.specs.Meaning.{IsStatus}
use Rattle.outputs.proofs.Driven.{status_is}
use Rattle.outputs.proofs.Laws.{automatic_bits, manual_bits}
use Rattle.instrument.specs.Instrument.{with_measured, with_reset, alarm_of, powered_up, sampled, reset_register, reset_alarms, batched, write_register, write_status}
use Rattle.instrument.specs.Meaning.{StatusKept}
use Rattle.instrument.specs.declared.Instrument.{Instrument}

-- power-up: no alarm is on
pub powered_up_kept : (setpoints : List ℤ) → StatusKept (powered_up setpoints)
unfolding status on_bits
powered_up_kept setpoints = record { stored = refl; bits = automatic_bits }

module _ (w : Working) (i : Instrument) (p : StatusKept i) where
  -- another measured part leaves it
  with_measured_kept : (m : Measured) → StatusKept (with_measured i m)
  with_measured_kept m = record { stored = p.stored; bits = p.bits }

  -- alarms that were reset store it anew
  with_reset_kept : (l : List Alarm) → StatusKept (with_reset i l)
  with_reset_kept l = record { stored = refl; bits = p.bits }

  -- a sample stores it anew
  pub sampled_kept : (r : Reading) → StatusKept (sampled w i r)
  sampled_kept r = record { stored = refl; bits = p.bits }

  -- key 1
  pub batched_kept : StatusKept (batched w i)
  batched_kept = with_measured_kept _

  -- key 5
  pub reset_alarms_kept : StatusKept (reset_alarms w i)
  reset_alarms_kept = with_reset_kept _

  -- R
  pub reset_register_kept : (r : ℕ) → StatusKept (reset_register w i r)
  unfolding reset_register
  reset_register_kept r =
      either StatusKept (eqb r (at "B")) (with_measured_kept _)
      (either StatusKept (eqb r (at "C")) (with_measured_kept _)
      (either StatusKept (eqb r (at "D")) (with_measured_kept _) (with_reset_kept _)))

  -- V of a code, which is no part of it, and of a setpoint, which leaves every alarm's state
  pub write_register_kept : (r : ℕ) (z : ℤ) → StatusKept (write_register w i r z)
  unfolding write_register
  write_register_kept r z =
      either StatusKept (eqb r (at "I")) (record { stored = p.stored; bits = p.bits })
      (record { stored = p.stored ∙ ap (status i.outputs.mode) (sym (written_bits i.alarms (alarm_of r) z)); bits = p.bits })

  -- VJ stores it anew
  pub write_status_kept : (b : ℕ) → StatusKept (write_status w i b)
  unfolding write_status
  write_status_kept b =
      either StatusKept (bit b 4) (record { stored = refl; bits = manual_bits i.outputs (on_bits i.alarms) b })
      (record { stored = refl; bits = automatic_bits })

-- so its bits say which outputs are driven, and whether the mode is manual
pub kept_is : (i : Instrument) → StatusKept i → IsStatus i.outputs.mode i.alarms i.outputs.status
kept_is i p = rw p.stored (status_is i.outputs.mode i.alarms p.bits)
