-- V and R of one register, as document 01 says them. Assumes nothing.
use borrow.Author.Tests.{ne_eqb}
use native.Mathlib.Omega.{arith}
use mathlib.Core.Path.{◌≡◌, refl, ap, ◌∙◌}
use Prim.Native.Nat.{ℕ, ◌+◌, ◌<◌}
use lib.Dec.{eqb}
use lib.IntN.{ℤ}
use lib.ListN.{length}
use Rattle.exact.proofs.Z.{either}
use Rattle.register.specs.Registers.{at}
use Rattle.alarm.specs.Alarm.{alarm, reset}
use Rattle.alarms.specs.Alarms.{alarm_at, reset_at, written_at, setpoint_of}
use Rattle.alarms.proofs.Laws as alarms
use Rattle.config.specs.declared.Working.{Working}
use Rattle.outputs.specs.Outputs.{write_code}
use Rattle.instrument.specs.Instrument.{with_alarms, with_reset, with_outputs, alarm_of, reset_register, write_register}
use Rattle.instrument.specs.Meaning.{gathered, OneAlarm}
use Rattle.instrument.specs.declared.Instrument.{Instrument}

-- ---- one alarm

module _ (w : Working) (i : Instrument) (k : ℕ) (h : k < 4) where
  -- the k-th register from E is alarm k's
  own : alarm_of (at "E" + k) ≡ k
  own = omega arith

  pub reset_is : reset_register w i (at "E" + k) ≡ with_reset i (reset_at i.alarms k)
  unfolding reset_register
  reset_is =
      rw (
        ne_eqb (at "E" + k) (at "B") (λ e. omega arith),
        ne_eqb (at "E" + k) (at "C") (λ e. omega arith),
        ne_eqb (at "E" + k) (at "D") (λ e. omega arith),
        own,
      )

  -- for V as for R
  pub write_is : (z : ℤ) → write_register w i (at "E" + k) z ≡ with_alarms i (written_at i.alarms k z)
  unfolding write_register
  write_is z = rw (ne_eqb (at "E" + k) (at "I") (λ e. omega arith), own)

  -- a setpoint's present value changes nothing
  pub present_setpoint : write_register w i (at "E" + k) (setpoint_of i.alarms k) ≡ i
  present_setpoint = write_is (setpoint_of i.alarms k) ∙ ap (with_alarms i) (alarms.present_setpoint i.alarms k)

  module _ (all : length i.alarms ≡ 4) where
    -- RE to RH reset one alarm, in either mode, and store the status that is gathered then; all else stands
    pub reset_one : let n = reset_register w i (at "E" + k) in OneAlarm i n k (reset (alarm_at i.alarms k)) (gathered n)
    reset_one = rw reset_is (record { measured = refl; alarms = alarms.reset_one i.alarms k all h; code = refl; mode = refl; status = refl })

    -- a new setpoint makes that alarm's run 0 and leaves its state and all else
    pub new_setpoint : (z : ℤ) → (z ≡ setpoint_of i.alarms k → ⊥) → OneAlarm i (write_register w i (at "E" + k) z) k (alarm z (alarm_at i.alarms k).on 0) i.outputs.status
    new_setpoint z n =
        rw (write_is z) (record { measured = refl; alarms = alarms.new_setpoint i.alarms k all h z n; code = refl; mode = refl; status = refl })

-- ---- the analog register

-- a written code is the only change
pub write_code_only : (w : Working) (i : Instrument) (z : ℤ) → write_register w i (at "I") z ≡ with_outputs i (write_code i.outputs z)
unfolding write_register
write_code_only w i z = refl

-- ---- what R leaves, whatever the register

-- the reading, the code and the mode stand
pub reset_leaves : (w : Working) (i : Instrument) (r : ℕ)
    → ((reset_register w i r).measured.reading ≡ i.measured.reading) × ((reset_register w i r).outputs.code ≡ i.outputs.code) × ((reset_register w i r).outputs.mode ≡ i.outputs.mode)
unfolding reset_register
reset_leaves w i r =
    let stands : Instrument → Type 0 = λ n. (n.measured.reading ≡ i.measured.reading) × (n.outputs.code ≡ i.outputs.code) × (n.outputs.mode ≡ i.outputs.mode) in
    either stands (eqb r (at "B")) (refl, refl, refl)
    (either stands (eqb r (at "C")) (refl, refl, refl)
    (either stands (eqb r (at "D")) (refl, refl, refl) (refl, refl, refl)))
