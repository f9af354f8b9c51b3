-- Soundness is kept: power-up gives a sound instrument, and whatever changes one leaves it sound. Each part's own laws are in its crate.
-- Assumes nothing.
use borrow.Author.Tests.{eqb-false}
use native.Mathlib.Omega.{arith}
use mathlib.Core.Path.{◌≡◌, refl, sym, ◌∙◌}
use mathlib.Core.Bool.{Bool, true, false, cond, ◌&&◌}
use mathlib.Core.List.{List}
use Prim.Native.Nat.{ℕ, ◌≤◌, ◌<◌}
use lib.Dec.{eqb}
use lib.IntN.{ℤ, pos}
use Rattle.exact.specs.Sign.{within}
use Rattle.exact.proofs.Z.{both, either}
use Rattle.register.specs.Registers.{entry, holds, at}
use Rattle.reading.specs.Reading.{in_display, displayable, point}
use Rattle.reading.specs.declared.Reading.{Reading}
use Rattle.alarm.specs.declared.Alarm.{Alarm}
use Rattle.alarm.specs.declared.Settings.{Settings}
use Rattle.alarms.specs.Alarms as alarms
use Rattle.alarms.specs.Meaning as alarms_by_part
use Rattle.alarms.proofs.Four.{each_of_four}
use Rattle.alarms.proofs.Soundness as alarms_sound
use Rattle.config.specs.Config.{judged, rules, alarm_rule, alarm_rule_at, alarms_rule, delay_in}
use Rattle.config.specs.declared.Config.{Config}
use Rattle.config.specs.Verdict.{Accepted}
use Rattle.config.specs.declared.Working.{Working}
use Rattle.config.proofs.Verdicts.{accepted}
use Rattle.measured.specs.Measured as measured
use Rattle.measured.specs.Sound as measured_by_part
use Rattle.measured.specs.declared.Measured.{Measured}
use Rattle.measured.proofs.Laws as measured_sound
use Rattle.outputs.specs.Outputs as outputs
use Rattle.outputs.specs.Meaning as outputs_by_part
use Rattle.outputs.specs.declared.Outputs.{Outputs}
use Rattle.outputs.proofs.Laws as outputs_sound
use Rattle.instrument.specs.Instrument.{with_measured, with_alarms, with_reset, with_outputs, alarm_of, powered_up, sampled, reset_register, reset_alarms, batched, write_register, write_status, sound}
use Rattle.instrument.specs.Meaning.{Sound}
use Rattle.instrument.specs.declared.Instrument.{Instrument}
use Rattle.instrument.proofs.Limits.{holds_is}

-- what holds of each of two where a test chooses it holds of the one that it chooses
pub chosen : {A : Type 0} (P : A → Type 0) (t : Bool) {x y : A} → (t ≡ true → P x) → (t ≡ false → P y) → P (cond t x y)
chosen P true f g = f refl
chosen P false f g = g refl

-- ---- the test and its parts

module _ (w : Working) (i : Instrument) where
  -- an instrument that passes the test has its parts sound
  pub tested : sound w i ≡ true → Sound w i
  unfolding sound
  tested e =
      let c = both (measured.sound w i.measured && alarms.sound i.alarms) (outputs.sound i.outputs) e in
      let b = both (measured.sound w i.measured) (alarms.sound i.alarms) c.0 in
      record {
        measured = measured_sound.tested w i.measured b.0;
        alarms = alarms_sound.tested i.alarms b.1;
        outputs = outputs_sound.tested i.outputs c.1;
      }

  -- and an instrument with sound parts passes it
  pub passes : Sound w i → sound w i ≡ true
  unfolding sound
  passes p =
      rw (
        measured_sound.passes w i.measured p.measured,
        alarms_sound.passes i.alarms p.alarms,
        outputs_sound.passes i.outputs p.outputs,
      )

-- ---- what changes an instrument leaves it sound

module _ (w : Working) (i : Instrument) (p : Sound w i) where
  -- another part that is sound
  pub with_measured_sound : (m : Measured) → measured_by_part.Sound w m → Sound w (with_measured i m)
  with_measured_sound m q = record { measured = q; alarms = p.alarms; outputs = p.outputs }

  pub with_alarms_sound : (l : List Alarm) → alarms_by_part.Sound l → Sound w (with_alarms i l)
  with_alarms_sound l q = record { measured = p.measured; alarms = q; outputs = p.outputs }

  pub with_outputs_sound : (o : Outputs) → outputs_by_part.Sound o → Sound w (with_outputs i o)
  with_outputs_sound o q = record { measured = p.measured; alarms = p.alarms; outputs = q }

  -- alarms that were reset
  with_reset_sound : (l : List Alarm) → alarms_by_part.Sound l → Sound w (with_reset i l)
  with_reset_sound l q =
      record { measured = p.measured; alarms = q; outputs = outputs_sound.alarms_reset_sound i.outputs p.outputs (alarms.on_bits l) }

  -- a sample whose reading can be displayed
  pub sampled_sound : (r : Reading) → displayable r ≡ true → Sound w (sampled w i r)
  sampled_sound r e =
      record {
        measured = measured_sound.sampled_sound w i.measured p.measured r e;
        alarms = alarms_sound.all_sampled_sound i.alarms p.alarms w.alarms r;
        outputs = outputs_sound.sampled_sound i.outputs p.outputs w _ r;
      }

  -- key 1
  pub batched_sound : Sound w (batched w i)
  batched_sound = with_measured_sound _ (measured_sound.batched_sound w i.measured p.measured)

  -- key 5
  pub reset_alarms_sound : Sound w (reset_alarms w i)
  reset_alarms_sound = with_reset_sound _ (alarms_sound.all_reset_sound i.alarms p.alarms)

  -- R of any register that it takes
  pub reset_register_sound : (r : ℕ) → r ≤ at "H" → Sound w (reset_register w i r)
  unfolding reset_register
  reset_register_sound r h =
      either (Sound w) (eqb r (at "B")) (with_measured_sound _ (measured_sound.reset_total_sound w i.measured p.measured))
      (either (Sound w) (eqb r (at "C")) (with_measured_sound _ (measured_sound.reset_max_sound w i.measured p.measured))
      (either (Sound w) (eqb r (at "D")) (with_measured_sound _ (measured_sound.reset_min_sound w i.measured p.measured))
      (with_reset_sound _ (alarms_sound.reset_at_sound i.alarms p.alarms (alarm_of r) (omega arith)))))

  -- V of a number that the register holds
  pub write_register_sound : (r : ℕ) (z : ℤ) → at "E" ≤ r → r ≤ at "I" → holds (entry r).written z ≡ true → Sound w (write_register w i r z)
  unfolding write_register
  write_register_sound r z l h e =
      let n = sym (holds_is r z l h) ∙ e in
      chosen (Sound w) (eqb r (at "I"))
      (λ t. with_outputs_sound _ (outputs_sound.write_code_sound i.outputs p.outputs z (rw t at n)))
      (λ t. with_alarms_sound _ (alarms_sound.written_at_sound i.alarms p.alarms (alarm_of r) z (index r h (eqb-false r (at "I") t)) (rw t at n)))
    where
      index : (r : ℕ) → r ≤ at "I" → (r ≡ at "I" → ⊥) → alarm_of r < 4
      index r h n = omega arith

  -- VJ
  pub write_status_sound : (b : ℕ) → Sound w (write_status w i b)
  unfolding write_status
  write_status_sound b =
      either (Sound w) (alarms.bit b 4) (with_outputs_sound _ (outputs_sound.to_manual_sound i.outputs p.outputs _ b))
      (record {
        measured = p.measured;
        alarms = alarms_sound.reset_by_bits_sound i.alarms p.alarms b;
        outputs = outputs_sound.to_automatic_sound w _ i.measured.reading;
      })

-- ---- power-up

setpoint_of : (z : ℤ) (s : Settings) → alarm_rule z s ≡ true → in_display z ≡ true
unfolding alarm_rule
setpoint_of z s e =
    let off = both (in_display z && within (pos 1) (pos 9999) s.hysteresis && delay_in s.on_delay) (delay_in s.off_delay) e in
    let on = both (in_display z && within (pos 1) (pos 9999) s.hysteresis) (delay_in s.on_delay) off.0 in
    (both (in_display z) (within (pos 1) (pos 9999) s.hysteresis) on.0).0

module _ (c : Config) (a : judged c ≡ Accepted) where
  -- rule 8 of an accepted configuration: its setpoints can be displayed
  setpoint_in : (k : ℕ) → k < 4 → in_display (point c.setpoints k) ≡ true
  unfolding rules alarms_rule
  setpoint_in =
      let t = alarm_rule_at c.setpoints c.working.alarms in
      let fourth = both (t 0 && t 1 && t 2) (t 3) (((accepted c).0 a).kept 7 (omega arith)) in
      let third = both (t 0 && t 1) (t 2) fourth.0 in
      let second = both (t 0) (t 1) third.0 in
      let of : (k : ℕ) → t k ≡ true → in_display (point c.setpoints k) ≡ true = λ k e. setpoint_of _ _ e in
      each_of_four (λ (k : ℕ). in_display (point c.setpoints k) ≡ true)
      (of 0 second.0) (of 1 second.1) (of 2 third.1) (of 3 fourth.1)

  -- an accepted configuration powers up a sound instrument
  pub powered_up_sound : Sound c.working (powered_up c.setpoints)
  powered_up_sound =
      record {
        measured = measured_sound.powered_up_sound c.working;
        alarms = alarms_sound.powered_up_sound c.setpoints setpoint_in;
        outputs = outputs_sound.powered_up_sound;
      }

  -- which passes the test
  pub powered_up_passes : sound c.working (powered_up c.setpoints) ≡ true
  powered_up_passes = passes c.working (powered_up c.setpoints) powered_up_sound

-- ---- the test is kept

module _ (w : Working) (i : Instrument) (e : sound w i ≡ true) where
  -- what leaves sound parts keeps the test
  kept : {n : Instrument} → (Sound w i → Sound w n) → sound w n ≡ true
  kept {n} f = passes w n (f (tested w i e))

  -- a sample whose reading can be displayed
  pub sampled_stays : (r : Reading) → displayable r ≡ true → sound w (sampled w i r) ≡ true
  sampled_stays r e = kept (λ p. sampled_sound w i p r e)

  -- key 1
  pub batched_stays : sound w (batched w i) ≡ true
  batched_stays = kept (batched_sound w i)

  -- key 5
  pub reset_alarms_stays : sound w (reset_alarms w i) ≡ true
  reset_alarms_stays = kept (reset_alarms_sound w i)

  -- R
  pub reset_register_stays : (r : ℕ) → r ≤ at "H" → sound w (reset_register w i r) ≡ true
  reset_register_stays r h = kept (λ p. reset_register_sound w i p r h)

  -- V of a number that the register holds
  pub write_register_stays : (r : ℕ) (z : ℤ) → at "E" ≤ r → r ≤ at "I" → holds (entry r).written z ≡ true → sound w (write_register w i r z) ≡ true
  write_register_stays r z l h e = kept (λ p. write_register_sound w i p r z l h e)

  -- VJ
  pub write_status_stays : (b : ℕ) → sound w (write_status w i b) ≡ true
  write_status_stays b = kept (λ p. write_status_sound w i p b)
