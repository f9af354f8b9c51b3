-- VJ, as document 01 says it, and that nothing else is what it makes. Assumes nothing.
use native.Mathlib.Omega.{arith}
use mathlib.Core.Path.{◌≡◌, refl, sym, ap, ◌∙◌}
use mathlib.Core.Bool.{true, false}
use mathlib.Core.List.{List}
use Prim.Native.Nat.{ℕ, ◌/◌, ◌%◌}
use lib.Dec.{eqb}
use lib.IntN.{ℤ}
use Rattle.alarm.specs.declared.Alarm.{Alarm}
use Rattle.alarms.specs.Alarms.{bit, on_bits}
use Rattle.alarms.proofs.Laws as alarms
use Rattle.config.specs.declared.Working.{Working}
use Rattle.measured.specs.declared.Measured.{Measured}
use Rattle.outputs.specs.Outputs.{status}
use Rattle.outputs.specs.declared.Mode.{Mode}
use Rattle.instrument.specs.Instrument.{write_status}
use Rattle.instrument.specs.Meaning.{ToManual, ToAutomatic}
use Rattle.instrument.specs.declared.Instrument.{Instrument}

module _ (w : Working) (i : Instrument) (b : ℕ) where
  -- with bit 4 set only mode and status change
  pub to_manual : bit b 4 ≡ true → ToManual b i (write_status w i b)
  unfolding status write_status
  to_manual e = rw e (record { measured = refl; alarms = refl; code = refl; mode = refl; status = refl })

  -- with bit 4 clear every alarm whose bit is 1 stays as it is and every other is reset, and the code is worked out at once
  pub to_automatic : bit b 4 ≡ false → ToAutomatic w b i (write_status w i b)
  unfolding status write_status
  to_automatic e =
      rw e (record { measured = refl; alarms = alarms.reset_by_bits_is b i.alarms; code = refl; mode = refl; status = refl })

  -- bits 5 to 7 make no difference
  pub upper_bits : write_status w i b ≡ write_status w i (b % 32)
  unfolding write_status
  upper_bits = rw (alarms.upper_bits b i.alarms, fourth (b / 16 % 2) (b % 32 / 16 % 2) (omega arith), manual)
    where
      fourth : (m n : ℕ) → m ≡ n → eqb m 1 ≡ eqb n 1
      fourth m n e = ap (λ (k : ℕ). eqb k 1) e

      manual : b % 16 ≡ b % 32 % 16
      manual = omega arith

-- ---- nothing else is what VJ makes

abbrev made : Measured → List Alarm → ℤ → Mode → ℕ → Instrument
made m l code mode s = record { measured = m; alarms = l; outputs = record { code = code; mode = mode; status = s } }

-- two instruments with the same parts are the same
same : {i n : Instrument} → i.measured ≡ n.measured → i.alarms ≡ n.alarms → i.outputs.code ≡ n.outputs.code → i.outputs.mode ≡ n.outputs.mode → i.outputs.status ≡ n.outputs.status → i ≡ n
same {i} {n} m l c o s =
    let parts : made i.measured i.alarms i.outputs.code i.outputs.mode i.outputs.status ≡ made n.measured n.alarms n.outputs.code n.outputs.mode n.outputs.status = cc in
    parts

module _ (w : Working) (i n : Instrument) (b : ℕ) where
  -- what ToManual says fixes the instrument
  pub to_manual_only : bit b 4 ≡ true → ToManual b i n → n ≡ write_status w i b
  to_manual_only e u =
      let v = to_manual w i b e in
      same (u.measured ∙ sym v.measured) (u.alarms ∙ sym v.alarms) (u.code ∙ sym v.code) (u.mode ∙ sym v.mode) (u.status ∙ sym v.status)

  -- and so does what ToAutomatic says
  pub to_automatic_only : bit b 4 ≡ false → ToAutomatic w b i n → n ≡ write_status w i b
  to_automatic_only e u =
      let v = to_automatic w i b e in
      let l = alarms.reset_by_bits_only b i.alarms n.alarms u.alarms ∙ sym (alarms.reset_by_bits_only b i.alarms _ v.alarms) in
      same (u.measured ∙ sym v.measured) l (u.code ∙ sym v.code) (u.mode ∙ sym v.mode) (u.status ∙ ap on_bits l ∙ sym v.status)
