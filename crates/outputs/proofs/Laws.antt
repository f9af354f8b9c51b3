-- Soundness of the outputs: the test and its parts, and that whatever changes them leaves them sound. Assumes nothing.
use borrow.Author.Tests.{le-leb}
use native.Mathlib.Omega.{arith}
use mathlib.Core.Path.{◌≡◌, refl}
use mathlib.Core.Bool.{true}
use Prim.Native.Nat.{ℕ, ◌%◌}
use lib.IntN.{ℤ}
use Rattle.reading.specs.declared.Reading.{Reading}
use Rattle.analog.proofs.Laws.{code_range}
use Rattle.config.specs.declared.Working.{Working}
use Rattle.outputs.specs.Outputs.{powered_up, coded, sampled, alarms_reset, in_code, write_code, to_manual, to_automatic, sound}
use Rattle.outputs.specs.Meaning.{bits_in, Sound}
use Rattle.outputs.specs.declared.Mode.{Mode}
use Rattle.outputs.specs.declared.Mode.TheVariants.{Automatic, Manual}
use Rattle.outputs.specs.declared.Outputs.{Outputs}

-- ---- the test and its parts

module _ (o : Outputs) where
  -- outputs that pass the test have their parts sound
  pub tested : sound o ≡ true → Sound o
  unfolding sound
  tested e = record { code = e }

  -- and outputs with sound parts pass it
  pub passes : Sound o → sound o ≡ true
  unfolding sound
  passes p = p.code

-- ---- what changes them leaves them sound

pub powered_up_sound : Sound powered_up
powered_up_sound = record { code = refl }

-- a code stays one, worked out or left standing
pub coded_in : (w : Working) (mode : Mode) (code : ℤ) (r : Reading) → in_code code ≡ true → in_code (coded w mode code r) ≡ true
unfolding coded
coded_in w Automatic code r e = code_range w.analog.low w.analog.high r
coded_in w (Manual bits) code r e = e

-- the return to automatic works the code out
pub to_automatic_sound : (w : Working) (on : ℕ) (r : Reading) → Sound (to_automatic w on r)
to_automatic_sound w on r = record { code = code_range w.analog.low w.analog.high r }

module _ (o : Outputs) (p : Sound o) where
  pub sampled_sound : (w : Working) (on : ℕ) (r : Reading) → Sound (sampled w o on r)
  sampled_sound w on r = record { code = coded_in w o.mode o.code r p.code }

  -- a reset of alarms and manual mode leave the code
  pub alarms_reset_sound : (on : ℕ) → Sound (alarms_reset o on)
  alarms_reset_sound on = record { code = p.code }

  pub to_manual_sound : (on b : ℕ) → Sound (to_manual o on b)
  to_manual_sound on b = record { code = p.code }

  -- a code that is one
  pub write_code_sound : (z : ℤ) → in_code z ≡ true → Sound (write_code o z)
  write_code_sound z e = record { code = e }

-- ---- the manual outputs are four bits

-- automatic mode has none, which power-up and the return to it leave
pub automatic_bits : bits_in Automatic ≡ true
unfolding bits_in
automatic_bits = refl

-- VJ takes four of its byte
pub manual_bits : (o : Outputs) (on b : ℕ) → bits_in (to_manual o on b).mode ≡ true
unfolding bits_in
manual_bits o on b = le-leb (b % 16) 15 (omega arith)
