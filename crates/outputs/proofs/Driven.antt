-- The status is what document 01 says. Assumes nothing.
use borrow.Author.Tests.{leb-true}
use native.Mathlib.Omega.{arith}
use mathlib.Core.Path.{◌≡◌, ap}
use mathlib.Core.Bool.{true}
use mathlib.Core.List.{List}
use Prim.Native.Nat.{ℕ, ◌+◌, ◌/◌, ◌%◌, ◌≤◌}
use lib.Dec.{eqb}
use Rattle.alarm.specs.declared.Alarm.{Alarm}
use Rattle.alarms.specs.Alarms.{bit, on_bits}
use Rattle.alarms.proofs.Bits.{on_bits_is}
use Rattle.alarms.proofs.Four.{each_of_four}
use Rattle.outputs.specs.Outputs.{status}
use Rattle.outputs.specs.Meaning.{bits_in, IsStatus}
use Rattle.outputs.specs.declared.Mode.{Mode}
use Rattle.outputs.specs.declared.Mode.TheVariants.{Automatic, Manual}

-- ---- its range, in the manual case where the manual outputs are four bits

-- 0 to 15 in automatic mode
pub automatic_range : (l : List Alarm) → status Automatic (on_bits l) ≤ 15
unfolding status
automatic_range l = omega (arith, (on_bits_is l).small)

-- 16 to 31 in manual mode
pub manual_range : (bits on : ℕ) → bits_in (Manual bits) ≡ true → (16 ≤ status (Manual bits) on) × (status (Manual bits) on ≤ 31)
unfolding status bits_in
manual_range bits on h = let k = leb-true bits 15 h in (omega arith, omega arith)

-- ---- its bits

-- two tests of bits that are the same
same : (m n : ℕ) → m ≡ n → eqb m 1 ≡ eqb n 1
same m n e = ap (λ (k : ℕ). eqb k 1) e

-- in automatic mode they are the alarms that are on
automatic_is : (l : List Alarm) → IsStatus Automatic l (status Automatic (on_bits l))
unfolding status
automatic_is l =
    let on = on_bits_is l in
    record {
      outputs = on.bits;
      manual = same (on_bits l / 16 % 2) 0 (omega (arith, on.small));
      small = omega (arith, on.small);
    }

-- in manual mode they are the manual bits, and 16
manual_is : (bits : ℕ) (l : List Alarm) → bits ≤ 15 → IsStatus (Manual bits) l (status (Manual bits) (on_bits l))
unfolding status
manual_is bits l h =
    record {
      outputs = each_of_four (λ (k : ℕ). bit (16 + bits) k ≡ bit bits k)
          (same ((16 + bits) / 1 % 2) (bits / 1 % 2) (omega arith))
          (same ((16 + bits) / 2 % 2) (bits / 2 % 2) (omega arith))
          (same ((16 + bits) / 4 % 2) (bits / 4 % 2) (omega arith))
          (same ((16 + bits) / 8 % 2) (bits / 8 % 2) (omega arith));
      manual = same ((16 + bits) / 16 % 2) 1 (omega arith);
      small = omega arith;
    }

-- the status has the driven outputs as bits 0 to 3 and 16 for manual, where the manual outputs are four bits
pub status_is : (mode : Mode) (l : List Alarm) → bits_in mode ≡ true → IsStatus mode l (status mode (on_bits l))
unfolding bits_in
status_is Automatic l h = automatic_is l
status_is (Manual bits) l h = manual_is bits l (leb-true bits 15 h)
