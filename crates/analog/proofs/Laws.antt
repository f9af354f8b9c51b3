-- What the definitions of the analog code mean. Assumes nothing.
use mathlib.Core.Path.{◌≡◌, refl, ap, ◌∙◌}
use mathlib.Core.Bool.{true, false}
use Prim.Native.Nat.{zero, suc, ◌*◌, ◌<◌}
use native.Mathlib.Nat.{zero-div, mul-div_cancel}
use native.Mathlib.Omega.{arith}
use lib.IntN.{ℤ, pos, negsuc, neg_ℤ, nat_abs, ◌-ℤ◌, ◌*ℤ◌, +ℤ_invr, neg_ℤ-neg_ℤ}
use Rattle.exact.specs.Sign.{is_neg, eq_z, within}
use Rattle.exact.specs.Exact.{floor}
use Rattle.exact.specs.Meaning.{IsFloor}
use Rattle.exact.proofs.Z.{never, differ_some}
use Rattle.exact.proofs.Meaning.{floor_is, floor_only}
use Rattle.exact.proofs.Held.{held_is, held_same as held_within}
use Rattle.reading.specs.declared.Reading.{Reading}
use Rattle.reading.specs.declared.Reading.TheVariants.{Nothing, Under, Number, Over}
use Rattle.analog.specs.Analog.{floor_by, held, code_of}
use Rattle.analog.proofs.Fit.{floor_up}

-- ---- the floor by a divisor on either side of zero

-- by a divisor above zero it is the floor
pub floor_above : (n d : ℤ) → is_neg d ≡ false → 0 < nat_abs d → IsFloor n (nat_abs d) (floor_by n d)
floor_above n d e h = rw (← floor_up n d e) (floor_is n (nat_abs d) h)

-- by a divisor below zero it is the floor of the same fraction with both signs turned
pub floor_below : (n d : ℤ) → is_neg d ≡ true → IsFloor (neg_ℤ n) (nat_abs d) (floor_by n d)
unfolding floor_by
floor_below n (pos d) e = never e
floor_below n (negsuc d) e = floor_is (neg_ℤ n) (suc d) (omega arith)

-- and no other number is
pub floor_only_above : (n d r : ℤ) → is_neg d ≡ false → IsFloor n (nat_abs d) r → r ≡ floor_by n d
floor_only_above n d r e i = floor_only n (nat_abs d) r i ∙ floor_up n d e

pub floor_only_below : (n d r : ℤ) → is_neg d ≡ true → IsFloor (neg_ℤ n) (nat_abs d) r → r ≡ floor_by n d
unfolding floor_by
floor_only_below n (pos d) r e i = never e
floor_only_below n (negsuc d) r e i = floor_only (neg_ℤ n) (suc d) r i

-- turning both signs changes nothing
pub floor_turned : (n d : ℤ) → 0 < nat_abs d → floor_by (neg_ℤ n) (neg_ℤ d) ≡ floor_by n d
unfolding floor_by
floor_turned n (pos zero) h = absurd (omega arith)
floor_turned n (pos (suc d)) h = ap (λ (z : ℤ). floor z (suc d)) (neg_ℤ-neg_ℤ n)
floor_turned n (negsuc d) h = refl

-- ---- held

-- a held number lies in 0 to 4,095
pub held_range : (z : ℤ) → within (pos 0) (pos 4095) (held z) ≡ true
unfolding held
held_range z = (held_is (pos 0) (pos 4095) z refl).inside

-- a number that lies there is held as it is
pub held_same : (z : ℤ) → within (pos 0) (pos 4095) z ≡ true → held z ≡ z
unfolding held
held_same z e = held_within (pos 0) (pos 4095) z e

-- ---- the code

-- it always lies in 0 to 4,095
pub code_range : (low high : ℤ) (r : Reading) → within (pos 0) (pos 4095) (code_of low high r) ≡ true
unfolding code_of
code_range low high Nothing = refl
code_range low high Under = refl
code_range low high (Number v) = held_range (floor_by (pos 4095 *ℤ (v -ℤ low)) (high -ℤ low))
code_range low high Over = refl

-- Over is 4,095, Under 0, and 0 before any sample, whichever way the range runs
pub code_over : (low high : ℤ) → code_of low high Over ≡ pos 4095
unfolding code_of
code_over low high = refl

pub code_under : (low high : ℤ) → code_of low high Under ≡ pos 0
unfolding code_of
code_under low high = refl

pub code_nothing : (low high : ℤ) → code_of low high Nothing ≡ pos 0
unfolding code_of
code_nothing low high = refl

floor_zero : (d : ℤ) → floor_by (pos 0) d ≡ pos 0
unfolding floor_by floor
floor_zero (pos d) = ap pos (zero-div d)
floor_zero (negsuc d) = ap pos (zero-div (suc d))

-- 0 at the low display
pub code_at_low : (low high : ℤ) → code_of low high (Number low) ≡ pos 0
unfolding code_of held
code_at_low low high = rw (+ℤ_invr low, floor_zero (high -ℤ low))

floor_whole : (d : ℤ) → 0 < nat_abs d → floor_by (pos 4095 *ℤ d) d ≡ pos 4095
unfolding floor_by floor
floor_whole (pos d) h = ap pos (mul-div_cancel 4095 h)
floor_whole (negsuc d) h = rw (neg_ℤ-neg_ℤ (pos (4095 * suc d))) (ap pos (mul-div_cancel 4095 {n = suc d} (omega arith)))

-- 4,095 at the high display
pub code_at_high : (low high : ℤ) → eq_z low high ≡ false → code_of low high (Number high) ≡ pos 4095
unfolding code_of held
code_at_high low high e = rw (floor_whole (high -ℤ low) (differ_some low high e))
