-- What the float steps ask, and what they give. Assumes nothing.
use mathlib.Core.Path.{◌≡◌, refl, sym, ap, ◌∙◌, subst}
use mathlib.Core.Bool.{Bool, true, false, not}
use Prim.Native.Nat.{ℕ, zero, suc, ◌^◌, ◌≤◌}
use native.Mathlib.Omega.{arith}
use lib.Dec.{T, le→leb, lt→ltb}
use lib.IntN.{ℤ, pos, negsuc, nat_abs}
use lib.Ieee.{binary32, in_float, is_nan, nan_bits, of_int, div}
use lib.Ieee.Bits.{nan_bits_is}
use Rattle.reading.specs.Reading.{in_display}
use Rattle.binary32.specs.Binary32.{value, bits, gives}
use Rattle.binary32.proofs.Told.{told}
use Rattle.binary32.proofs.Gives.{gives_is}

-- a whole number of at most 24 digits becomes a binary32 without loss
pub in_float_lem : (z : ℤ) → nat_abs z ≤ 2 ^ 24 → T (in_float binary32 z)
unfolding in_float
in_float_lem (pos n) h = le→leb n (2 ^ 24) h
in_float_lem (negsuc n) h = lt→ltb n (2 ^ 24) h

-- the value by the two ways of the code
pub value_itself : (places : ℕ) (z : ℤ) → places ≡ 0 → of_int binary32 z ≡ value places z
unfolding value
value_itself zero z e = refl
value_itself (suc places) z e = absurd (omega arith)

pub value_divided : (places : ℕ) (z : ℤ) → (places ≡ 0 → ⊥) → div binary32 (of_int binary32 z) (of_int binary32 (pos (10 ^ places))) ≡ value places z
unfolding value
value_divided zero z e = absurd (e refl)
value_divided (suc places) z e = refl

-- it is a number
pub is_number : (places : ℕ) (z : ℤ) → places ≤ 4 → in_display z ≡ true → is_nan (value places z) ≡ false
is_number places z p h =
    let t = told places p z h in
    ap is_nan (sym t.stands) ∙ sym (nan_bits_is binary32 (bits places z)) ∙ t.number

-- and so are bits that some display has
pub given_number : (places b : ℕ) → places ≤ 4 → gives places b ≡ true → T (not (nan_bits binary32 b))
given_number places b p h =
    let g = gives_is places b h in
    subst (λ (x : ℕ). T (not (nan_bits binary32 x))) g.same (subst (λ (t : Bool). T (not t)) (sym (told places p g.display g.shown).number) tt)
