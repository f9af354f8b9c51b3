-- The value of a display is its quotient by the power of ten, rounded once: both numbers are held exactly, so that only the division
-- rounds, and with no places there is nothing to round. Assumes nothing.
use mathlib.Core.Path.{◌≡◌, refl, sym, ap, ap₂, ◌∙◌, subst}
use mathlib.Core.Bool.{Bool, true, false, cond}
use Prim.Native.Nat.{ℕ, zero, suc, ◌*◌, ◌^◌, ◌≤◌, ◌<◌}
use native.Mathlib.Nat.{le_trans, lt_irrefl, mul-one, mul_assoc, mul_comm, mul_left_comm, mul-pos, zero-mul, pow-le-pow_right}
use native.Mathlib.Omega.{arith}
use borrow.Author.Tests.{ne_eqb}
use lib.Dec.{eqb, lit≤}
use lib.IntN.{ℤ, pos, negsuc, nat_abs}
use lib.Ieee.{Float, nan, inf, fin, binary32, up, down, unlike, round, of_int, div}
use lib.Ieee.Back.{round_whole}
use lib.Ieee.Exact.{HasValue}
use lib.Ieee.Fits.{down_pos}
use lib.Ieee.Scale.{round_same}
use Rattle.exact.specs.Sign.{is_neg}
use Rattle.binary32.specs.Binary32.{whole, value}

whole_is : (z : ℤ) → whole z ≡ round binary32 (is_neg z) (nat_abs z) 1
unfolding of_int
whole_is (pos n) = refl
whole_is (negsuc n) = refl

-- a whole number of at most 24 digits is held exactly
held : (z : ℤ) → nat_abs z ≤ 2 ^ 24 → HasValue (whole z) (is_neg z) (nat_abs z) 1
held z h = subst (λ (x : Float). HasValue x (is_neg z) (nat_abs z) 1) (sym (whole_is z)) (round_whole binary32 (is_neg z) (nat_abs z) h)

positive_sign : (s : Bool) → unlike s false ≡ s
positive_sign true = refl
positive_sign false = refl

regroup : (a c x y : ℕ) → a * y * x * c ≡ a * (c * x * y)
regroup a c x y = simp (mul_assoc, mul_comm, mul_left_comm)

-- a quotient of two whole numbers is theirs, rounded once
divided : (x y : Float) (s : Bool) (a c : ℕ) → HasValue x s a 1 → HasValue y false c 1 → 0 < c → div binary32 x y ≡ round binary32 s a c
unfolding div
divided nan y s a c v w h = absurd v
divided (inf t) y s a c v w h = absurd v
divided (fin t m e) nan s a c v w h = absurd w
divided (fin t m e) (inf u) s a c v w h = absurd w
divided (fin t m e) (fin u n d) s a c v w h =
    let top : m * up e ≡ a * down e = sym (mul-one (m * up e)) ∙ v.1 in
    let low : n * up d ≡ c * down d = sym (mul-one (n * up d)) ∙ w.1 in
    let some : 0 < n * up d = subst (λ (x : ℕ). 0 < x) (sym low) (mul-pos h (down_pos d)) in
    let no : eqb n 0 ≡ false = ne_eqb n 0 (λ e0. lt_irrefl 0 (subst (λ (x : ℕ). 0 < x) (ap (λ (x : ℕ). x * up d) e0 ∙ zero-mul (up d)) some)) in
    let signs : unlike t u ≡ s = ap₂ unlike v.0 w.0 ∙ positive_sign s in
    ap (λ (b : Bool). cond b (cond (eqb m 0) nan (inf (unlike t u))) (round binary32 (unlike t u) (m * up e * down d) (n * up d * down e))) no
    ∙ ap (λ (b : Bool). round binary32 b (m * up e * down d) (n * up d * down e)) signs
    ∙ round_same binary32 s (m * up e * down d) (n * up d * down e) a c (mul-pos some (down_pos e)) h
    (ap (λ (x : ℕ). x * down d * c) top ∙ regroup a c (down d) (down e) ∙ ap (λ (x : ℕ). a * (x * down e)) (sym low))

-- the powers of ten: 1 to 10,000
pub power_least : (places : ℕ) → 1 ≤ 10 ^ places
power_least places = pow-le-pow_right {n = 10} (lit≤ tt) {i = 0} (omega arith)

pub power_most : (places : ℕ) → places ≤ 4 → 10 ^ places ≤ 10000
power_most places h = pow-le-pow_right {n = 10} (lit≤ tt) {j = 4} h

pub value_is : (places : ℕ) (display : ℤ) → places ≤ 4 → nat_abs display ≤ 2 ^ 24 → value places display ≡ round binary32 (is_neg display) (nat_abs display) (10 ^ places)
unfolding value
value_is zero display p h = whole_is display
value_is (suc places) display p h =
    divided (whole display) (whole (pos (10 ^ suc places))) (is_neg display) (nat_abs display) (10 ^ suc places)
    (held display h) (held (pos (10 ^ suc places)) (le_trans (power_most (suc places) p) (lit≤ tt))) (power_least (suc places))
