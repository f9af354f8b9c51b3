-- The rounding of the kit's account of IEEE 754, a fraction to the nearest whole number and at a tie to the even one, said by distances.
-- Assumes nothing.
use mathlib.Core.Path.{◌≡◌, refl, sym, subst}
use mathlib.Core.Bool.{not}
use Prim.Native.Nat.{ℕ, zero, suc, ◌+◌, ◌*◌, ◌/◌, ◌%◌, ◌^◌, ◌≤◌, ◌<◌, compare, Ordering}
use native.Mathlib.Nat.{add-zero, suc-mul, div-add-mod', mod-lt}
use native.Mathlib.Numerals.{add-one}
use native.Mathlib.Omega.{arith}
use lib.Arith.{lt_of_le-ne}
use lib.Dec.{T, is_le, compare_is_eq, eqb, leb→le, nleb→lt, eqb→eq, eqb_refl}
use lib.Ieee.{nearest}
use lib.Ieee.Nearest.{closest}
use Rattle.binary32.specs.Meaning.{apart, IsQuotient}

-- what `compare` says
abbrev Compared : Ordering → ℕ → ℕ → Type 0
Compared Ordering.lt a b = a < b
Compared Ordering.eq a b = a ≡ b
Compared Ordering.gt a b = b < a

compared : (a b : ℕ) → Compared (compare a b) a b
compared a b = go (compare a b) (leb→le a b) (nleb→lt a b) (eqb→eq a b) (λ (e : a ≡ b). subst (λ (x : ℕ). T (eqb a x)) e (eqb_refl a))
  where
    go : (o : Ordering) → (T (is_le o) → a ≤ b) → (T (not (is_le o)) → b < a) → (T (compare_is_eq o) → a ≡ b) → (a ≡ b → T (compare_is_eq o)) → Compared o a b
    go Ordering.lt h k e n = lt_of_le-ne (h tt) n
    go Ordering.eq h k e n = e tt
    go Ordering.gt h k e n = k tt

-- q is a whole number nearest to a / b, and at a tie the even one
pub record Near (a b q : ℕ) : Type 0 where
  pub near : 2 * apart (q * b) a ≤ b
  pub even : 2 * apart (q * b) a ≡ b → q % 2 ≡ 0

-- with the whole part w and the remainder r
module _ (a b w r : ℕ) (is : w * b + r ≡ a) (less : r < b) where
  kept : 2 * r ≤ b → (2 * r ≡ b → w % 2 ≡ 0) → Near a b w
  kept h e = record { near = omega arith; even = λ t. e (omega arith) }

  raised : b ≤ 2 * r → (2 * r ≡ b → suc w % 2 ≡ 0) → Near a b (suc w)
  raised h e =
      let n : suc w * b ≡ w * b + b = suc-mul w b in
      record { near = omega arith; even = λ t. e (omega arith) }

  tie : (m : ℕ) → w % 2 ≡ m → 2 * r ≡ b → Near a b (w + m)
  tie zero e h = subst (Near a b) (sym (add-zero w)) (kept (omega arith) (λ _. e))
  tie (suc zero) e h = subst (Near a b) (sym (add-one w)) (raised (omega arith) (λ _. omega arith))
  tie (suc (suc m)) e h = absurd (omega arith)

  step : (o : Ordering) → Compared o (r * 2) b → Near a b (nearest w o)
  step Ordering.lt c = kept (omega arith) (λ e. absurd (omega arith))
  step Ordering.eq c = tie (w % 2) refl (omega arith)
  step Ordering.gt c = raised (omega arith) (λ e. absurd (omega arith))

pub closest_near : (a b : ℕ) → 0 < b → Near a b (closest a b)
closest_near a b h = step a b (a / b) (a % b) (div-add-mod' a b) (mod-lt a h) (compare (a % b * 2) b) (compared (a % b * 2) b)

-- what a quotient's bits are to be says so of their digits
pub near_is : {n d b : ℕ} (i : IsQuotient n d b) → Near (n * 2 ^ i.scale) d i.m
near_is i = record { near = omega (arith, i.near); even = λ e. omega (arith, i.even e) }
