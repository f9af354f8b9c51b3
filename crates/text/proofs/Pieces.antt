-- Pieces that are put one after another, and a number as a piece, over plain values. Assumes nothing.
use mathlib.Core.Path.{◌≡◌, refl, sym, ap, ◌∙◌}
use mathlib.Core.Bool.{cond}
use mathlib.Core.List.{List, [], ◌∷◌, ◌++◌}
use Prim.Native.Nat.{ℕ, zero, suc, ◌+◌, ◌-◌, ◌^◌, ◌≤◌}
use native.Mathlib.Nat.{pow-le-pow_right}
use native.Mathlib.Omega.{arith}
use lib.Dec.{ltb}
use borrow.Author.Tests.{lt-ltb, le-ltb}
use Rattle.io.specs.Digits.{last_digits, IsDigitCount}
use Rattle.text.specs.Numeral.{fewest, numeral}
use Rattle.text.specs.Output.{Waiting, put_in, puts}
use Rattle.text.proofs.Waits.{puts_append}

-- ---- one piece, what comes behind pieces, and pieces that are the same

pub one : (w v : Waiting) (s : List ℕ) → v ≡ put_in w s → v ≡ puts w (s ∷ [])
unfolding puts
one w v s e = e

pub next : (w v u : Waiting) (a b : List (List ℕ)) → v ≡ puts w a → u ≡ puts v b → u ≡ puts w (a ++ b)
next w v u a b p q = q ∙ ap (λ (x : Waiting). puts x b) p ∙ puts_append w a b

pub alike : (w v : Waiting) (a b : List (List ℕ)) → a ≡ b → v ≡ puts w a → v ≡ puts w b
alike w v a b e p = p ∙ ap (puts w) e

-- ---- the fewest digits

module _ (n r : ℕ) (h : IsDigitCount 10 1 n r) where
  counted : (f k : ℕ) → 1 ≤ k → k ≤ r → r ≤ k + f → fewest f k n ≡ r
  unfolding fewest
  counted zero k a b c = omega arith
  counted (suc f) k a b c = go (r - k) refl (λ m. counted f (k + 1) (omega arith) m (omega arith))
    where
      go : (d : ℕ) → r - k ≡ d → (k + 1 ≤ r → fewest f (k + 1) n ≡ r) → cond (ltb n (10 ^ k)) k (fewest f (k + 1) n) ≡ r
      go zero e next =
          let z : k ≡ r = omega arith in
          rw (z, lt-ltb n (10 ^ r) h.1)
      go (suc d) e next =
          let m : 10 ^ k ≤ 10 ^ (r - 1) = pow-le-pow_right (omega arith) (omega arith) in
          rw (le-ltb n (10 ^ k) (omega (arith, m, h.2 (omega arith)))) (next (omega arith))

  few : n ≤ 18446744073709551615 → r ≤ 20
  few m = go (r - 20) refl
    where
      go : (d : ℕ) → r - 20 ≡ d → r ≤ 20
      go zero e = omega arith
      go (suc d) e =
          let p : 10 ^ 20 ≤ 10 ^ (r - 1) = pow-le-pow_right {n = 10} (omega arith) {i = 20} {j = r - 1} (omega arith) in
          absurd (omega (arith, p, h.2 (omega arith)))

  pub numeral_is : n ≤ 18446744073709551615 → last_digits 10 r n ≡ numeral n
  unfolding numeral
  numeral_is m = ap (λ (k : ℕ). last_digits 10 k n) (sym (counted 19 1 (omega arith) h.0 (omega (arith, few m))))
