-- Only one pattern is nearest to a fraction, so that `IsQuotient` says all of it. Assumes nothing.
use mathlib.Core.Path.{◌≡◌, sym, ap, ap₂, ◌∙◌, subst}
use mathlib.Core.Logic.{◌⊎◌, inl, inr}
use Prim.Native.Nat.{ℕ, suc, ◌+◌, ◌-◌, ◌*◌, ◌^◌, ◌≤◌, ◌<◌}
use native.Mathlib.Nat.{le_trans, le_of_eq, le_antisymm, le_of_suc-le-suc, eq-or-lt_of_le, lt_of_not-le, suc-mul, mul_left_comm, mul-le-mul_left, mul-le-mul_right, eq_of_mul-eq-mul_right, pow-succ'}
use native.Mathlib.Omega.{arith}
use lib.Pow.{pow_mono}
use Rattle.binary32.specs.Meaning.{apart, IsQuotient}
use Rattle.binary32.proofs.Nearest.{Near, near_is}

-- ---- with the same unit: neither of two that are as near is the smaller one

not_less : (d a m k : ℕ) → 1 ≤ d → Near a d m → Near a d k → m < k → ⊥
not_less d a m k d1 nm nk h =
    let step : suc m * d ≤ k * d = mul-le-mul_right d h in
    let up : suc m * d ≡ m * d + d = suc-mul m d in
    let tm : 2 * apart (m * d) a ≡ d = omega arith in
    let tk : 2 * apart (k * d) a ≡ d = omega arith in
    let next : k ≡ suc m = eq_of_mul-eq-mul_right d d1 k (suc m) (omega arith) in
    omega (arith, nm.even tm, nk.even tk)

same_unit : (d a m k : ℕ) → 1 ≤ d → Near a d m → Near a d k → m ≡ k
same_unit d a m k d1 nm nk =
    le_antisymm (le_of_suc-le-suc (lt_of_not-le (λ (h : k < m). not_less d a k m d1 nk nm h)))
    (le_of_suc-le-suc (lt_of_not-le (λ (h : m < k). not_less d a m k d1 nm nk h)))

-- ---- with a finer unit for the one of them: it has fewer digits, so that both cannot be near. a is the fraction in the coarser units, and b in
-- the finer ones.

coarser : (d a b m k : ℕ) → 1 ≤ d → 2 * a ≤ b → 2 ^ 23 ≤ m → k < 2 ^ 24 → Near a d m → (m ≡ 2 ^ 23 → 4 * (m * d - a) ≤ d) → Near b d k → ⊥
coarser d a b m k d1 twice l h nm fm nk = go (eq-or-lt_of_le l)
  where
    few : k * d ≤ (2 ^ 24 - 1) * d
    few = mul-le-mul_right d (omega arith)

    go : (2 ^ 23 ≡ m) ⊎ (2 ^ 23 < m) → ⊥
    go (inr more) =
        let many : (2 ^ 23 + 1) * d ≤ m * d = mul-le-mul_right d (omega arith) in
        omega (arith, few)
    go (inl e) =
        let many : 2 ^ 23 * d ≡ m * d = ap (λ (x : ℕ). x * d) e in
        let close = fm (sym e) in
        let tie : 2 * apart (k * d) b ≡ d = omega (arith, few) in
        let last : k ≡ 2 ^ 24 - 1 = eq_of_mul-eq-mul_right d d1 k (2 ^ 24 - 1) (omega (arith, few)) in
        omega (arith, nk.even tie)

-- ---- so the scales are the same, and the digits

doubled : (n s t : ℕ) → s < t → 2 * (n * 2 ^ s) ≤ n * 2 ^ t
doubled n s t h =
    le_trans (le_of_eq (mul_left_comm 2 n (2 ^ s) ∙ ap (λ (x : ℕ). n * x) (sym (pow-succ' 2 s)))) (mul-le-mul_left n (pow_mono h))

not_finer : (n d b c : ℕ) → 1 ≤ d → (i : IsQuotient n d b) (j : IsQuotient n d c) → i.scale < j.scale → ⊥
not_finer n d b c d1 i j h =
    coarser d (n * 2 ^ i.scale) (n * 2 ^ j.scale) i.m j.m d1 (doubled n i.scale j.scale h) i.leading j.digits (near_is i)
    (λ e. omega (arith, i.finer e)) (near_is j)

pub quotient_only : (n d b c : ℕ) → 1 ≤ d → IsQuotient n d b → IsQuotient n d c → b ≡ c
quotient_only n d b c d1 i j =
    let scales : i.scale ≡ j.scale =
    le_antisymm (le_of_suc-le-suc (lt_of_not-le (λ (h : j.scale < i.scale). not_finer n d c b d1 j i h)))
    (le_of_suc-le-suc (lt_of_not-le (λ (h : i.scale < j.scale). not_finer n d b c d1 i j h))) in
    let nj = subst (λ (s : ℕ). Near (n * 2 ^ s) d j.m) (sym scales) (near_is j) in
    let digits = same_unit d (n * 2 ^ i.scale) i.m j.m d1 (near_is i) nj in
    i.pattern ∙ ap₂ (λ (s m : ℕ). (149 - s) * 2 ^ 23 + m) scales digits ∙ sym j.pattern
