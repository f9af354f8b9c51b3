-- Which sums are kept, said of the sum itself and without a division. Assumes nothing.
use mathlib.Core.Path.{◌≡◌, refl, sym, ◌∙◌}
use mathlib.Core.Bool.{Bool, true, false, ◌&&◌}
use Prim.Native.Nat.{ℕ, zero, suc, ◌*◌, ◌/◌, ◌<◌}
use native.Mathlib.Nat.{div-lt_iff_lt-mul}
use native.Mathlib.Omega.{arith}
use borrow.Author.Tests.{lt-ltb, le-leb, ltb-true, leb-true}
use lib.Dec.{leb, ltb}
use lib.IntN.{ℤ, pos, negsuc, neg_ℤ}
use lib.Signed.{lt_z}
use Rattle.exact.specs.Sign.{minus}
use Rattle.exact.specs.Exact.{cut}
use Rattle.exact.proofs.Z.{never}
use Rattle.total.specs.declared.Totalizer.{Totalizer}
use Rattle.total.specs.Total.{Timed, in_total, unit_of, quotient}
use Rattle.total.proofs.Sums.{unit_some}

-- two tests that pass together are equal
same_test : (b c : Bool) → (b ≡ true → c ≡ true) → (c ≡ true → b ≡ true) → b ≡ c
same_test true c f g = sym (f refl)
same_test false true f g = never (g refl)
same_test false false f g = refl

and_true : (b : Bool) → (b && true) ≡ b
and_true true = refl
and_true false = refl

-- n / u is at most k exactly where n is below k + 1 units
at_most : (n u k : ℕ) → 0 < u → leb (n / u) k ≡ ltb n (suc k * u)
at_most n u k h =
    same_test (leb (n / u) k) (ltb n (suc k * u))
    (λ e. lt-ltb n (suc k * u) ((div-lt_iff_lt-mul h).0 (omega (arith, leb-true (n / u) k e))))
    (λ e. le-leb (n / u) k (let q : n / u < suc k = (div-lt_iff_lt-mul h).1 (ltb-true n (suc k * u) e) in omega arith))

-- the tests on each side of zero
below_zero : (q : ℕ) → in_total (neg_ℤ (pos q)) ≡ leb q 199999999
below_zero zero = refl
below_zero (suc q) =
    and_true (leb q 199999998)
    ∙ same_test (leb q 199999998) (leb (suc q) 199999999) (λ e. le-leb (suc q) 199999999 (omega (arith, leb-true q 199999998 e)))
    (λ e. le-leb q 199999998 (omega (arith, leb-true (suc q) 199999999 e)))

minus_below : (k n : ℕ) → 0 < k → lt_z (minus k) (pos n) ≡ true
minus_below zero n h = absurd (omega arith)
minus_below (suc k) n h = refl

minus_test : (k n : ℕ) → 0 < k → lt_z (minus k) (negsuc n) ≡ ltb (suc n) k
minus_test zero n h = absurd (omega arith)
minus_test (suc k) n h =
    same_test (ltb n k) (ltb (suc n) (suc k)) (λ e. lt-ltb (suc n) (suc k) (omega (arith, ltb-true n k e)))
    (λ e. lt-ltb n k (omega (arith, ltb-true (suc n) (suc k) e)))

-- a sum is kept exactly while it lies above -200,000,000 units and below 1,000,000,000 units
pub kept_exactly : (s : Totalizer) → Timed s → (sum : ℤ) → in_total (quotient s sum) ≡ lt_z (minus (200000000 * unit_of s)) sum && lt_z sum (pos (1000000000 * unit_of s))
unfolding quotient cut
kept_exactly s a (pos n) =
    let u = unit_some s a in
    rw (minus_below (200000000 * unit_of s) n (omega arith)) (at_most n (unit_of s) 999999999 u)
kept_exactly s a (negsuc n) =
    let u = unit_some s a in
    below_zero (suc n / unit_of s) ∙ at_most (suc n) (unit_of s) 199999999 u
    ∙ sym (minus_test (200000000 * unit_of s) n (omega arith)) ∙ sym (and_true (lt_z (minus (200000000 * unit_of s)) (negsuc n)))
