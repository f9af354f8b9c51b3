-- A test over the displays passes exactly where it passes at one of them. Assumes nothing.
use mathlib.Core.Path.{◌≡◌, refl, sym, ap, ◌∙◌}
use mathlib.Core.Bool.{Bool, true, false, cond, ◌&&◌, ◌||◌}
use mathlib.Core.Logic.{◌⊎◌, inl, inr}
use Prim.Native.Nat.{ℕ, zero, suc, ◌+◌, ◌-◌, ◌<◌}
use native.Mathlib.Nat.{le_of_suc-le-suc, eq-or-lt_of_le}
use native.Mathlib.Omega.{arith}
use borrow.Author.Tests.{eq-eqb, eqb-true, le-leb, leb-true, lt-ltb, le-ltb}
use lib.Dec.{ltb}
use lib.IntN.{ℤ, pos, negsuc}
use Rattle.exact.proofs.Z.{never, both}
use Rattle.reading.specs.Reading.{in_display}
use Rattle.binary32.specs.Binary32.{bits, display_at, some_of, gives}
use Rattle.binary32.specs.Meaning.{Given}

-- a place among the first n at which a test passes
record Passes (test : ℤ → Bool) (n : ℕ) : Type 0 where
  place : ℕ
  there : place < n
  passes : test (display_at place) ≡ true

more : (test : ℤ → Bool) (n : ℕ) → Passes test n → Passes test (suc n)
more test n f = record { place = f.place; there = omega (arith, f.there); passes = f.passes }

found : (test : ℤ → Bool) (n : ℕ) → some_of test n ≡ true → Passes test n
unfolding some_of
found test zero h = never h
found test (suc n) h = go (some_of test n) (λ e. found test n e) refl h
  where
    go : (b : Bool) → (some_of test n ≡ true → Passes test n) → some_of test n ≡ b → (b || test (display_at n)) ≡ true → Passes test (suc n)
    go true before e t = more test n (before e)
    go false before e t = record { place = n; there = omega arith; passes = t }

or_true : (b : Bool) → (b || true) ≡ true
or_true true = refl
or_true false = refl

passed : (test : ℤ → Bool) (n k : ℕ) → k < n → test (display_at k) ≡ true → some_of test n ≡ true
unfolding some_of
passed test zero k h t = absurd (omega arith)
passed test (suc n) k h t = go (eq-or-lt_of_le (le_of_suc-le-suc h)) (λ l. passed test n k l t)
  where
    go : (k ≡ n) ⊎ (k < n) → (k < n → some_of test n ≡ true) → (some_of test n || test (display_at n)) ≡ true
    go (inl e) before = ap (λ (x : ℕ). some_of test n || test (display_at x)) (sym e) ∙ ap (λ (x : Bool). some_of test n || x) t ∙ or_true (some_of test n)
    go (inr l) before = ap (λ (x : Bool). x || test (display_at n)) (before l)

-- ---- the displays are -19,999 to 99,999, each at a place of its own

at_shown : (k : ℕ) → k < 119999 → in_display (display_at k) ≡ true
at_shown k h = go (ltb k 19999) refl
  where
    go : (b : Bool) → ltb k 19999 ≡ b → in_display (cond b (negsuc (19999 - suc k)) (pos (k - 19999))) ≡ true
    go true e = ap (λ (t : Bool). t && true) (le-leb (19999 - suc k) 19998 (omega arith))
    go false e = le-leb (k - 19999) 99999 (omega arith)

placed : (z : ℤ) → in_display z ≡ true → (k : ℕ) × (k < 119999) × (display_at k ≡ z)
placed (pos n) h = (
  n + 19999,
  omega (arith, leb-true n 99999 h),
  ap (λ (b : Bool). cond b (negsuc (19999 - suc (n + 19999))) (pos (n + 19999 - 19999))) (le-ltb (n + 19999) 19999 (omega arith)) ∙ ap pos (omega arith),
)
placed (negsuc n) h =
    let l = leb-true n 19998 (both _ _ h).0 in (
      19998 - n,
      omega arith,
      ap (λ (b : Bool). cond b (negsuc (19999 - suc (19998 - n))) (pos (19998 - n - 19999))) (lt-ltb (19998 - n) 19999 (omega arith)) ∙ ap negsuc (omega arith),
    )

pub gives_is : (places b : ℕ) → gives places b ≡ true → Given places b
unfolding gives
gives_is places b h =
    let f = found _ _ h in
    record { display = display_at f.place; shown = at_shown f.place (omega (arith, f.there)); same = eqb-true (bits places (display_at f.place)) b f.passes }

pub given_gives : (places b : ℕ) → Given places b → gives places b ≡ true
unfolding gives
given_gives places b g =
    let k = placed g.display g.shown in
    passed _ _ k.0 (omega (arith, k.1)) (eq-eqb (bits places (display_at k.0)) b (ap (bits places) k.2 ∙ g.same))
