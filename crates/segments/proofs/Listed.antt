-- Lists of a number for each place: what stands at a place, and how such a list is filled place by place. Assumes nothing.
use mathlib.Core.Path.{◌≡◌, refl, sym, ap, ap₂, ◌∙◌}
use mathlib.Core.List.{List, ◌∷◌}
use Prim.Native.Nat.{ℕ, zero, suc, ◌+◌, ◌≤◌, ◌<◌}
use native.Mathlib.Omega.{arith}
use native.Mathlib.Numerals.{add-one}
use borrow.Author.Tests.{lt-ltb, le-ltb}
use lib.IntN.{ℤ}
use lib.ListN.{get_or, set}
use Rattle.reading.specs.Reading.{point}
use Rattle.segments.specs.Segments.{places, listed, or_fixed, held}

-- ---- what stands at a place

listed_at : (f : ℕ → ℤ) (d : ℤ) (n k i : ℕ) → i < n → get_or (listed f k n) i d ≡ f (k + i)
unfolding listed
listed_at f d zero k i h = absurd (omega arith)
listed_at f d (suc n) k zero h = ap f (omega arith)
listed_at f d (suc n) k (suc i) h = listed_at f d n (suc k) i (omega arith) ∙ ap f (omega arith)

module _ (n : ℕ) (fixed : ℤ) (f : ℕ → ℤ) where
  held_place : (k : ℕ) → k < places → point (held n fixed f) k ≡ or_fixed n fixed f k
  held_place k h = listed_at (or_fixed n fixed f) _ places 0 k h ∙ ap (or_fixed n fixed f) (omega arith)

  -- the segment's number where it is in use
  pub held_at : (k : ℕ) → k < n → k < places → point (held n fixed f) k ≡ f k
  held_at k u h = held_place k h ∙ rw (lt-ltb k n u)

  -- the fixed number where none is
  pub held_unused : (k : ℕ) → n ≤ k → k < places → point (held n fixed f) k ≡ fixed
  held_unused k u h = held_place k h ∙ rw (le-ltb k n u)

-- ---- two that agree at each place

pub listed_alike : (f g : ℕ → ℤ) (n k : ℕ) → ((i : ℕ) → k ≤ i → i < k + n → f i ≡ g i) → listed f k n ≡ listed g k n
unfolding listed
listed_alike f g zero k e = refl
listed_alike f g (suc n) k e =
    ap₂ (λ (z : ℤ) (l : List ℤ). z ∷ l) (e k (omega arith) (omega arith)) (listed_alike f g n (suc k) (λ i h l. e i (omega arith) (omega arith)))

-- ---- one place more

module _ (fixed : ℤ) (f : ℕ → ℤ) where
  -- the segments before k have what they had, and those behind it have none yet
  before : (k i : ℕ) → i < k → or_fixed k fixed f i ≡ or_fixed (suc k) fixed f i
  before k i h = rw (lt-ltb i k h, lt-ltb i (suc k) (omega arith))

  behind : (k i : ℕ) → k < i → or_fixed k fixed f i ≡ or_fixed (suc k) fixed f i
  behind k i h = rw (le-ltb i k (omega arith), le-ltb i (suc k) (omega arith))

  here : (k : ℕ) → or_fixed (suc k) fixed f k ≡ f k
  here k = rw (lt-ltb k (suc k) (omega arith))

  set_at : (n k from i : ℕ) → i < n → k ≡ from + i → set (listed (or_fixed k fixed f) from n) i (f k) ≡ listed (or_fixed (suc k) fixed f) from n
  unfolding listed
  set_at zero k from i h e = absurd (omega arith)
  set_at (suc n) k from zero h e =
      let q : from ≡ k = omega arith in
      ap₂ (λ (z : ℤ) (l : List ℤ). z ∷ l) (sym (here k) ∙ ap (or_fixed (suc k) fixed f) (sym q))
      (listed_alike (or_fixed k fixed f) (or_fixed (suc k) fixed f) n (suc from) (λ i g l. behind k i (omega arith)))
  set_at (suc n) k from (suc i) h e =
      ap₂ (λ (z : ℤ) (l : List ℤ). z ∷ l) (before k from (omega arith)) (set_at n k (suc from) i (omega arith) (omega arith))

  pub filled : (k : ℕ) (z : ℤ) → k < places → z ≡ f k → set (held k fixed f) k z ≡ held (k + 1) fixed f
  filled k z h e = rw (add-one k) (ap (set (held k fixed f) k) e ∙ set_at places k 0 k h (omega arith))
