-- The search for the segment: its turns, and which segment it finds. Assumes nothing.
use mathlib.Core.Path.{◌≡◌, refl}
use mathlib.Core.Bool.{Bool, true, false, cond}
use mathlib.Core.Logic.{⊎_elim}
use mathlib.Core.List.{List}
use native.Mathlib.Nat.{eq-or-lt_of_le}
use native.Mathlib.Numerals.{add-one}
use native.Mathlib.Omega.{arith}
use Prim.Native.Nat.{ℕ, zero, suc, ◌+◌, ◌-◌, ◌≤◌, ◌<◌}
use lib.IntN.{ℤ}
use lib.Signed.{le_z}
use Rattle.reading.specs.Reading.{point, first_from, segment}

-- ---- one turn of the search, at segment i of those up to the last

module _ (inputs : List ℤ) (x : ℤ) (i last : ℕ) where
  more : i < last → last - i ≡ suc (last - (i + 1))
  more h = omega arith

  -- at the last segment
  pub stop : last ≤ i → first_from inputs x i (last - i) ≡ i
  unfolding first_from
  stop h = let e : last - i ≡ 0 = omega arith in rw e

  -- its right end is not below x
  pub hit : i < last → le_z x (point inputs (i + 1)) ≡ true → first_from inputs x i (last - i) ≡ i
  unfolding first_from
  hit h t = rw (more h, rw add-one at t)

  -- it is
  pub next : i < last → le_z x (point inputs (i + 1)) ≡ false → first_from inputs x i (last - i) ≡ first_from inputs x (i + 1) (last - (i + 1))
  unfolding first_from
  next h t = rw (more h, rw add-one at t, add-one i)

-- ---- what the definition says: `segment` is at most the last segment, all before it end below x, and it does not unless it is the last

by_test : (b : Bool) (P : ℕ → Type 0) (m k : ℕ) → (b ≡ true → P m) → (b ≡ false → P k) → P (cond b m k)
by_test true P m k f g = f refl
by_test false P m k f g = g refl

pub from_le : (inputs : List ℤ) (x : ℤ) (i left : ℕ) → first_from inputs x i left ≤ i + left
unfolding first_from
from_le inputs x i zero = omega arith
from_le inputs x i (suc left) =
    by_test (le_z x (point inputs (suc i))) (λ r. r ≤ i + suc left) i (first_from inputs x (suc i) left)
    (λ t. omega arith) (λ t. omega (arith, from_le inputs x (suc i) left))

from_before : (inputs : List ℤ) (x : ℤ) (i left k : ℕ) → i ≤ k → k < first_from inputs x i left → le_z x (point inputs (suc k)) ≡ false
unfolding first_from
from_before inputs x i zero k h = λ l. absurd (omega arith)
from_before inputs x i (suc left) k h =
    by_test (le_z x (point inputs (suc i))) (λ r. k < r → le_z x (point inputs (suc k)) ≡ false) i (first_from inputs x (suc i) left)
    (λ t l. absurd (omega arith))
    (λ t l. ⊎_elim (λ e. rw (← e) t) (λ u. from_before inputs x (suc i) left k u l) (eq-or-lt_of_le h))

from_at : (inputs : List ℤ) (x : ℤ) (i left : ℕ) → first_from inputs x i left < i + left → le_z x (point inputs (suc (first_from inputs x i left))) ≡ true
unfolding first_from
from_at inputs x i zero = λ l. absurd (omega arith)
from_at inputs x i (suc left) =
    by_test (le_z x (point inputs (suc i))) (λ r. r < i + suc left → le_z x (point inputs (suc r)) ≡ true) i (first_from inputs x (suc i) left)
    (λ t l. t) (λ t l. from_at inputs x (suc i) left (omega arith))

module _ (inputs : List ℤ) (x : ℤ) (count : ℕ) where
  pub segment_le : segment inputs count x ≤ count - 2
  unfolding segment
  segment_le = omega (arith, from_le inputs x 0 (count - 2))

  pub segment_before : (k : ℕ) → k < segment inputs count x → le_z x (point inputs (suc k)) ≡ false
  unfolding segment
  segment_before k l = from_before inputs x 0 (count - 2) k (omega arith) l

  pub segment_at : segment inputs count x < count - 2 → le_z x (point inputs (suc (segment inputs count x))) ≡ true
  unfolding segment
  segment_at l = from_at inputs x 0 (count - 2) (omega arith)
