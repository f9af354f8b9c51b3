-- Inputs read in one after another: one input more, and the end. Assumes nothing.
use mathlib.Core.Path.{◌≡◌, refl, ap}
use mathlib.Core.List.{List, [], ◌∷◌}
use Prim.Native.Nat.{ℕ, zero, suc, ◌+◌, ◌<◌}
use native.Mathlib.Omega.{arith}
use native.Mathlib.Numerals.{add-one}
use lib.IntN.{ℤ}
use lib.ListN.{length, take, set}
use Rattle.segments.specs.Segments.{read}
use Rattle.segments.specs.declared.Segments.{Segments}
use Rattle.bulk.specs.Bulk.{number_of, read_into, at}

module _ (s : Segments) where
  -- as many places as before
  pub read_length : (xs into : List ℤ) → length (read_into s xs into) ≡ length into
  unfolding read_into
  read_length [] into = refl
  read_length (x ∷ xs) [] = refl
  read_length (x ∷ xs) (old ∷ rest) = ap suc (read_length xs rest)

  -- input i goes to place i
  set_next : (i : ℕ) (xs into : List ℤ) → i < length xs → i < length into
      → set (read_into s (take i xs) into) i (number_of (read s (at xs i))) ≡ read_into s (take (suc i) xs) into
  unfolding read_into
  set_next i [] into h g = absurd (omega arith)
  set_next i (x ∷ xs) [] h g = absurd (omega arith)
  set_next zero (x ∷ xs) (old ∷ rest) h g = refl
  set_next (suc i) (x ∷ xs) (old ∷ rest) h g = ap (λ (l : List ℤ). number_of (read s x) ∷ l) (set_next i xs rest (omega arith) (omega arith))

  pub one_more : (i : ℕ) (xs into : List ℤ) → i < length xs → i < length into
      → set (read_into s (take i xs) into) i (number_of (read s (at xs i))) ≡ read_into s (take (i + 1) xs) into
  one_more i xs into h g = rw (add-one i) (set_next i xs into h g)

  -- where no place is left, or no input, all are read in
  pub no_more : (i : ℕ) (xs into : List ℤ) → (i < length xs → i < length into → ⊥) → read_into s (take i xs) into ≡ read_into s xs into
  unfolding read_into
  no_more zero [] into e = refl
  no_more (suc i) [] into e = refl
  no_more zero (x ∷ xs) [] e = refl
  no_more (suc i) (x ∷ xs) [] e = refl
  no_more zero (x ∷ xs) (old ∷ rest) e = absurd (e (omega arith) (omega arith))
  no_more (suc i) (x ∷ xs) (old ∷ rest) e = ap (λ (l : List ℤ). number_of (read s x) ∷ l) (no_more i xs rest (λ h g. e (omega arith) (omega arith)))
