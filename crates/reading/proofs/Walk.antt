-- A walk over the first n places: one place more, and a place that was passed. And what rule 5 gives at each point. Assumes nothing.
use mathlib.Core.Path.{◌≡◌, refl}
use mathlib.Core.Bool.{Bool, true, ◌&&◌}
use mathlib.Core.List.{List}
use mathlib.Core.Logic.{⊎_elim}
use Prim.Native.Nat.{ℕ, zero, suc, ◌+◌, ◌-◌, ◌<◌}
use native.Mathlib.Nat.{eq-or-lt_of_le}
use native.Mathlib.Numerals.{add-one}
use native.Mathlib.Omega.{arith}
use lib.IntN.{ℤ}
use lib.Signed.{lt_z}
use Rattle.exact.proofs.Z.{both}
use Rattle.reading.specs.Reading.{in_input, in_display, point, up_to, point_in, rises_at, points_in}

pub walk_next : (test : ℕ → Bool) (i : ℕ) → up_to test (i + 1) ≡ up_to test i && test i
unfolding up_to
walk_next test i = rw add-one

pub walk_at : (test : ℕ → Bool) (n i : ℕ) → up_to test n ≡ true → i < n → test i ≡ true
unfolding up_to
walk_at test zero i e h = absurd (omega arith)
walk_at test (suc n) i e h =
    let b = both (up_to test n) (test n) e in
    ⊎_elim (λ q. rw q b.1) (λ l. walk_at test n i b.0 l) (eq-or-lt_of_le (omega arith))

pub walk_all : (test : ℕ → Bool) (n : ℕ) → ((i : ℕ) → i < n → test i ≡ true) → up_to test n ≡ true
unfolding up_to
walk_all test zero e = refl
walk_all test (suc n) e = rw (walk_all test n (λ i h. e i (omega arith)), e n (omega arith))

module _ (inputs displays : List ℤ) (count : ℕ) (e : points_in inputs displays count ≡ true) where
  halves : (up_to (point_in inputs displays) count ≡ true) × (up_to (rises_at inputs) (count - 1) ≡ true)
  unfolding points_in
  halves = both (up_to (point_in inputs displays) count) (up_to (rises_at inputs) (count - 1)) e

  pub input_at : (k : ℕ) → k < count → in_input (point inputs k) ≡ true
  input_at k h =
      (both (in_input (point inputs k)) (in_display (point displays k)) (walk_at (point_in inputs displays) count k halves.0 h)).0

  pub display_at : (k : ℕ) → k < count → in_display (point displays k) ≡ true
  display_at k h =
      (both (in_input (point inputs k)) (in_display (point displays k)) (walk_at (point_in inputs displays) count k halves.0 h)).1

  pub rises_at_lem : (k : ℕ) → k + 1 < count → lt_z (point inputs k) (point inputs (k + 1)) ≡ true
  rises_at_lem k h = walk_at (rises_at inputs) (count - 1) k halves.1 (omega arith)
