-- The pair of an input, counted: in a list that rises the right entries below x come first, and as many as they are is the left place of
-- the first pair whose right entry is not below x. Assumes nothing.
use Rattle.std.proofs.Common.{◌≡◌, ◌∙◌, refl, sym, Bool, true, false, List, ℕ, ◌+◌, ◌≤◌, ◌<◌, length, get_or, ℤ, pos, arith, zero-le}
use Rattle.std.specs.List.Sorted.{IsPartitionedBy, IsPartitionPoint}
use mathlib.Core.Logic.{⊎_elim}
use native.Mathlib.Nat.{eq-or-lt_of_le}
use lib.Signed.{lt_z, le_z}
use lib.Dec.{lit≤}
use Rattle.exact.proofs.Z.{never, le_refl, lt_le, le_trans, not_lt, le_not_lt, lt_le_le}
use Rattle.reading.specs.Reading.{point, segment}
use Rattle.reading.proofs.Laws.{segment_is, segment_only, rising_between}
use Rattle.platinum.specs.Platinum.{entries}
use Rattle.platinum.specs.Meaning.{Rising}

-- what is at most a number below c is below c
le_lt : (a b c : ℤ) → le_z a b ≡ true → lt_z b c ≡ true → lt_z a c ≡ true
le_lt a b c p q = go (lt_z a c) refl
  where
    go : (t : Bool) → lt_z a c ≡ t → lt_z a c ≡ true
    go true e = e
    go false e = absurd (lt_le_le b c a q (not_lt a c e) p)

module _ (table : List ℤ) (r : Rising table) where
  -- of two places the later has no lower entry
  pub not_below : (j k : ℕ) → j ≤ k → k < entries → le_z (point table j) (point table k) ≡ true
  not_below j k l h =
      ⊎_elim (λ e. rw e (le_refl (point table k))) (λ u. lt_le (point table j) (point table k) (rising_between table entries r.rises j k u h)) (eq-or-lt_of_le l)

  -- where the right entry of pair m is not below x, the pair of x is not behind m
  pub not_behind : (x : ℤ) (m : ℕ) → le_z x (point table (m + 1)) ≡ true → segment table entries x ≤ m
  not_behind x m t =
      let not : m < segment table entries x → ⊥ = λ l. never (sym (le_not_lt (point table (m + 1)) x t) ∙ (segment_is table entries x (lit≤ tt)).before m l) in
      omega (arith, not)

  -- where it is below x, the pair is behind m
  pub behind : (x : ℤ) (m : ℕ) → m + 2 < entries → le_z x (point table (m + 1)) ≡ false → m < segment table entries x
  behind x m h t =
      let k = segment table entries x in
      let not : k ≤ m → ⊥ =
      λ l. never (sym t ∙ le_trans x (point table (k + 1)) (point table (m + 1)) ((segment_is table entries x (lit≤ tt)).here (omega arith)) (not_below (k + 1) (m + 1) (omega arith) (omega arith))) in
      omega (arith, not)

  -- of the right entries of all pairs but the last
  module _ (x : ℤ) (rights : List ℤ) (all : length rights + 2 ≡ entries) (right : (k : ℕ) (d : ℤ) → k < length rights → get_or rights k d ≡ point table (k + 1)) where
    pub parted : IsPartitionedBy (λ y. lt_z y x) rights
    parted i j d l h t =
        let e = right i d (omega arith) in
        let f = right j d h in
        rw e (le_lt (point table (i + 1)) (point table (j + 1)) x (not_below (i + 1) (j + 1) (omega arith) (omega arith)) (rw f at t))

    pub pair_is : (k : ℕ) → k ≤ length rights → IsPartitionPoint (λ y. lt_z y x ≡ true) (λ y. lt_z y x ≡ false) rights k → k ≡ segment table entries x
    pair_is k h p =
        sym (segment_only table entries x k (record {
          there = omega arith;
          before = λ j l. let e = right j (pos 0) (omega arith) in rw (← e) (p.0 j (pos 0) zero-le l);
          here = λ l. let e = right k (pos 0) (omega arith) in not_lt (point table (k + 1)) x (rw e at (p.1 k (pos 0) (omega arith) (omega arith)));
        }))
