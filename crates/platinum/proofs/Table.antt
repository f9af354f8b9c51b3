-- The stored table is the polynomial's, and it rises: each rule is one test that is computed over the whole table. Assumes nothing.
use mathlib.Core.Path.{◌≡◌, refl, sym, ap, ◌∙◌}
use mathlib.Core.Bool.{Bool, true, false, cond, ◌&&◌}
use mathlib.Core.List.{List, [], ◌∷◌}
use borrow.Author.Tests.{ltb-true, ltb-false, le-ltb}
use Prim.Native.Nat.{ℕ, zero, suc, ◌+◌, ◌≤◌, ◌<◌}
use native.Mathlib.Numerals.{add-one}
use native.Mathlib.Omega.{arith}
use lib.Dec.{ltb, lit<}
use lib.IntN.{ℤ, pos, negsuc, nat_abs, ◌+ℤ◌, ◌-ℤ◌, ◌*ℤ◌, neg_ℤ, neg_ℤ-+ℤ, neg_ℤ-neg_ℤ, +ℤ_assoc, +ℤ_comm}
use lib.ListN.{length}
use lib.Signed.{lt_z}
use Rattle.exact.specs.Sign.{is_neg, eq_z}
use Rattle.exact.specs.Exact.{floor}
use Rattle.exact.proofs.Z.{never, both, eq_z_true, abs_diff}
use Rattle.exact.proofs.Meaning.{floor_is, floor_only}
use Rattle.exact.proofs.Table.{every, at}
use Rattle.reading.specs.Reading.{point}
use Rattle.platinum.specs.Table.{resistances}
use Rattle.platinum.specs.Platinum.{polynomial, resistance_at, entries, entry, degree_at}
use Rattle.platinum.specs.Meaning.{IsNearestUp, Rising, Stored}

-- ---- the two tests

all : length resistances ≡ entries
unfolding resistances
all = refl

abbrev is_nearest : ℕ → ℤ → Bool
is_nearest k r = eq_z r (resistance_at (degree_at k))

each_nearest : every (pos 0) is_nearest 0 resistances ≡ true
unfolding floor resistances
each_nearest = refl

-- each number of a list is below the next
unfoldable climbs : List ℤ → Bool
climbs [] = true
climbs (x ∷ []) = true
climbs (x ∷ y ∷ l) = lt_z x y && climbs (y ∷ l)

each_climbs : climbs resistances ≡ true
unfolding climbs resistances
each_climbs = refl

-- ---- what they say at an entry

pub entry_is : (k : ℕ) → k < entries → entry k ≡ resistance_at (degree_at k)
entry_is k h = eq_z_true (entry k) (resistance_at (degree_at k)) (at (pos 0) is_nearest resistances each_nearest k (rw all h))

climbs_at : (l : List ℤ) (k : ℕ) → climbs l ≡ true → suc k < length l → lt_z (point l k) (point l (suc k)) ≡ true
unfolding climbs
climbs_at [] k e h = absurd (omega arith)
climbs_at (x ∷ []) k e h = absurd (omega arith)
climbs_at (x ∷ y ∷ l) zero e h = (both (lt_z x y) (climbs (y ∷ l)) e).0
climbs_at (x ∷ y ∷ l) (suc k) e h = climbs_at (y ∷ l) k (both (lt_z x y) (climbs (y ∷ l)) e).1 (omega arith)

pub rising : Rising resistances
rising = record { rises = λ k h. rw (add-one k) (climbs_at resistances k each_climbs (rw all (omega arith))) }

-- ---- the floor with a half added is the nearest whole number, halves up

sign_of : (h a : ℕ) (t : Bool) → ltb h a ≡ t → is_neg (pos h -ℤ pos a) ≡ t
sign_of h zero true e = absurd (omega (arith, ltb-true h 0 e))
sign_of h zero false e = refl
sign_of h (suc a) true e = rw e
sign_of h (suc a) false e = rw e

-- a distance z lies above -h and is at most h
around : (z : ℤ) (h : ℕ) → is_neg (pos h -ℤ z) ≡ false → nat_abs (pos h -ℤ z) < h + h → (nat_abs z ≤ h) × (nat_abs z ≡ h → is_neg z ≡ false)
around (pos a) h s n = (by_test (ltb h a) refl, λ e. refl)
  where
    by_test : (t : Bool) → ltb h a ≡ t → a ≤ h
    by_test true e = never (sym s ∙ sign_of h a true e)
    by_test false e = ltb-false h a e
around (negsuc a) h s n = (omega arith, λ e. absurd (omega arith))

-- and a number that is as near, and at a half above, has such a distance
around_is : (z : ℤ) (h : ℕ) → 0 < h → nat_abs z ≤ h → (nat_abs z ≡ h → is_neg z ≡ false) → (is_neg (pos h -ℤ z) ≡ false) × (nat_abs (pos h -ℤ z) < h + h)
around_is (pos a) h p n u = (sign_of h a false (le-ltb h a n), omega (arith, abs_diff h a))
around_is (negsuc a) h p n u =
    let away : suc a ≡ h → ⊥ = λ e. never (sym (u e)) in
    (refl, omega (arith, away))

-- what is left of n and a half is the half less the distance
left_is : (n w : ℤ) (h : ℕ) → (n +ℤ pos h) -ℤ w ≡ pos h -ℤ (w -ℤ n)
left_is n w h =
    ap (λ (z : ℤ). z +ℤ neg_ℤ w) (+ℤ_comm n (pos h))
    ∙ +ℤ_assoc (pos h) n (neg_ℤ w)
    ∙ ap (λ (z : ℤ). pos h +ℤ z) (+ℤ_comm n (neg_ℤ w) ∙ ap (λ (z : ℤ). neg_ℤ w +ℤ z) (sym (neg_ℤ-neg_ℤ n)) ∙ sym (neg_ℤ-+ℤ w (neg_ℤ n)))

floor_nearest : (n : ℤ) (h : ℕ) → 0 < h → IsNearestUp n (h + h) (floor (n +ℤ pos h) (h + h))
floor_nearest n h p =
    let r = floor (n +ℤ pos h) (h + h) in
    let f = floor_is (n +ℤ pos h) (h + h) (omega arith) in
    let w = pos (h + h) *ℤ r in
    let a = around (w -ℤ n) h (rw (left_is n w h) at f.below) (rw (left_is n w h) at f.near) in
    record { near = omega (arith, a.0); up = λ e. a.1 (omega arith) }

nearest_floor : (n r : ℤ) (h : ℕ) → 0 < h → IsNearestUp n (h + h) r → r ≡ floor (n +ℤ pos h) (h + h)
nearest_floor n r h p i =
    let w = pos (h + h) *ℤ r in
    let a = around_is (w -ℤ n) h p (omega (arith, i.near)) (λ e. i.up (omega arith)) in
    floor_only (n +ℤ pos h) (h + h) r (record { below = rw (left_is n w h) a.0; near = rw (left_is n w h) a.1 })

-- ---- the claim

-- by the sign of the degree: so many parts, and half of them
nearest_by : (below : Bool) (n : ℤ) → IsNearestUp n (cond below 10000000000 100000) (floor (n +ℤ pos (cond below 5000000000 50000)) (cond below 10000000000 100000))
nearest_by true n = floor_nearest n 5000000000 (lit< tt)
nearest_by false n = floor_nearest n 50000 (lit< tt)

only_by : (below : Bool) (n r : ℤ) → IsNearestUp n (cond below 10000000000 100000) r → r ≡ floor (n +ℤ pos (cond below 5000000000 50000)) (cond below 10000000000 100000)
only_by true n r i = nearest_floor n r 5000000000 (lit< tt) i
only_by false n r i = nearest_floor n r 50000 (lit< tt) i

pub stored : Stored
unfolding resistances
stored =
    record {
      all = all;
      first = refl;
      last = refl;
      nearest = λ k h. rw (entry_is k h) (nearest_by (is_neg (degree_at k)) (polynomial (degree_at k)));
      only = λ k r h i. only_by (is_neg (degree_at k)) (polynomial (degree_at k)) r i ∙ sym (entry_is k h);
      rising = rising;
      ends = (refl, refl);
    }
