-- A table's rule, proved at all of its entries by one test that is computed over the whole table; and the search in a table. Assumes nothing.
use mathlib.Core.Path.{◌≡◌, refl, sym, subst, ◌∙◌}
use mathlib.Core.Bool.{Bool, true, false, ◌&&◌, ◌||◌}
use mathlib.Core.List.{List, [], ◌∷◌}
use Prim.Native.Nat.{ℕ, zero, suc, ◌+◌, ◌*◌, ◌^◌, ◌/◌, ◌%◌, ◌≤◌, ◌<◌}
use native.Mathlib.Nat.{add-zero, zero-add, add-suc, suc-add, le_of_suc-le-suc, not-suc-le-zero}
use native.Mathlib.Omega.{arith}
use borrow.Author.Tests.{eqb-true}
use lib.Dec.{eqb}
use lib.ListN.{length, get_or}
use lib.IntN.{ℤ, pos, nat_abs}
use lib.Signed.{le_z}
use Rattle.std.specs.List.{list_any}
use Rattle.std.specs.Ordering.{int_eq}
use Rattle.std.proofs.lemmas.Bool.Decides.{same_from_decides, Decides-int_eq}
use Rattle.exact.specs.Sign.{is_neg, eq_z}
use Rattle.exact.specs.Tables.{steps, among, powers}
use Rattle.exact.proofs.Z.{both, never, eq_z_true, eq_z_refl, from_to}

module _ {A : Type 0} (none : A) where
  -- the test passes at each entry of the list and its place, counted from i
  abbrev pub every : (ℕ → A → Bool) → ℕ → List A → Bool
  every f i [] = true
  every f i (x ∷ xs) = f i x && every f (suc i) xs

  from : (f : ℕ → A → Bool) (xs : List A) (i : ℕ) → every f i xs ≡ true → (k : ℕ) → k < length xs → f (i + k) (get_or xs k none) ≡ true
  from f [] i t k h = absurd (not-suc-le-zero h)
  from f (x ∷ xs) i t zero h = subst (λ (m : ℕ). f m x ≡ true) (sym (add-zero i)) (both (f i x) (every f (suc i) xs) t).0
  from f (x ∷ xs) i t (suc k) h =
      subst (λ (m : ℕ). f m (get_or xs k none) ≡ true) (suc-add i k ∙ sym (add-suc i k))
      (from f xs (suc i) (both (f i x) (every f (suc i) xs) t).1 k (le_of_suc-le-suc h))

  -- the rule at an entry, from the test of all
  pub at : (f : ℕ → A → Bool) (xs : List A) → every f 0 xs ≡ true → (k : ℕ) → k < length xs → f k (get_or xs k none) ≡ true
  at f xs t k h = subst (λ (m : ℕ). f m (get_or xs k none) ≡ true) (zero-add k) (from f xs 0 t k h)

-- ---- powers of ten: entry k is 10 to the k

pub power_at : (k : ℕ) → k ≤ 4 → get_or powers k 0 ≡ 10 ^ k
power_at k h = eqb-true _ _ (at 0 (λ i x. eqb x (10 ^ i)) powers refl k (omega arith))

-- ---- rounding steps: entry k is 1, 2 or 5 times a power of ten

abbrev pub leading : List ℕ
leading = 1 ∷ 2 ∷ 5 ∷ []

pub step_at : (k : ℕ) → k < 7 → get_or steps k (pos 0) ≡ pos (get_or leading (k % 3) 0 * 10 ^ (k / 3))
step_at k h = eq_z_true _ _ (at (pos 0) (λ i x. eq_z x (pos (get_or leading (i % 3) 0 * 10 ^ (i / 3)))) steps refl k h)

-- ---- the search in a table of signed numbers

-- std's `==` is the definitions' test of equality
pub int_eq_is : (x z : ℤ) → int_eq x z ≡ eq_z z x
int_eq_is x z =
    same_from_decides (int_eq x z) (eq_z z x) (Decides-int_eq x z) ((λ e. sym (eq_z_true z x e)), λ e. rw e (eq_z_refl z))

-- a number that is equal to an entry stands among them
pub any_among : (z : ℤ) (xs : List ℤ) → list_any (λ x. int_eq x z) xs ≡ among z xs
unfolding among
any_among z [] = refl
any_among z (x ∷ xs) = rw (int_eq_is x z, any_among z xs)

-- what holds of every entry holds of a number that stands among them
by_entry : (test : ℤ → Bool) (z x : ℤ) (b r : Bool) → eq_z z x ≡ b → test x ≡ true → (r ≡ true → test z ≡ true) → b || r ≡ true → test z ≡ true
by_entry test z x true r q t k u = rw (eq_z_true z x q) t
by_entry test z x false r q t k u = k u

pub among_rule : (test : ℤ → Bool) (z : ℤ) (xs : List ℤ) (i : ℕ) → every (pos 0) (λ k x. test x) i xs ≡ true → among z xs ≡ true → test z ≡ true
unfolding among
among_rule test z [] i t e = never e
among_rule test z (x ∷ xs) i t e =
    let b = both (test x) (every (pos 0) (λ k x. test x) (suc i) xs) t in
    by_entry test z x (eq_z z x) (among z xs) refl b.0 (among_rule test z xs (suc i) b.1) e

-- a rounding step is 1 to 100
pub step_range : (z : ℤ) → among z steps ≡ true → (is_neg z ≡ false) × ((1 ≤ nat_abs z) × (nat_abs z ≤ 100))
step_range z e = from_to z 1 100 (among_rule (λ x. le_z (pos 1) x && le_z x (pos 100)) z steps 0 refl e)
