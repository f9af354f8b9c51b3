-- A table that has one column of a list's entries, and what it has at a place. A reader looks the registers' tables up by it.
use Rattle.std.proofs.Common.{◌≡◌, refl, sym, ap, List, [], ◌∷◌, ℕ, zero, suc, ◌<◌, ◌≤◌, length, get_or, arith}
use Rattle.std.specs.Prelude.{map}
use lib.ListN.{get_or-eq_default}

-- below the length it does not matter what stands past the end
pub column : {A B : Type 0} (f : A → B) (l : List A) (i : ℕ) (d : A) (e : B) → i < length l → get_or (map f l) i e ≡ f (get_or l i d)
column f [] i d e h = absurd (omega arith)
column f (x ∷ l) zero d e h = refl
column f (x ∷ l) (suc i) d e h = column f l i d e (omega arith)

pub past : {A B : Type 0} (f : A → B) (l : List A) (i : ℕ) (d : A) → length l ≤ i → f d ≡ f (get_or l i d)
past f l i d h = ap f (sym (get_or-eq_default l d h))
