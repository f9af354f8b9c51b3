-- A list by its length: empty, a first byte and the rest, exactly one byte.
use mathlib.Core.Path.{◌≡◌, refl, sym, ap}
use mathlib.Core.List.{List, [], ◌∷◌}
use Prim.Native.Nat.{ℕ, suc, ◌-◌, ◌<◌}
use native.Mathlib.Omega.{arith}
use lib.ListN.{length, get_or, take, drop}
use lib.Seq.{take_all}

pub none : (s : List ℕ) → length s ≡ 0 → s ≡ []
none [] h = refl
none (b ∷ s) h = absurd (omega arith)

-- what the code's `&s[1..]` holds: the list behind its first byte
abbrev pub behind : List ℕ → List ℕ
behind s = take (length s - 1) (drop 1 s)

first : (s : List ℕ) → 0 < length s → s ≡ get_or s 0 0 ∷ behind s
first [] h = absurd (omega arith)
first (b ∷ s) h = ap (λ (t : List ℕ). b ∷ t) (sym (take_all (suc (length s) - 1) s (omega arith)))

-- what is said of a list that has a first byte
pub split : {A : Type 0} (f : List ℕ → A) (s : List ℕ) → 0 < length s → f s ≡ f (get_or s 0 0 ∷ behind s)
split f s h = ap f (first s h)

-- a list of one byte
pub one : (s : List ℕ) → length s ≡ 1 → s ≡ get_or s 0 0 ∷ []
one [] h = absurd (omega arith)
one (b ∷ []) h = refl
one (b ∷ c ∷ s) h = absurd (omega arith)
