-- Lines and what they say, in one table with one claim. Assumes nothing.
use mathlib.Core.Path.{◌≡◌, refl}
use mathlib.Core.List.{List, [], ◌∷◌, ◌++◌, map}
use Prim.Native.Nat.{ℕ}
use lib.IntN.{pos, negsuc}
use lib.ListN.{replicate}
use Rattle.text.specs.Number.{digits, value, natural_of, signed_of, number_of, spelled}
use Rattle.std.specs.Prelude.{Option, Some, None}
use Rattle.bench_line.specs.Grammar.{Asked, sample, key, chars, said_of, parsed}

pub record Row : Type 0 where
  pub line : List ℕ
  pub says : Option Asked

abbrev pub row : List ℕ → Option Asked → Row
row l p = record { line = l; says = p }

-- `S `, `K ` and `C ` before the rest of a line
abbrev s : List ℕ → List ℕ
s l = 83 ∷ 32 ∷ l

abbrev k : List ℕ → List ℕ
k l = 75 ∷ 32 ∷ l

abbrev c : List ℕ → List ℕ
c l = 67 ∷ 32 ∷ l

abbrev pub rows : List Row
unfolding spelled
rows =
    row (s (spelled 3 437)) (Some (sample (pos 437)))
    ∷ row (s (spelled 10 437)) (Some (sample (pos 437)))
    ∷ row (s (spelled 11 437)) None
    ∷ row (s (45 ∷ spelled 1 1)) (Some (sample (negsuc 0)))
    ∷ row (s (45 ∷ spelled 1 0)) (Some (sample (pos 0)))
    ∷ row (s (spelled 10 2147483647)) (Some (sample (pos 2147483647)))
    ∷ row (s (spelled 10 2147483648)) None
    ∷ row (s (45 ∷ spelled 10 2147483648)) (Some (sample (negsuc 2147483647)))
    ∷ row (s (45 ∷ spelled 10 2147483649)) None
    ∷ row (s (spelled 10 9999999999)) None
    ∷ row (s []) None
    ∷ row (s (45 ∷ [])) None
    ∷ row (s (45 ∷ 45 ∷ spelled 1 1)) None
    ∷ row (s (43 ∷ spelled 1 1)) None
    ∷ row (s (32 ∷ spelled 1 1)) None
    ∷ row (s (spelled 1 1 ++ (13 ∷ []))) None
    ∷ row (115 ∷ 32 ∷ spelled 1 1) None
    ∷ row (k (spelled 1 6)) (Some (key (pos 6)))
    ∷ row (k (45 ∷ spelled 1 6)) (Some (key (negsuc 5)))
    ∷ row (k (spelled 1 6 ++ (32 ∷ []))) None
    ∷ row (c []) None
    ∷ row (c (32 ∷ [])) (Some (chars (32 ∷ [])))
    ∷ row (c (0 ∷ 255 ∷ 13 ∷ [])) (Some (chars (0 ∷ 255 ∷ 13 ∷ [])))
    ∷ row (c (replicate 80 120)) (Some (chars (replicate 80 120)))
    ∷ row (c (replicate 81 120)) None
    ∷ row (67 ∷ 9 ∷ 120 ∷ []) None
    ∷ row [] None
    ∷ []

pub cases : map (λ (r : Row). parsed r.line) rows ≡ map (λ (r : Row). r.says) rows
unfolding parsed said_of number_of signed_of natural_of digits value spelled
cases = refl
