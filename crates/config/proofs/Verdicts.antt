-- The verdict, rule by rule, and what it means: accepted exactly where all rules are kept, and otherwise the number of the first
-- broken one. Assumes nothing.
use mathlib.Core.Path.{◌≡◌, refl, sym, ap, ◌∙◌}
use mathlib.Core.Bool.{Bool, true, false}
use mathlib.Core.List.{List, [], ◌∷◌}
use mathlib.Core.Logic.{◌↔◌}
use Prim.Native.Nat.{ℕ, zero, suc, ◌+◌, ◌<◌}
use native.Mathlib.Omega.{arith}
use lib.ListN.{length}
use Rattle.std.specs.Prelude.{Ok, Err}
use Rattle.exact.proofs.Z.{never}
use Rattle.config.specs.Config.{rules, first_broken, judged}
use Rattle.config.specs.Meaning.{kept_at, AllKept, BreaksFirst}
use Rattle.config.specs.declared.Config.{Config}
use Rattle.config.specs.declared.Rule.{Rule}
use Rattle.config.specs.Verdict.{Accepted, Broken, unless}

-- ---- one rule

pub passes : (n : ℕ) (kept : Bool) (rest : List Bool) → kept ≡ true → first_broken n (kept ∷ rest) ≡ first_broken (suc n) rest
unfolding first_broken
passes n kept rest e = rw e

pub breaks : (n : ℕ) (kept : Bool) (rest : List Bool) → kept ≡ false → first_broken n (kept ∷ rest) ≡ Broken n
unfolding first_broken
breaks n kept rest e = rw e

-- what is told where a rule is kept, and where it is broken
pub passed : (rule : Rule) (kept : Bool) (u : Unit {0}) → unless rule kept ≡ Ok u → kept ≡ true
passed rule true u e = refl
passed rule false u e = cc

pub failed : (rule : Rule) (kept : Bool) (broken : Rule) → unless rule kept ≡ Err broken → (kept ≡ false) × (broken ≡ rule)
failed rule true broken e = cc
failed rule false broken e = (refl, cc)

-- ---- all rules

-- the two ways in which a list of rules can be judged
pub data Judged (n : ℕ) (rs : List Bool) : Type 0 where
  all_kept : AllKept rs → first_broken n rs ≡ Accepted → Judged n rs
  one_broken : (k : ℕ) → BreaksFirst rs k → first_broken n rs ≡ Broken (n + k) → Judged n rs

all_more : (rs : List Bool) → AllKept rs → AllKept (true ∷ rs)
all_more rs a = record { kept = at }
  where
    at : (k : ℕ) → k < length (true ∷ rs) → kept_at (true ∷ rs) k ≡ true
    at zero h = refl
    at (suc k) h = a.kept k (omega arith)

first_more : (rs : List Bool) (k : ℕ) → BreaksFirst rs k → BreaksFirst (true ∷ rs) (suc k)
first_more rs k b = record { there = omega (arith, b.there); broken = b.broken; kept = at }
  where
    at : (j : ℕ) → j < suc k → kept_at (true ∷ rs) j ≡ true
    at zero h = refl
    at (suc j) h = b.kept j (omega arith)

more : (n : ℕ) (rs : List Bool) → Judged (suc n) rs → Judged n (true ∷ rs)
more n rs (all_kept a e) = all_kept (all_more rs a) (passes n true rs refl ∙ e)
more n rs (one_broken k b e) =
    one_broken (suc k) (first_more rs k b) (passes n true rs refl ∙ e ∙ ap Broken (omega arith))

pub by_rules : (n : ℕ) (rs : List Bool) → Judged n rs
unfolding first_broken
by_rules n [] = all_kept (record { kept = λ k h. absurd (omega arith) }) refl
by_rules n (true ∷ rs) = more n rs (by_rules (suc n) rs)
by_rules n (false ∷ rs) =
    one_broken 0 (record { there = omega arith; broken = refl; kept = λ j h. absurd (omega arith) })
    (breaks n false rs refl ∙ ap Broken (omega arith))

-- ---- a configuration

kept_by : (n : ℕ) (rs : List Bool) → Judged n rs → first_broken n rs ≡ Accepted → AllKept rs
kept_by n rs (all_kept a e) p = a
kept_by n rs (one_broken k b e) p = let z : ◌≡◌ {A = ℕ} 0 1 = cc in absurd (omega arith)

accepted_by : (n : ℕ) (rs : List Bool) → Judged n rs → AllKept rs → first_broken n rs ≡ Accepted
accepted_by n rs (all_kept a e) k = e
accepted_by n rs (one_broken i b e) k = never (sym b.broken ∙ k.kept i b.there)

-- accepted exactly where all ten rules are kept
pub accepted : (c : Config) → judged c ≡ Accepted ↔ AllKept (rules c)
unfolding judged
accepted c = (kept_by 1 (rules c) (by_rules 1 (rules c)), accepted_by 1 (rules c) (by_rules 1 (rules c)))

broken_is : (n : ℕ) (rs : List Bool) (k : ℕ) → Judged n rs → first_broken n rs ≡ Broken (n + k) → BreaksFirst rs k
broken_is n rs k (all_kept a e) p = let z : ◌≡◌ {A = ℕ} 0 1 = cc in absurd (omega arith)
broken_is n rs k (one_broken i b e) p =
    let z : n + i ≡ n + k = cc in
    let s : i ≡ k = omega arith in
    rw s at b

same_first : (rs : List Bool) (i k : ℕ) → BreaksFirst rs i → BreaksFirst rs k → i < k → ⊥
same_first rs i k a b h = never (sym a.broken ∙ b.kept i h)

broken_by : (n : ℕ) (rs : List Bool) (k : ℕ) → Judged n rs → BreaksFirst rs k → first_broken n rs ≡ Broken (n + k)
broken_by n rs k (all_kept a e) b = never (sym b.broken ∙ a.kept k b.there)
broken_by n rs k (one_broken i a e) b =
    let s : i ≡ k = omega (arith, same_first rs i k a b, same_first rs k i b a) in
    e ∙ ap (λ (j : ℕ). Broken (n + j)) s

-- and the number is that of the first broken one
pub broken : (c : Config) (k : ℕ) → judged c ≡ Broken (1 + k) ↔ BreaksFirst (rules c) k
unfolding judged
broken c k = (broken_is 1 (rules c) k (by_rules 1 (rules c)), broken_by 1 (rules c) k (by_rules 1 (rules c)))
