-- What a verdict is to mean, said of the list of rules alone. Rule k + 1 stands at place k.
use Rattle.std.specs.Prelude.{◌≡◌, Bool, true, false, List, ℕ, ◌<◌, length, get_or}

-- whether the rule at a place is kept
abbrev pub kept_at : List Bool → ℕ → Bool
kept_at rules k = get_or rules k true

-- every rule is kept
pub record AllKept (rules : List Bool) : Type 0 where
  pub kept : (k : ℕ) → k < length rules → kept_at rules k ≡ true

-- the rule at place k is broken, and every one before it is kept
pub record BreaksFirst (rules : List Bool) (k : ℕ) : Type 0 where
  pub there : k < length rules
  pub broken : kept_at rules k ≡ false
  pub kept : (j : ℕ) → j < k → kept_at rules j ≡ true
