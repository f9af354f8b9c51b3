use Rattle.std.proofs.Common.{◌≡◌, ℕ, ◌<◌, ℤ}
use Rattle.segments.specs.Segments.{held}
use Rattle.scaling.proofs.held.Given as goal

abbrev pub invariant-loop-k : goal.invariant-loop-k
invariant-loop-k g l = (f : ℕ → ℤ) → ((k : ℕ) (z : ℤ) → k < l.used → goal.F-post g l.number k z → z ≡ f k) → l.list ≡ held l.k l.unused f
