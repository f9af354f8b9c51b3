-- Runs of samples.
use Rattle.std.specs.Prelude.{Bool, cond, ℕ, ◌+◌, ◌*◌, max, ltb, ℤ, pos, negsuc}
use Rattle.run.specs.declared.Run.{Run}
use Rattle.run.specs.declared.Run.TheVariants.{Broken, Going, Complete}

-- max(1, 2 × tenths)
unfoldable pub samples : ℤ → ℕ
samples (pos tenths) = max 1 (2 * tenths)
samples (negsuc n) = 1

-- a run of so many successive samples after one more: it goes on where the condition holds, is complete at the count, and is
-- broken by any other sample
unfoldable pub counted : ℕ → Bool → ℕ → Run
counted run holds count = cond holds (cond (ltb (run + 1) count) (Going (run + 1)) Complete) Broken
