-- A run over a history of samples, as every caller of `counted` keeps it.
use Rattle.std.specs.Prelude.{Bool, List, [], ◌∷◌, ℕ}
use Rattle.run.specs.declared.Run.{Run}
use Rattle.run.specs.declared.Run.TheVariants.{Broken, Going, Complete}
use Rattle.run.specs.Run.{counted}

-- what is left of the run after a sample: broken or complete, it begins again at 0
unfoldable pub left : Run → ℕ
left Broken = 0
left (Going n) = n
left Complete = 0

-- the run after samples that began at run 0, the newest first, of each of which is said whether the condition held
unfoldable pub run_after : ℕ → List Bool → ℕ
run_after count [] = 0
run_after count (holds ∷ past) = left (counted (run_after count past) holds count)
