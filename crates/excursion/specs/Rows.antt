-- What the printed rows say, of any number of polls and of rows of any length.
use Rattle.std.specs.Prelude.{◌≡◌, true, false, ℕ, suc, ◌≤◌}
use Rattle.looking.specs.Polls.{lit}
use Rattle.excursion.specs.Old.{old_lit}

pub record Rows : Type 0 where
  -- this core's rows are the same whatever the number of polls, and off from the fourth sample below the setpoint on
  pub same : (n k : ℕ) → lit n k ≡ lit 0 k
  pub off : (n k : ℕ) → 4 ≤ k → lit n k ≡ false
  -- the old core has that row too where nobody looks, and is on for good where somebody does
  pub unlooked : (k : ℕ) → old_lit 0 k ≡ lit 0 k
  pub looked : (n k : ℕ) → old_lit (suc n) k ≡ true
