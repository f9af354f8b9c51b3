-- Whole numbers made of exact fractions. A fraction n / d has a signed n and a natural d above zero; each definition is said on
-- both sides of zero, n ≥ 0 first and n < 0 second, where `negsuc n` is -(n + 1).
use Rattle.std.specs.Prelude.{◌≡◌, false, ℕ, suc, ◌+◌, ◌*◌, ◌/◌, ◌^◌, ◌≤◌, ◌<◌, ℤ, pos, negsuc, neg_ℤ, nat_abs, ◌*ℤ◌}
use Rattle.exact.specs.Sign.{is_neg}

-- n / d and a half, rounded down: the nearest whole number, and of two that are as near the upper one
unfoldable pub half_up : ℕ → ℕ → ℕ
half_up n d = (2 * n + d) / (2 * d)

-- the nearest whole number to n / d, halves away from zero
unfoldable pub nearest : ℤ → ℕ → ℤ
nearest (pos n) d = pos (half_up n d)
nearest (negsuc n) d = neg_ℤ (pos (half_up (suc n) d))

-- the nearest multiple of a step to v, halves away from zero
unfoldable pub to_step : ℤ → ℕ → ℤ
to_step v step = nearest v step *ℤ pos step

-- n / d cut towards zero
unfoldable pub cut : ℤ → ℕ → ℤ
cut (pos n) d = pos (n / d)
cut (negsuc n) d = neg_ℤ (pos (suc n / d))

-- the greatest whole number that is not above n / d
unfoldable pub floor : ℤ → ℕ → ℤ
floor (pos n) d = pos (n / d)
floor (negsuc n) d = negsuc (n / d)

-- a divisor above zero
pub record Divisor (d : ℤ) : Type 0 where
  pub above : is_neg d ≡ false
  pub some : 0 < nat_abs d

-- a fraction whose numbers are small enough to be doubled and added up in 64 bits
pub record Fraction (n d : ℤ) : Type 0 where
  pub divisor : Divisor d
  pub small : nat_abs n ≤ 10 ^ 18
  pub narrow : nat_abs d ≤ 10 ^ 18
