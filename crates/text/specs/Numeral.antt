-- A number as it is printed.
use Rattle.std.specs.Prelude.{ℕ, zero, suc, ◌+◌, ◌^◌, cond, List, ltb}
use Rattle.io.specs.Digits.{last_digits}

-- the fewest digits that hold n, from k on
unfoldable pub fewest : ℕ → ℕ → ℕ → ℕ
fewest zero k n = k
fewest (suc f) k n = cond (ltb n (10 ^ k)) k (fewest f (k + 1) n)

-- a number in decimal, with no zero before it
unfoldable pub numeral : ℕ → List ℕ
numeral n = last_digits 10 (fewest 19 1 n) n
