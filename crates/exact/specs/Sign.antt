-- Tests on signed numbers that compute, how the numbers below zero are written, and a number held to limits.
use Rattle.std.specs.Prelude.{Bool, true, false, cond, ◌&&◌, ℕ, eqb, ℤ, pos, negsuc, neg_ℤ}
use Rattle.std.specs.Int.Signed.{lt_z, le_z}

-- z is below zero; `negsuc n` is -(n + 1)
abbrev pub is_neg : ℤ → Bool
is_neg (pos n) = false
is_neg (negsuc n) = true

-- two numbers are equal
abbrev pub eq_z : ℤ → ℤ → Bool
eq_z (pos a) (pos b) = eqb a b
eq_z (pos a) (negsuc b) = false
eq_z (negsuc a) (pos b) = false
eq_z (negsuc a) (negsuc b) = eqb a b

-- -n, for the numbers of document 01 that lie below zero
abbrev pub minus : ℕ → ℤ
minus n = neg_ℤ (pos n)

-- lo ≤ z ≤ hi
abbrev pub within : ℤ → ℤ → ℤ → Bool
within lo hi z = le_z lo z && le_z z hi

-- z held to lo to hi: lo where it lies below, hi where it lies above, else z itself
abbrev pub held_to : ℤ → ℤ → ℤ → ℤ
held_to lo hi z = cond (lt_z z lo) lo (cond (lt_z hi z) hi z)
