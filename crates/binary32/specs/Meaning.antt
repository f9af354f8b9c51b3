-- What a display's bits are to be, said in whole numbers and without a float; and what is claimed of them.
use Rattle.std.specs.Prelude.{◌≡◌, Bool, true, false, cond, ℕ, ◌+◌, ◌-◌, ◌*◌, ◌%◌, ◌^◌, ◌≤◌, ◌<◌, ℤ, nat_abs}
use Rattle.std.specs.Float.{binary32}
use Rattle.std.specs.Float.Ieee.{of_bits, nan_bits}
use Rattle.exact.specs.Sign.{is_neg}
use Rattle.reading.specs.Reading.{in_display}
use Rattle.binary32.specs.Binary32.{value, bits, display_of}

-- |a - b|
abbrev pub apart : ℕ → ℕ → ℕ
apart a b = (a - b) + (b - a)

-- b is the pattern, its sign left out, of the binary32 that is nearest to n / d: it stands for m / 2^scale, with an m of 24 binary digits. The
-- distance of m / 2^scale from n / d is taken d × 2^scale times over, so that it is a whole number; a unit of m is then d.
pub record IsQuotient (n d b : ℕ) : Type 0 where
  pub m : ℕ
  pub scale : ℕ
  pub leading : 2 ^ 23 ≤ m
  pub digits : m < 2 ^ 24
  pub deep : scale ≤ 149
  pub pattern : b ≡ (149 - scale) * 2 ^ 23 + m
  -- no more than half a unit away, and at a half the even one
  pub near : 2 * apart (m * d) (n * 2 ^ scale) ≤ d
  pub even : 2 * apart (m * d) (n * 2 ^ scale) ≡ d → m % 2 ≡ 0
  -- below a power of two the units are half as large
  pub finer : m ≡ 2 ^ 23 → 4 * (m * d - n * 2 ^ scale) ≤ d

-- some display with these places has these bits
pub record Given (places b : ℕ) : Type 0 where
  pub display : ℤ
  pub shown : in_display display ≡ true
  pub same : bits places display ≡ b

-- the pattern's sign: 2^31 below zero
abbrev pub sign_bit : Bool → ℕ
sign_bit negative = cond negative (2 ^ 31) 0

-- the claim, of 0 to 4 places and of a display of -19,999 to 99,999
pub record Told (places : ℕ) (display : ℤ) : Type 0 where
  -- the bits are the sign, and the quotient correctly rounded
  pub size : ℕ
  pub signed : bits places display ≡ sign_bit (is_neg display) + size
  pub quotient : 1 ≤ nat_abs display → IsQuotient (nat_abs display) (10 ^ places) size
  -- zero is +0
  pub zero : nat_abs display ≡ 0 → bits places display ≡ 0
  -- they are no NaN's, fit 32 bits, and stand for the value itself
  pub number : nan_bits binary32 (bits places display) ≡ false
  pub narrow : bits places display < 2 ^ 32
  pub stands : of_bits binary32 (bits places display) ≡ value places display
  -- and tell their display
  pub tells : 1 ≤ nat_abs display → display_of places (bits places display) ≡ display
  pub only : (other : ℤ) → in_display other ≡ true → bits places other ≡ bits places display → other ≡ display
