-- A display as a binary32, as document 02 has it for the historian. What a number, a division and a bit pattern of binary32 are is said by
-- the kit's account of IEEE 754 (`lib.Ieee`).
use Rattle.std.specs.Prelude.{Bool, true, false, ◌||◌, ℕ, zero, suc, ◌+◌, ◌-◌, ◌*◌, ◌/◌, ◌%◌, ◌^◌, leb, eqb, ℤ, pos, neg_ℤ, ◌-ℤ◌, Float}
use Rattle.std.specs.Float.{binary32}
use Rattle.std.specs.Float.Ieee.{of_int, div, to_bits}
use Rattle.exact.specs.Exact.{nearest}

-- ---- from a display to its bits

-- a whole number as a binary32
abbrev pub whole : ℤ → Float
whole z = of_int binary32 z

-- the display divided by its power of ten, in a single division; with no places it is the display itself
unfoldable pub value : ℕ → ℤ → Float
value zero display = whole display
value (suc places) display = div binary32 (whole display) (whole (pos (10 ^ suc places)))

unfoldable pub bits : ℕ → ℤ → ℕ
bits places display = to_bits binary32 (value places display)

-- ---- whether bits are those of any display

-- the displays, from -19,999 on
abbrev pub display_at : ℕ → ℤ
display_at k = pos k -ℤ pos 19999

-- a test passes at one of the first n of them
unfoldable pub some_of : (ℤ → Bool) → ℕ → Bool
some_of test zero = false
some_of test (suc n) = some_of test n || test (display_at n)

-- some display of -19,999 to 99,999, with these places, has these bits
unfoldable pub gives : ℕ → ℕ → Bool
gives places b = some_of (λ display. eqb (bits places display) b) 119999

-- ---- the one display that bits can be of

-- n or -n
abbrev pub with_sign : Bool → ℕ → ℤ
with_sign true n = neg_ℤ (pos n)
with_sign false n = pos n

-- a pattern's parts: the sign, which weighs 2^31, the exponent's field, and the 24 digits of the significand, of which the leading one is not
-- written
abbrev pub negative : ℕ → Bool
negative b = leb (2 ^ 31) b

abbrev pub field : ℕ → ℕ
field b = b % 2 ^ 31 / 2 ^ 23

abbrev pub significand : ℕ → ℕ
significand b = 2 ^ 23 + b % 2 ^ 23

-- the number that they stand for, significand / 2^(150 - field), times the power of ten, to the nearest whole number
unfoldable pub display_of : ℕ → ℕ → ℤ
display_of places b = nearest (with_sign (negative b) (significand b * 10 ^ places)) (2 ^ (150 - field b))
