-- Bytes in hexadecimal: the pieces that are put, and what a text says.
use Rattle.std.specs.Prelude.{ℕ, ◌+◌, ◌-◌, ◌*◌, ◌/◌, ◌%◌, Option, Some, None, Bool, true, cond, ◌&&◌, ◌||◌, List, [], ◌∷◌, ◌++◌, map, eqb, length, drop, get_or}
use Rattle.io.specs.Digits.{hex_digit_ascii}
use Rattle.register.specs.Bytes.{byte, ascii, within}

-- ---- what is put

abbrev pub hex_byte : ℕ → List ℕ
hex_byte b = hex_digit_ascii (b / 16) ∷ hex_digit_ascii (b % 16) ∷ []

-- bytes in hexadecimal, or a dash where there are none
unfoldable pub hex : List ℕ → List (List ℕ)
hex [] = ascii "-" ∷ []
hex (b ∷ s) = hex_byte b ∷ map hex_byte s

-- ---- what is read: a digit, in either case, and what it is worth

abbrev pub is_decimal : ℕ → Bool
is_decimal b = within (byte "0") (byte "9") b

abbrev pub is_lower : ℕ → Bool
is_lower b = within (byte "a") (byte "f") b

abbrev pub is_upper : ℕ → Bool
is_upper b = within (byte "A") (byte "F") b

unfoldable pub is_digit : ℕ → Bool
is_digit b = (is_decimal b || is_lower b) || is_upper b

unfoldable pub digit_of : ℕ → ℕ
digit_of b = cond (is_decimal b) (b - byte "0") (cond (is_lower b) (b - byte "a" + 10) (b - byte "A" + 10))

-- ---- a text

-- the most bytes that it says
abbrev pub most : ℕ
most = 64

-- two digits for each of 1 to so many bytes
unfoldable pub is_size : ℕ → Bool
is_size n = within 2 (2 * most) n && eqb (n % 2) 0

unfoldable pub all_digits : List ℕ → Bool
all_digits [] = true
all_digits (b ∷ s) = is_digit b && all_digits s

-- a text is hexadecimal where it is such digits, or a dash, for no bytes
unfoldable pub is_text : List ℕ → Bool
is_text s = cond (eqb (length s) 1) (eqb (get_or s 0 0) (byte "-")) (is_size (length s) && all_digits s)

-- the bytes that it says: none, of a dash
unfoldable pub bytes_of : List ℕ → List ℕ
bytes_of [] = []
bytes_of (a ∷ []) = []
bytes_of (a ∷ b ∷ s) = (digit_of a * 16 + digit_of b) ∷ bytes_of s

-- how many bytes a text says, where it is hexadecimal
unfoldable pub hexed : List ℕ → Option ℕ
hexed s = cond (is_text s) (Some (length (bytes_of s))) None

-- bytes over the front of d
unfoldable pub over : List ℕ → List ℕ → List ℕ
over d s = s ++ drop (length s) d

-- the array d after a text: the bytes that it says over its front, or as it was
unfoldable pub filled : List ℕ → List ℕ → List ℕ
filled d s = cond (is_text s) (over d (bytes_of s)) d
