-- What a text says, by what is printed of bytes: each undoes the other, but for the case of letters.
use Rattle.std.specs.Prelude.{ℕ, ◌+◌, ◌≤◌, ◌<◌, ◌≡◌, true, cond, length, get_or}
use mathlib.Core.List.{List, map, flatten}
use Rattle.hexadecimal.specs.Hex.{hex, is_lower, is_upper, digit_of, most, is_text, bytes_of}

-- each number is a byte
abbrev pub AreBytes : List ℕ → Type 0
AreBytes s = (i : ℕ) → i < length s → get_or s i 0 < 256

-- a letter in lower case
abbrev pub lowered : ℕ → ℕ
lowered b = cond (is_upper b) (b + 32) b

-- bytes that are printed are read back
pub record ReadBack (s : List ℕ) : Type 0 where
  pub text : is_text (flatten (hex s)) ≡ true
  pub says : bytes_of (flatten (hex s)) ≡ s

-- what a text says has room in the array, and printed again it is the text in lower case
pub record PrintedBack (s : List ℕ) : Type 0 where
  pub few : length (bytes_of s) ≤ most
  pub bytes : AreBytes (bytes_of s)
  pub text : flatten (hex (bytes_of s)) ≡ map lowered s

-- an answer of n bytes is given to a text alone, and n is how many it says
pub record Answered (s : List ℕ) (n : ℕ) : Type 0 where
  pub text : is_text s ≡ true
  pub count : n ≡ length (bytes_of s)

-- a letter is worth the same in upper case and in lower case, and so a text says the same in lower case
pub record InEitherCase : Type 0 where
  pub letter : (b : ℕ) → is_upper b ≡ true → (is_lower (lowered b) ≡ true) × (digit_of (lowered b) ≡ digit_of b)
  pub text : (s : List ℕ) → is_text s ≡ true → (is_text (map lowered s) ≡ true) × (bytes_of (map lowered s) ≡ bytes_of s)
