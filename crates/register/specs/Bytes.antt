-- Bytes, written as the ASCII characters that they are.
use Rattle.std.specs.Prelude.{ℕ, zero, suc, Bool, ◌&&◌, List, [], ◌∷◌, leb}
use Prim.Native.Char.{Char, code}
use Prim.Native.String.{String, len, char_at}

-- the byte of a character
abbrev pub byte : Char → ℕ
byte c = code c

-- n characters of a string, from place i on
abbrev from : ℕ → ℕ → String → List ℕ
from zero i t = []
from (suc n) i t = byte (char_at t i) ∷ from n (suc i) t

-- the bytes of a string of characters
abbrev pub ascii : String → List ℕ
ascii t = from (len t) 0 t

-- whether b is one of the bytes low to high
abbrev pub within : ℕ → ℕ → ℕ → Bool
within low high b = leb low b && leb b high
