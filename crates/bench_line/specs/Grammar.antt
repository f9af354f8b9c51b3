-- What a line of the bench program says.
use Rattle.std.specs.Prelude.{ℕ, ◌<◌, ◌≤◌, List, cond, ◌&&◌, length, drop, get_or, leb, eqb, ℤ, Option, Some, None}
use Rattle.text.specs.Line.{Heard, bytes, long}
use Rattle.text.specs.Number.{number_of}

-- a sample, a key, or bytes to receive
pub data Asked : Type 0 where
  sample : ℤ → Asked
  key : ℤ → Asked
  chars : List ℕ → Asked

abbrev pub sample_of : Option ℤ → Option Asked
sample_of (Some v) = Some (sample v)
sample_of None = None

abbrev pub key_of : Option ℤ → Option Asked
key_of (Some v) = Some (key v)
key_of None = None

-- `S number`, `K number` or `C bytes`
unfoldable pub said_of : ℕ → List ℕ → Option Asked
said_of k s =
    cond (eqb k 83) (sample_of (number_of s))
    (cond (eqb k 75) (key_of (number_of s))
    (cond (eqb k 67) (Some (chars s)) None))

-- a letter, a space and 1 to 80 bytes; any other line says nothing
unfoldable pub parsed : List ℕ → Option Asked
parsed l =
    cond ((leb 3 (length l) && leb (length l) 82) && eqb (get_or l 1 0) 32)
    (said_of (get_or l 0 0) (drop 2 l))
    None

unfoldable pub judged : Heard → Option Asked
judged (bytes l) = parsed l
judged long = None

-- 1 to 80 bytes
pub record Payload (s : List ℕ) : Type 0 where
  pub some : 0 < length s
  pub all : length s ≤ 80
