-- Bytes as they are printed, and texts as they are read, in a table with one claim for each. Assumes nothing.
use mathlib.Core.Path.{◌≡◌, refl}
use mathlib.Core.List.{List, [], ◌∷◌, ◌++◌, map, flatten}
use Prim.Native.Nat.{ℕ, ◌-◌}
use Prim.Native.String.{String}
use lib.ListN.{length, replicate}
use Rattle.std.specs.Prelude.{Option, Some, None}
use Rattle.register.specs.Bytes.{byte, ascii}
use Rattle.hexadecimal.specs.Hex.{hex, is_digit, digit_of, is_size, all_digits, is_text, bytes_of, hexed, over, filled}

pub record Printed : Type 0 where
  pub bytes : List ℕ
  pub text : List ℕ

abbrev print : List ℕ → String → Printed
print s t = record { bytes = s; text = ascii t }

abbrev pub printed_rows : List Printed
printed_rows =
    print [] "-"
    ∷ print (0 ∷ 171 ∷ 255 ∷ []) "00abff"
    ∷ []

pub printed : map (λ (r : Printed). flatten (hex r.bytes)) printed_rows ≡ map (λ (r : Printed). r.text) printed_rows
unfolding hex flatten
printed = refl

-- a text, the answer to it, and the array that it is read to, in which 64 ones stood
pub record Read : Type 0 where
  pub text : List ℕ
  pub answer : Option ℕ
  pub array : List ℕ

abbrev says : List ℕ → List ℕ → Read
says s l = record { text = s; answer = Some (length l); array = l ++ replicate (64 - length l) 1 }

abbrev not : List ℕ → Read
not s = record { text = s; answer = None; array = replicate 64 1 }

abbrev pub read_rows : List Read
read_rows =
    says (ascii "-") []
    ∷ says (ascii "00") (0 ∷ [])
    ∷ says (ascii "0aFf") (10 ∷ 255 ∷ [])
    ∷ says (ascii "9Af0") (154 ∷ 240 ∷ [])
    ∷ says (replicate 128 (byte "f")) (replicate 64 255)
    ∷ not (replicate 130 (byte "f"))
    ∷ not []
    ∷ not (ascii "0")
    ∷ not (ascii "000")
    ∷ not (ascii "--")
    ∷ not (ascii "0-")
    ∷ not (ascii "0 ")
    -- the bytes on either side of the three ranges
    ∷ not (ascii "0/")
    ∷ not (ascii ":0")
    ∷ not (ascii "0@")
    ∷ not (ascii "G0")
    ∷ not (ascii "0`")
    ∷ not (ascii "0g")
    ∷ []

abbrev found : List ℕ → Read
found s = record { text = s; answer = hexed s; array = filled (replicate 64 1) s }

pub read : map (λ (r : Read). found r.text) read_rows ≡ read_rows
unfolding is_digit digit_of is_size all_digits is_text bytes_of hexed over filled
read = refl
