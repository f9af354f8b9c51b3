-- What is claimed of the lines: two words behind `W` and any bytes behind `R` are asked for, and what `W` prints `R` reads back.
use Rattle.std.specs.Prelude.{ℕ, ◌≤◌, ◌≡◌, Some, true, false, ℤ, nat_abs, length}
use mathlib.Core.List.{List, ◌∷◌, ◌++◌, flatten}
use Rattle.reading.specs.Reading.{displayable}
use Rattle.reading.specs.declared.Reading.{Reading}
use Rattle.reading.specs.declared.Reading.TheVariants.{Nothing, Under, Number, Over}
use Rattle.register.specs.Bytes.{ascii}
use Rattle.filed.specs.Filed.{datum_of, kind_of, bits_of, in_places, filed, taken_of}
use Rattle.text.specs.Line.{has}
use Rattle.text.specs.Number.{number_of}
use Rattle.hexadecimal.specs.Hex.{hex, most}
use Rattle.hexadecimal.specs.Meaning.{AreBytes}
use Rattle.historian_line.specs.Line.{ended, reading_named, record_line, asked_line, fields_line, taken_line, line_shown}

-- a letter, a space and what stands behind it
abbrev pub behind : List ℕ → List ℕ → List ℕ
behind letter s = letter ++ (32 ∷ s)

pub record Prints : Type 0 where
  -- the words are what stands on either side of the first space
  pub words : (w p : List ℕ) → has 32 w ≡ false → line_shown (behind (ascii "W") (w ++ (32 ∷ p))) ≡ asked_line (reading_named w) (number_of p)
  -- the three marks, and every number, name their reading
  pub over : reading_named (ascii "OL") ≡ Some Over
  pub under : reading_named (ascii "UL") ≡ Some Under
  pub nothing : reading_named (ascii "--") ≡ Some Nothing
  pub numbers : (w : List ℕ) (z : ℤ) → number_of w ≡ Some z → reading_named w ≡ Some (Number z)
  -- a record that can be written is printed
  pub records : (shown : Reading) (places : ℤ) → in_places places ≡ true → displayable shown ≡ true → record_line shown places ≡ (hex (filed places shown) ++ ended)
  -- at most 64 bytes in hexadecimal are read
  pub reads : (s : List ℕ) → length s ≤ most → AreBytes s → line_shown (behind (ascii "R") (flatten (hex s))) ≡ taken_line (taken_of s)
  -- and of a record that was printed, kind, places and bits are
  pub back : (shown : Reading) (places : ℤ) → in_places places ≡ true → displayable shown ≡ true
      → line_shown (behind (ascii "R") (flatten (hex (filed places shown))))
      ≡ fields_line (kind_of (datum_of (nat_abs places) shown)) (nat_abs places) (bits_of (datum_of (nat_abs places) shown))
