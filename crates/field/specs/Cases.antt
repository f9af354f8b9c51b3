-- Fields as the 12 bytes that they are: zero, the shortest and the longest numbers, and the marks.
use Rattle.std.specs.Prelude.{ℕ, ◌≡◌, List, [], ◌∷◌, map, pos}
use Prim.Native.String.{String}
use Rattle.exact.specs.Sign.{minus}
use Rattle.reading.specs.declared.Reading.{Reading}
use Rattle.reading.specs.declared.Reading.TheVariants.{Nothing, Under, Number, Over}
use Rattle.register.specs.Bytes.{ascii}
use Rattle.field.specs.Field.{field}

-- decimal places, what is shown, and the 12 bytes
pub record Case : Type 0 where
  pub places : ℕ
  pub shown : Reading
  pub bytes : String

abbrev is : ℕ → Reading → String → Case
is places shown bytes = record { places = places; shown = shown; bytes = bytes }

abbrev n : ℕ → Reading
n v = Number (pos v)

abbrev below : ℕ → Reading
below v = Number (minus v)

unfoldable pub cases : List Case
cases =
    is 0 (n 0) "           0"
    ∷ is 1 (n 0) "         0.0"
    ∷ is 4 (n 0) "      0.0000"
    ∷ is 4 (n 5) "      0.0005"
    ∷ is 1 (below 5) "        -0.5"
    ∷ is 0 (below 1) "          -1"
    ∷ is 2 (n 1234) "       12.34"
    ∷ is 3 (n 1000) "       1.000"
    ∷ is 0 (n 99999) "       99999"
    ∷ is 0 (below 19999) "      -19999"
    ∷ is 0 (n 999999999) "   999999999"
    ∷ is 4 (below 199999999) " -19999.9999"
    ∷ is 2 Over "        OLOL"
    ∷ is 0 Under "        ULUL"
    ∷ is 1 Nothing "        ----"
    ∷ []

abbrev pub CasesHold : Type 0
CasesHold = map (λ (c : Case). field c.places c.shown) cases ≡ map (λ (c : Case). ascii c.bytes) cases
