-- What stands in the 12 data bytes of a reply line.
use Rattle.std.specs.Prelude.{ℕ, zero, suc, ◌+◌, ◌-◌, ◌/◌, ◌%◌, ◌^◌, ◌≤◌, ◌<◌, cond, List, [], ◌∷◌, ◌++◌, ltb, ℤ, nat_abs, length, take, replicate}
use Rattle.exact.specs.Sign.{is_neg}
use Rattle.reading.specs.Reading.{size}
use Rattle.reading.specs.declared.Reading.{Reading}
use Rattle.reading.specs.declared.Reading.TheVariants.{Nothing, Under, Number, Over}
use Rattle.register.specs.Bytes.{byte, ascii}

-- the last digit of n
abbrev pub digit : ℕ → ℕ
digit n = byte "0" + n % 10

-- the last k digits of n
unfoldable pub digits : ℕ → ℕ → List ℕ
digits zero n = []
digits (suc k) n = digits k (n / 10) ++ (digit n ∷ [])

-- n in decimal, with no zero in front: its tens, where it has any, and then its last digit, which always stands. k digits are enough.
unfoldable pub decimal : ℕ → ℕ → List ℕ
decimal zero n = []
decimal (suc k) n = cond (ltb n 10) [] (decimal k (n / 10)) ++ (digit n ∷ [])

-- the whole part: at least one digit stands before a point
abbrev pub whole : ℕ → List ℕ
whole n = decimal 9 n

-- the point and a digit for each place, and neither where there are no places
unfoldable pub fraction : ℕ → ℕ → List ℕ
fraction zero n = []
fraction (suc k) n = byte "." ∷ digits (suc k) n

-- a minus in front of a number below zero, and so none on zero
unfoldable pub sign : ℤ → List ℕ
sign z = cond (is_neg z) (byte "-" ∷ []) []

-- a number with its decimal places
unfoldable pub number : ℕ → ℤ → List ℕ
number places z = sign z ++ whole (nat_abs z / 10 ^ places) ++ fraction places (nat_abs z % 10 ^ places)

-- a number with its places, or the mark that stands for none
unfoldable pub text : ℕ → Reading → List ℕ
text places Nothing = ascii "----"
text places Under = ascii "ULUL"
text places (Number z) = number places z
text places Over = ascii "OLOL"

-- the text right-justified in 12 bytes
unfoldable pub field : ℕ → Reading → List ℕ
field places shown = replicate (12 - length (text places shown)) (byte " ") ++ text places shown

-- a text over the right end of d
unfoldable pub at_right : List ℕ → List ℕ → List ℕ
at_right d t = take (length d - length t) d ++ t

-- at most four decimal places, and a number of at most nine digits: readings, totals from -199,999,999 to 999,999,999 and all else that is shown
pub record Showable (places : ℕ) (shown : Reading) : Type 0 where
  pub few : places ≤ 4
  pub short : size shown < 10 ^ 9
