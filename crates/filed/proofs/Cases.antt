-- Worked cases of records, in one table with one claim that is computed over the definitions. Assumes nothing.
use mathlib.Core.Path.{◌≡◌, refl}
use mathlib.Core.List.{List, [], ◌∷◌, map}
use Prim.Native.Nat.{ℕ}
use Rattle.std.specs.Prelude.{Err}
use lib.IntN.{pos}
use lib.Ieee.{of_int, div, round, to_bits}
use Rattle.exact.specs.Sign.{minus}
use Rattle.reading.specs.declared.Reading.{Reading}
use Rattle.reading.specs.declared.Reading.TheVariants.{Nothing, Under, Number, Over}
use Rattle.binary32.specs.Binary32.{value}
use Rattle.filed.specs.Filed.{datum_of, record_of, taken_of}
use Rattle.filed.specs.declared.Refusal.{Refusal}
use Rattle.filed.specs.declared.Refusal.TheVariants as refusal

-- ---- what is written

pub record Case : Type 0 where
  pub shown : Reading
  pub places : ℕ
  pub bytes : List ℕ

abbrev case : Reading → ℕ → List ℕ → Case
case shown places bytes = record { shown = shown; places = places; bytes = bytes }

abbrev pub cases : List Case
cases =
    -- 87.4, whose pattern is 42AECCCD
    case (Number (pos 874)) 1 (0 ∷ 1 ∷ 0 ∷ 0 ∷ 0xcd ∷ 0xcc ∷ 0xae ∷ 0x42 ∷ [])
    ∷ case (Number (minus 19999)) 0 (0 ∷ 0 ∷ 0 ∷ 0 ∷ 0x00 ∷ 0x3e ∷ 0x9c ∷ 0xc6 ∷ [])
    -- zero has no bit set
    ∷ case (Number (pos 0)) 3 (0 ∷ 3 ∷ 0 ∷ 0 ∷ 0 ∷ 0 ∷ 0 ∷ 0 ∷ [])
    -- nor has what is no number; the places are told all the same
    ∷ case Over 2 (1 ∷ 2 ∷ 0 ∷ 0 ∷ 0 ∷ 0 ∷ 0 ∷ 0 ∷ [])
    ∷ case Under 4 (2 ∷ 4 ∷ 0 ∷ 0 ∷ 0 ∷ 0 ∷ 0 ∷ 0 ∷ [])
    -- before any sample
    ∷ case Nothing 0 (3 ∷ 0 ∷ 0 ∷ 0 ∷ 0 ∷ 0 ∷ 0 ∷ 0 ∷ [])
    ∷ []

pub written_cases : map (λ c. record_of c.places (datum_of c.places c.shown)) cases ≡ map (λ c. c.bytes) cases
unfolding record_of value of_int div round to_bits
written_cases = refl

-- ---- what is refused, where no value has to be judged: each breaks the later rules too

pub record Bad : Type 0 where
  pub bytes : List ℕ
  pub why : Refusal

abbrev bad : List ℕ → Refusal → Bad
bad bytes why = record { bytes = bytes; why = why }

abbrev pub refused : List Bad
refused =
    bad [] refusal.Length
    ∷ bad (4 ∷ 5 ∷ 1 ∷ 1 ∷ 1 ∷ 1 ∷ 1 ∷ []) refusal.Length
    ∷ bad (4 ∷ 5 ∷ 1 ∷ 1 ∷ 1 ∷ 1 ∷ 1 ∷ 1 ∷ 1 ∷ []) refusal.Length
    ∷ bad (4 ∷ 5 ∷ 1 ∷ 1 ∷ 0 ∷ 0 ∷ 0 ∷ 0x80 ∷ []) refusal.Kind
    ∷ bad (255 ∷ 0 ∷ 0 ∷ 0 ∷ 0 ∷ 0 ∷ 0 ∷ 0 ∷ []) refusal.Kind
    ∷ bad (3 ∷ 5 ∷ 0 ∷ 0 ∷ 1 ∷ 0 ∷ 0 ∷ 0 ∷ []) refusal.Places
    ∷ bad (0 ∷ 0 ∷ 1 ∷ 0 ∷ 0 ∷ 0 ∷ 0 ∷ 0x80 ∷ []) refusal.Places
    ∷ bad (0 ∷ 0 ∷ 0 ∷ 1 ∷ 0 ∷ 0 ∷ 0 ∷ 0x80 ∷ []) refusal.Places
    ∷ []

pub refused_cases : map (λ b. taken_of b.bytes) refused ≡ map (λ b. Err b.why) refused
unfolding taken_of
refused_cases = refl
