-- What is claimed of data bytes that are read: they are read exactly where the reply rules make them, and as what these show.
use Rattle.std.specs.Prelude.{ℕ, ◌≡◌, List, length}
use Rattle.reading.specs.declared.Reading.{Reading}
use Rattle.reading.specs.declared.Reading.TheVariants.{Nothing, Under, Number, Over}
use Rattle.field.specs.Field.{field, Showable}
use Rattle.readback.specs.Readback.{data_of, said}

-- the places that are told: those of a number; a mark has none
abbrev pub places_told : ℕ → Reading → ℕ
places_told places Nothing = 0
places_told places Under = 0
places_told places (Number z) = places
places_told places Over = 0

-- a number or a mark that was read of 12 bytes
pub record Shown (s : List ℕ) (places : ℕ) (shown : Reading) : Type 0 where
  pub fits : Showable places shown
  pub told : places_told places shown ≡ places
  -- printed again by the reply rules it is these bytes
  pub text : field places shown ≡ s

pub record ReadBack : Type 0 where
  -- whatever a field can show is read back: of a number the places too, of a mark the mark alone
  pub back : (places : ℕ) (shown : Reading) → Showable places shown → data_of (field places shown) ≡ said (places_told places shown) shown
  -- and nothing is read of other bytes
  pub again : (s : List ℕ) (places : ℕ) (shown : Reading) → length s ≡ 12 → data_of s ≡ said places shown → Shown s places shown
  -- so fields that are alike show the same: no two numbers, nor a number and a mark, print alike, and a number shows its places
  pub tells : (p q : ℕ) (a b : Reading) → Showable p a → Showable q b → field p a ≡ field q b → (a ≡ b) × (places_told p a ≡ places_told q b)
