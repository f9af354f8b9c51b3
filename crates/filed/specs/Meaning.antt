-- What is claimed of records: the reader takes exactly what the writer writes, each refusal is said by what no reading writes, and a record
-- tells its reading; and what the writer answers and leaves.
use Rattle.std.specs.Prelude.{◌≡◌, Bool, Result, Ok, Err, true, false, List, [], ◌∷◌, map, ◌≢◌, ℕ, ◌^◌, ◌≤◌, ◌<◌, ℤ, length, take, get_or}
use Rattle.std.specs.Float.{inf, binary32}
use Rattle.std.specs.Float.Ieee.{to_bits, nan_bits}
use Rattle.reading.specs.Reading.{displayable}
use Rattle.reading.specs.declared.Reading.{Reading}
use Rattle.line.specs.Buffer.{room, laid}
use Rattle.filed.specs.Filed.{refusal_number, number, carried, datum_of, low_first, record_of, in_places, given_of, filed, written_of, left, taken_of}
use Rattle.filed.specs.declared.Record.{Record}
use Rattle.filed.specs.declared.Refusal.{Refusal}
use Rattle.filed.specs.declared.Refusal.TheVariants as refusal
use Rattle.filed.specs.declared.Unwritten.TheVariants as unwritten

-- ---- the reader

-- s is what is written of some reading with 0 to 4 places
pub record IsRecord (s : List ℕ) : Type 0 where
  pub shown : Reading
  pub places : ℕ
  pub few : places ≤ 4
  pub displayed : displayable shown ≡ true
  pub text : s ≡ record_of places (datum_of places shown)

-- some record begins as s does, up to its kind, its filler or its end; at least it is as long
pub record Begins (count : ℕ) (s : List ℕ) : Type 0 where
  pub other : List ℕ
  pub is : IsRecord other
  pub long : length other ≡ length s
  pub alike : take count other ≡ take count s

-- s is a record, and x says what it says
pub record Says (s : List ℕ) (x : Record) : Type 0 where
  pub is : IsRecord s
  pub places : x.places ≡ is.places
  pub datum : x.datum ≡ datum_of is.places is.shown

-- what an answer says of the bytes, without a number or a field of theirs. 30: no record is as long. 31: one is, but none has the kind.
-- 32: one has the kind, but none the places and the filler too. 33: one has these, but none is these bytes.
abbrev pub Judges : List ℕ → Result Record Refusal → Type 0
Judges s (Ok x) = Says s x
Judges s (Err refusal.Length) = Begins 0 s → ⊥
Judges s (Err refusal.Kind) = Begins 0 s × (Begins 1 s → ⊥)
Judges s (Err refusal.Places) = Begins 1 s × (Begins 4 s → ⊥)
Judges s (Err refusal.Value) = Begins 4 s × (Begins 8 s → ⊥)

-- numbers of a byte each
abbrev pub Bytes : List ℕ → Type 0
Bytes s = (k : ℕ) → get_or s k 0 < 256

-- the claim
pub record Exact : Type 0 where
  -- reading back what was written gives it again
  pub back : (places : ℕ) (shown : Reading) → places ≤ 4 → displayable shown ≡ true
      → taken_of (record_of places (datum_of places shown)) ≡ Ok (record { places = places; datum = datum_of places shown })
  -- of any bytes the answer says what is so, and no other answer does
  pub judges : (s : List ℕ) → Bytes s → Judges s (taken_of s)
  pub only : (s : List ℕ) (answer : Result Record Refusal) → Bytes s → Judges s answer → answer ≡ taken_of s
  -- a record tells its reading and the places
  pub tells : (s : List ℕ) (r q : IsRecord s) → (r.places ≡ q.places) × (r.shown ≡ q.shown)
  -- and what is read of bytes, written again, is these bytes
  pub again : (s : List ℕ) (x : Record) → Bytes s → taken_of s ≡ Ok x → record_of x.places x.datum ≡ s

-- what is no display's whatever the places, named one by one: all of it is 33
pub record Shut (places : ℕ) : Type 0 where
  -- 80000000h, for zero is +0; the infinities; and every NaN, which is judged by its bits
  pub minus_zero : taken_of (0 ∷ places ∷ 0 ∷ 0 ∷ low_first 0x8000_0000) ≡ Err refusal.Value
  pub infinity : (negative : Bool) → taken_of (0 ∷ places ∷ 0 ∷ 0 ∷ low_first (to_bits binary32 (inf negative))) ≡ Err refusal.Value
  pub nan : (b : ℕ) → b < 2 ^ 32 → nan_bits binary32 b ≡ true → taken_of (0 ∷ places ∷ 0 ∷ 0 ∷ low_first b) ≡ Err refusal.Value
  -- and bits that are set where there is no value
  pub beside_mark : (kind b : ℕ) → 1 ≤ kind → kind ≤ 3 → 1 ≤ b → b < 2 ^ 32 → taken_of (kind ∷ places ∷ 0 ∷ 0 ∷ low_first b) ≡ Err refusal.Value

-- ---- the writer

-- what is claimed of the numbers: they are document 02's, and a reply's for what is written
pub record Numbered : Type 0 where
  pub refusals : map refusal_number (refusal.Length ∷ refusal.Kind ∷ refusal.Places ∷ refusal.Value ∷ []) ≡ 30 ∷ 31 ∷ 32 ∷ 33 ∷ []
  pub answers : (n : ℕ) → map number (Ok n ∷ Err unwritten.NoRoom ∷ Err (unwritten.Refused refusal.Places) ∷ Err (unwritten.Refused refusal.Value) ∷ []) ≡ 2 ∷ 9 ∷ 32 ∷ 33 ∷ []
  pub carries : (n : ℕ) → map carried (Ok n ∷ Err unwritten.NoRoom ∷ Err (unwritten.Refused refusal.Places) ∷ Err (unwritten.Refused refusal.Value) ∷ []) ≡ n ∷ 0 ∷ 0 ∷ 0 ∷ []

-- what is claimed of a reading that is to be written, of whatever is given
pub record Writes (shown : Reading) (places : ℤ) (buffer : List ℕ) (place : ℕ) : Type 0 where
  pub bad_places : in_places places ≡ false → number (written_of shown places buffer place) ≡ 32
  pub bad_number : in_places places ≡ true → displayable shown ≡ false → number (written_of shown places buffer place) ≡ 33
  pub no_room : in_places places ≡ true → displayable shown ≡ true → room (length buffer) place 8 ≡ false → number (written_of shown places buffer place) ≡ 9
  pub done : in_places places ≡ true → displayable shown ≡ true → room (length buffer) place 8 ≡ true → number (written_of shown places buffer place) ≡ 2
  -- what is written is the record, 8 bytes from the place on, and nothing else
  pub record_laid : number (written_of shown places buffer place) ≡ 2 → left shown places buffer place ≡ laid buffer place (filed places shown)
  pub eight_bytes : (number (written_of shown places buffer place) ≡ 2 → carried (written_of shown places buffer place) ≡ 8) × (length (filed places shown) ≡ 8)
  pub untouched : number (written_of shown places buffer place) ≢ 2 → left shown places buffer place ≡ buffer
  -- and what is read of it is what was given
  pub read_back : in_places places ≡ true → displayable shown ≡ true → taken_of (filed places shown) ≡ given_of shown places
