-- A reading as it is filed with the historian, as document 02 has it: how it is given, what is written of it, and what is read of any bytes.
use Rattle.std.specs.Prelude.{Bool, Result, Ok, Err, true, cond, not, ◌||◌, List, [], ◌∷◌, ℕ, ◌+◌, ◌*◌, ◌/◌, ◌%◌, ◌^◌, eqb, ltb, ℤ, pos, nat_abs, length, get_or}
use Rattle.std.specs.Float.{binary32}
use Rattle.std.specs.Float.Ieee.{is_nan, to_bits, of_bits}
use Rattle.exact.specs.Sign.{within}
use Rattle.reading.specs.Reading.{displayable}
use Rattle.reading.specs.declared.Reading.{Reading}
use Rattle.reading.specs.declared.Reading.TheVariants as reading
use Rattle.line.specs.Buffer.{room, after}
use Rattle.binary32.specs.Binary32.{value, gives}
use Rattle.filed.specs.declared.Datum.{Datum}
use Rattle.filed.specs.declared.Datum.TheVariants.{Value, Over, Under, Nothing}
use Rattle.filed.specs.declared.Record.{Record}
use Rattle.filed.specs.declared.Refusal.{Refusal}
use Rattle.filed.specs.declared.Refusal.TheVariants as refusal
use Rattle.filed.specs.declared.Unwritten.{Unwritten}
use Rattle.filed.specs.declared.Unwritten.TheVariants as unwritten

-- ---- the numbers

-- 30 not 8 bytes, 31 kind, 32 nonzero filler or places over 4, 33 a value that no display has
abbrev pub refusal_number : Refusal → ℕ
refusal_number refusal.Length = 30
refusal_number refusal.Kind = 31
refusal_number refusal.Places = 32
refusal_number refusal.Value = 33

-- 2 with the number of bytes, and 9, are those of a reply
abbrev pub number : Result ℕ Unwritten → ℕ
number (Ok n) = 2
number (Err unwritten.NoRoom) = 9
number (Err (unwritten.Refused why)) = refusal_number why

abbrev pub carried : Result ℕ Unwritten → ℕ
carried (Ok n) = n
carried (Err unwritten.NoRoom) = 0
carried (Err (unwritten.Refused why)) = 0

-- ---- the record of a reading

-- a value, Over, Under or none
abbrev pub datum_of : ℕ → Reading → Datum
datum_of places reading.Nothing = Nothing
datum_of places reading.Under = Under
datum_of places (reading.Number display) = Value (value places display)
datum_of places reading.Over = Over

-- kind: 0 value, 1 Over, 2 Under, 3 none
abbrev pub kind_of : Datum → ℕ
kind_of (Value x) = 0
kind_of Over = 1
kind_of Under = 2
kind_of Nothing = 3

-- the float's bits, 0 where there is no value
abbrev pub bits_of : Datum → ℕ
bits_of (Value x) = to_bits binary32 x
bits_of Over = 0
bits_of Under = 0
bits_of Nothing = 0

-- a datum whose value, if it has one, is a number, for a NaN has no bits of its own
abbrev pub has_bits : Datum → Bool
has_bits (Value x) = not (is_nan x)
has_bits Over = true
has_bits Under = true
has_bits Nothing = true

-- the same of what is taken
abbrev pub has_bits_in : Result Record Refusal → Bool
has_bits_in (Ok x) = has_bits x.datum
has_bits_in (Err why) = true

-- four bytes, low byte first
abbrev pub low_first : ℕ → List ℕ
low_first b = b % 256 ∷ b / 256 % 256 ∷ b / 256 ^ 2 % 256 ∷ b / 256 ^ 3 % 256 ∷ []

-- kind, places, two zeros, bits
unfoldable pub record_of : ℕ → Datum → List ℕ
record_of places x = kind_of x ∷ places ∷ 0 ∷ 0 ∷ low_first (bits_of x)

-- ---- a reading, given

-- 0 to 4 places
abbrev pub in_places : ℤ → Bool
in_places places = within (pos 0) (pos 4) places

-- a reading with the places of its input: 32 for other places, 33 for a number that is no display, in this order
unfoldable pub given_of : Reading → ℤ → Result Record Refusal
given_of shown places =
    cond (not (in_places places)) (Err refusal.Places)
    (cond (not (displayable shown)) (Err refusal.Value)
    (Ok (record { places = nat_abs places; datum = datum_of (nat_abs places) shown })))

-- ---- the writer

-- what is written of a reading
abbrev pub filed : ℤ → Reading → List ℕ
filed places shown = record_of (nat_abs places) (datum_of (nat_abs places) shown)

-- 8 bytes where they have room from a place on
abbrev pub roomed : List ℕ → ℕ → Result ℕ Unwritten
roomed buffer place = cond (room (length buffer) place 8) (Ok 8) (Err unwritten.NoRoom)

-- of what was given: 2 with 8 bytes, or 9 where there is no room; a refusal stays one
abbrev pub written_where : Result Record Refusal → List ℕ → ℕ → Result ℕ Unwritten
written_where (Ok x) buffer place = roomed buffer place
written_where (Err why) buffer place = Err (unwritten.Refused why)

-- the buffer afterwards: with the record in it, as a reply would be, or as it was
abbrev pub left_where : Result Record Refusal → List ℕ → ℕ → List ℕ
left_where (Ok x) buffer place = after buffer place (record_of x.places x.datum)
left_where (Err why) buffer place = buffer

unfoldable pub written_of : Reading → ℤ → List ℕ → ℕ → Result ℕ Unwritten
written_of shown places buffer place = written_where (given_of shown places) buffer place

unfoldable pub left : Reading → ℤ → List ℕ → ℕ → List ℕ
left shown places buffer place = left_where (given_of shown places) buffer place

-- ---- the reader

-- the bits, whose low byte stands first
abbrev pub bits_at : List ℕ → ℕ
bits_at s = get_or s 4 0 + 256 * get_or s 5 0 + 256 ^ 2 * get_or s 6 0 + 256 ^ 3 * get_or s 7 0

-- bits that fit a kind: of a value those that some display with these places gives, else none set
abbrev pub fitting : ℕ → ℕ → ℕ → Bool
fitting kind places b = cond (eqb kind 0) (gives places b) (eqb b 0)

abbrev pub datum_at : ℕ → ℕ → Datum
datum_at kind b = cond (eqb kind 0) (Value (of_bits binary32 b)) (cond (eqb kind 1) Over (cond (eqb kind 2) Under Nothing))

-- 33 where they do not fit
abbrev pub taken_where : Bool → ℕ → Datum → Result Record Refusal
taken_where fit places datum = cond fit (Ok (record { places = places; datum = datum })) (Err refusal.Value)

unfoldable pub record_at : ℕ → ℕ → ℕ → Result Record Refusal
record_at kind places b = taken_where (fitting kind places b) places (datum_at kind b)

-- 30, 31, 32 and 33 in this order, else what the record says
unfoldable pub taken_of : List ℕ → Result Record Refusal
taken_of s =
    cond (not (eqb (length s) 8)) (Err refusal.Length)
    (cond (ltb 3 (get_or s 0 0)) (Err refusal.Kind)
    (cond ((not (eqb (get_or s 2 0) 0) || not (eqb (get_or s 3 0) 0)) || ltb 4 (get_or s 1 0)) (Err refusal.Places)
    (record_at (get_or s 0 0) (get_or s 1 0) (bits_at s))))
