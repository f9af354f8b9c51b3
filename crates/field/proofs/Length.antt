-- A data field has 12 bytes. Assumes nothing.
use mathlib.Core.Path.{◌≡◌, ◌∙◌}
use Prim.Native.Nat.{ℕ, ◌-◌, ◌≤◌}
use native.Mathlib.Omega.{arith}
use lib.IntN.{ℤ, pos, negsuc, neg_ℤ}
use lib.ListN.{length, replicate, length-append, length-replicate}
use lib.Signed.{le_z}
use borrow.Author.Tests.{leb-true}
use mathlib.Core.Bool.{true}
use Rattle.reading.specs.declared.Reading.{Reading}
use Rattle.reading.specs.declared.Reading.TheVariants.{Nothing, Under, Number, Over}
use Rattle.field.specs.Field.{text, field, Showable}
use Rattle.field.proofs.Number.{number_short}

-- the text leaves at least one space
text_short : (places : ℕ) (shown : Reading) → Showable places shown → length (text places shown) ≤ 11
unfolding text
text_short places Nothing s = omega arith
text_short places Under s = omega arith
text_short places (Number z) s = number_short places z s.few s.short
text_short places Over s = omega arith

pub field_length : (places : ℕ) (shown : Reading) → Showable places shown → length (field places shown) ≡ 12
unfolding field
field_length places shown s =
    let t = text places shown in
    length-append (replicate (12 - length t) 32) t ∙ omega (arith, length-replicate {A = ℕ} (12 - length t) 32, text_short places shown s)

-- every number of document 01's range, -199,999,999 to 999,999,999, can be shown
pub in_range : (places : ℕ) (z : ℤ) → places ≤ 4 → le_z (neg_ℤ (pos 199_999_999)) z ≡ true → le_z z (pos 999_999_999) ≡ true → Showable places (Number z)
in_range places (pos n) h l u = record { few = h; short = omega (arith, leb-true n 999_999_999 u) }
in_range places (negsuc n) h l u = record { few = h; short = omega (arith, leb-true n 199_999_998 l) }
