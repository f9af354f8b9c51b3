-- The total, as document 01 has it.
use Rattle.std.specs.Prelude.{◌≡◌, Bool, true, false, cond, not, ◌&&◌, ℕ, ◌*◌, ℤ, pos, nat_abs, ◌+ℤ◌, ◌*ℤ◌}
use Rattle.std.specs.Int.Signed.{le_z, lt_z}
use Rattle.exact.specs.Sign.{minus, within}
use Rattle.exact.specs.Exact.{cut}
use Rattle.reading.specs.declared.Reading.{Reading}
use Rattle.reading.specs.declared.Reading.TheVariants.{Nothing, Under as ReadingUnder, Number, Over as ReadingOver}
use Rattle.total.specs.declared.Totalizer.{Totalizer}
use Rattle.total.specs.declared.Range.{Range}
use Rattle.total.specs.declared.Range.TheVariants.{Within, Under, Over}
use Rattle.total.specs.declared.Total.{Total}

-- a sum, with where the total stands
abbrev pub total : ℤ → Range → Total
total sum range = record { sum = sum; range = range }

-- a sum starts at 0, and a reset makes sum and total 0
abbrev pub reset : Total
reset = total (pos 0) Within

-- the total is the sum / (20,000 × time base), cut towards zero
unfoldable pub unit_of : Totalizer → ℕ
unit_of s = 20000 * nat_abs s.time_base

unfoldable pub quotient : Totalizer → ℤ → ℤ
quotient s sum = cut sum (unit_of s)

-- the range of the total, -199,999,999 to 999,999,999
abbrev pub least : ℤ
least = minus 199999999

abbrev pub most : ℤ
most = pos 999999999

abbrev pub in_total : ℤ → Bool
in_total q = within least most q

-- a new sum is taken while its total stays in range; where the total would leave, it is Over or Under and the sum stays as it was before
unfoldable pub summed : Totalizer → ℤ → ℤ → Total
summed s old new =
    cond (lt_z most (quotient s new)) (total old Over)
    (cond (lt_z (quotient s new) least) (total old Under)
    (total new Within))

-- the total is Over or Under
abbrev pub left : Range → Bool
left Within = false
left Under = true
left Over = true

-- x more on the sum; once Over or Under nothing is added until a reset
unfoldable pub added : Totalizer → Total → ℤ → Total
added s t x = cond (left t.range) t (summed s t.sum (t.sum +ℤ x))

-- a sample counts outside batch, with a number not below the low cut
abbrev pub counts : Totalizer → ℤ → Bool
counts s v = not s.batch && le_z s.low_cut v

-- a sample that counts adds reading × factor in thousandths
unfoldable pub sample_adds : Totalizer → Reading → ℤ
sample_adds s Nothing = pos 0
sample_adds s ReadingUnder = pos 0
sample_adds s (Number v) = cond (counts s v) (v *ℤ s.factor) (pos 0)
sample_adds s ReadingOver = pos 0

-- key 1 in batch adds reading × 20,000 × time base, without factor or low cut
unfoldable pub batch_adds : Totalizer → Reading → ℤ
batch_adds s Nothing = pos 0
batch_adds s ReadingUnder = pos 0
batch_adds s (Number v) = v *ℤ pos (unit_of s)
batch_adds s ReadingOver = pos 0

-- the total after a sample, and after key 1 in batch
abbrev pub sampled : Totalizer → Total → Reading → Total
sampled s t r = added s t (sample_adds s r)

abbrev pub batched : Totalizer → Total → Reading → Total
batched s t r = added s t (batch_adds s r)

-- what is shown: the quotient, or Under or Over
abbrev pub shown_as : Range → ℤ → Reading
shown_as Within q = Number q
shown_as Under q = ReadingUnder
shown_as Over q = ReadingOver

unfoldable pub shown : Totalizer → Total → Reading
shown s t = shown_as t.range (quotient s t.sum)

-- ---- what the arithmetic leans on

-- of an accepted configuration: a time base of 1 second to a day. The scale factor may be any number that a setting can hold
pub record Timed (s : Totalizer) : Type 0 where
  pub base_in : within (pos 1) (pos 86400) s.time_base ≡ true

-- the sum of a total, Over or Under too, is one whose quotient lies in the range
abbrev pub in_range : Totalizer → Total → Bool
in_range s t = in_total (quotient s t.sum)
