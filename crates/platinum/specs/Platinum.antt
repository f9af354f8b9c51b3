-- A platinum sensor of 100 ohms, as IEC 60751 has it: the resistance at each whole degree from -200 to 850, and the reading of an input
-- in milliohms, which is in tenths of a degree.
use Rattle.std.specs.Prelude.{cond, ℕ, ◌+◌, ℤ, pos, nat_abs, ◌+ℤ◌, ◌-ℤ◌, ◌*ℤ◌}
use Rattle.std.specs.Int.Signed.{lt_z}
use Rattle.exact.specs.Sign.{is_neg}
use Rattle.exact.specs.Exact.{floor}
use Rattle.reading.specs.Reading.{point, segment, on_line, displayed}
use Rattle.reading.specs.declared.Reading.{Reading}
use Rattle.reading.specs.declared.Reading.TheVariants.{Under, Over}
use Rattle.platinum.specs.Table.{resistances}

-- ---- the polynomial

-- at t degrees the sensor has 100 (1 + A t + B t²) ohms, and below zero 100 (1 + A t + B t² + C (t - 100) t³), with A = 3.9083e-3,
-- B = -5.775e-7 and C = -4.183e-12. In milliohms that is an exact fraction, of 10^5 from zero on and of 10^10 below
abbrev pub from_zero : ℤ → ℤ
from_zero t = pos 10000000000 +ℤ pos 39083000 *ℤ t -ℤ pos 5775 *ℤ (t *ℤ t)

abbrev pub below_zero : ℤ → ℤ
below_zero t =
    pos 1000000000000000 +ℤ pos 3908300000000 *ℤ t -ℤ pos 577500000 *ℤ (t *ℤ t) -ℤ pos 4183 *ℤ ((t -ℤ pos 100) *ℤ (t *ℤ (t *ℤ t)))

abbrev pub polynomial : ℤ → ℤ
polynomial t = cond (is_neg t) (below_zero t) (from_zero t)

abbrev pub parts : ℤ → ℕ
parts t = cond (is_neg t) 10000000000 100000

-- half a milliohm, in the same parts
abbrev pub half : ℤ → ℕ
half t = cond (is_neg t) 5000000000 50000

-- the nearest milliohm, halves up
abbrev pub resistance_at : ℤ → ℤ
resistance_at t = floor (polynomial t +ℤ pos (half t)) (parts t)

-- ---- the table: place k has the resistance at k - 200 degrees

abbrev pub entries : ℕ
entries = 1051

abbrev pub entry : ℕ → ℤ
entry k = point resistances k

abbrev pub degree_at : ℕ → ℤ
degree_at k = pos k -ℤ pos 200

unfoldable pub tenths_at : ℕ → ℤ
tenths_at k = pos 10 *ℤ degree_at k

-- ---- the reading

-- of the pairs of neighbours, k and k + 1, the first whose right entry is not below x
abbrev pub pair_of : ℤ → ℕ
pair_of x = segment resistances entries x

-- the line between them, in tenths of a degree and rounded to the nearest one
abbrev pub between : ℕ → ℤ → ℤ
between k x = on_line (entry k) (tenths_at k) (entry (k + 1)) (tenths_at (k + 1)) x

-- an input above 390,481 reads Over and one below 18,520 Under; any other is read between its neighbours, to the step
unfoldable pub sensed : ℤ → ℤ → Reading
sensed step x =
    cond (lt_z (pos 390481) x) Over
    (cond (lt_z x (pos 18520)) Under
    (displayed (nat_abs step) (between (pair_of x) x)))
