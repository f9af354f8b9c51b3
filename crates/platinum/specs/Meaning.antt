-- What is claimed of the table and of what is read by it, said without the polynomial's rounding or a search.
use Rattle.std.specs.Prelude.{◌≡◌, Bool, true, false, List, ℕ, ◌+◌, ◌*◌, ◌-◌, ◌≤◌, ◌<◌, ℤ, pos, nat_abs, ◌-ℤ◌, ◌*ℤ◌, length}
use Rattle.std.specs.Int.Signed.{le_z, lt_z}
use Rattle.exact.specs.Sign.{minus, is_neg, within}
use Rattle.exact.specs.Tables.{steps, among}
use Rattle.reading.specs.Reading.{point}
use Rattle.reading.specs.Meaning.{IsSegment}
use Rattle.reading.specs.declared.Reading.{Reading}
use Rattle.reading.specs.declared.Reading.TheVariants.{Nothing, Under, Number, Over}
use Rattle.platinum.specs.Table.{resistances}
use Rattle.platinum.specs.Platinum.{polynomial, parts, entries, entry, degree_at, tenths_at, pair_of, sensed}

-- ---- the table

-- r is the nearest whole number to n / d: at most half a unit away, and at a half above
pub record IsNearestUp (n : ℤ) (d : ℕ) (r : ℤ) : Type 0 where
  pub near : 2 * nat_abs (pos d *ℤ r -ℤ n) ≤ d
  pub up : 2 * nat_abs (pos d *ℤ r -ℤ n) ≡ d → is_neg (pos d *ℤ r -ℤ n) ≡ false

-- as many numbers as the table has, each below the next: what the search for a pair leans on
pub record Rising (table : List ℤ) : Type 0 where
  pub rises : (k : ℕ) → k + 1 < entries → lt_z (point table k) (point table (k + 1)) ≡ true

pub record Stored : Type 0 where
  -- -200 to 850 degrees
  pub all : length resistances ≡ entries
  pub first : degree_at 0 ≡ minus 200
  pub last : degree_at (entries - 1) ≡ pos 850
  -- each entry is the polynomial's nearest milliohm, halves up, and no other number is
  pub nearest : (k : ℕ) → k < entries → IsNearestUp (polynomial (degree_at k)) (parts (degree_at k)) (entry k)
  pub only : (k : ℕ) (r : ℤ) → k < entries → IsNearestUp (polynomial (degree_at k)) (parts (degree_at k)) r → r ≡ entry k
  pub rising : Rising resistances
  -- the limits of the input are its ends
  pub ends : (entry 0 ≡ pos 18520) × (entry (entries - 1) ≡ pos 390481)

-- ---- the reading

-- Under lies below every number and Over above; no input reads Nothing
abbrev pub not_above : Reading → Reading → Bool
not_above Nothing r = false
not_above Under Nothing = false
not_above Under Under = true
not_above Under (Number w) = true
not_above Under Over = true
not_above (Number v) Nothing = false
not_above (Number v) Under = false
not_above (Number v) (Number w) = le_z v w
not_above (Number v) Over = true
not_above Over Nothing = false
not_above Over Under = false
not_above Over (Number w) = false
not_above Over Over = true

-- a number from -2,000 to 8,500
abbrev pub in_degrees : Reading → Bool
in_degrees Nothing = false
in_degrees Under = false
in_degrees (Number v) = within (minus 2000) (pos 8500) v
in_degrees Over = false

-- of every rounding step
pub record Sensed (step : ℤ) (is_step : among step steps ≡ true) : Type 0 where
  -- an input reads Over above 390,481, Under below 18,520, and from the one to the other a number from -2,000 to 8,500
  pub over : (x : ℤ) → lt_z (pos 390481) x ≡ true → sensed step x ≡ Over
  pub under : (x : ℤ) → lt_z x (pos 18520) ≡ true → sensed step x ≡ Under
  pub number : (x : ℤ) → within (pos 18520) (pos 390481) x ≡ true → in_degrees (sensed step x) ≡ true
  -- a larger input never reads lower
  pub rises : (x y : ℤ) → le_z x y ≡ true → not_above (sensed step x) (sensed step y) ≡ true
  -- and so an input between two entries reads between their readings
  pub between : (k : ℕ) (x : ℤ) → k + 1 < entries → within (entry k) (entry (k + 1)) x ≡ true
      → (not_above (sensed step (entry k)) (sensed step x) ≡ true) × (not_above (sensed step x) (sensed step (entry (k + 1))) ≡ true)

-- with step 1 the reading at a whole degree's resistance is ten times the degree
abbrev pub WholeDegrees : Type 0
WholeDegrees = (k : ℕ) → k < entries → sensed (pos 1) (entry k) ≡ Number (tenths_at k)

-- the pair of neighbours that an input is read by: the right entry of each pair before it is below the input, and its own is not unless it
-- is the last; and no other pair is so
pub record Paired (x : ℤ) : Type 0 where
  pub pair : IsSegment resistances entries x (pair_of x)
  pub only : (k : ℕ) → IsSegment resistances entries x k → pair_of x ≡ k
