-- Worked cases of the total, in one table with one claim. Assumes nothing.
use mathlib.Core.Path.{◌≡◌, refl}
use mathlib.Core.Bool.{Bool, true, false}
use mathlib.Core.List.{List, [], ◌∷◌, map}
use Prim.Native.Nat.{ℕ, zero, suc}
use lib.IntN.{ℤ, pos}
use Rattle.exact.specs.Sign.{minus}
use Rattle.exact.specs.Exact.{cut}
use Rattle.reading.specs.declared.Reading.{Reading}
use Rattle.reading.specs.declared.Reading.TheVariants.{Nothing, Under as ReadingUnder, Number, Over as ReadingOver}
use Rattle.total.specs.declared.Totalizer.{Totalizer}
use Rattle.total.specs.declared.Range.{Range}
use Rattle.total.specs.declared.Range.TheVariants.{Within, Under, Over}
use Rattle.total.specs.declared.Total.{Total}
use Rattle.total.specs.Total.{total, reset, unit_of, quotient, summed, added, sample_adds, batch_adds, shown}
use Rattle.total.specs.History.{Event, sample, batch_key, reset_key, from}

-- a totalizer, a total to start at, events with the newest first, and the total and what is shown of it in the end
pub record Row : Type 0 where
  pub settings : Totalizer
  pub start : Total
  pub events : List Event
  pub ends : Total
  pub shows : Reading

abbrev pub row : Totalizer → Total → List Event → Total → Reading → Row
row s t h e r = record { settings = s; start = t; events = h; ends = e; shows = r }

abbrev pub settings : Bool → ℤ → ℕ → ℕ → Totalizer
settings b low f base = record { batch = b; low_cut = low; factor = pos f; time_base = pos base }

-- four meters: factor 1,000 and base 60 with the lowest low cut; factor 1,500 and base 1; a low cut of 50; batch
abbrev pub plain : Totalizer
plain = settings false (minus 19999) 1000 60

abbrev pub faster : Totalizer
faster = settings false (minus 19999) 1500 1

abbrev pub with_low_cut : Totalizer
with_low_cut = settings false (pos 50) 1000 60

abbrev pub in_batch : Totalizer
in_batch = settings true (pos 50) 1500 60

-- an event n times over
unfoldable pub times : ℕ → Event → List Event
times zero e = []
times (suc n) e = e ∷ times n e

abbrev pub number : ℤ → Event
number v = sample (Number v)

abbrev pub key : ℤ → Event
key v = batch_key (Number v)

-- the highest and the lowest sum whose total is in range, of base 60, as the total stands there
abbrev pub highest : Range → Total
highest g = total (pos 1199999999999999) g

abbrev pub lowest : Range → Total
lowest g = total (minus 239999999999999) g

abbrev pub rows : List Row
rows =
    -- document 01: total 1 after 20 samples, 100 after 1,200
    row plain reset (times 20 (number (pos 100))) (total (pos 2000000) Within) (Number (pos 1))
    ∷ row plain reset (times 1200 (number (pos 100))) (total (pos 120000000) Within) (Number (pos 100))
    -- the remainder stays in the sum
    ∷ row plain reset (times 11 (number (pos 100))) (total (pos 1100000) Within) (Number (pos 0))
    ∷ row plain (total (pos 1100000) Within) (times 1 (number (pos 100))) (total (pos 1200000) Within) (Number (pos 1))
    -- a total between -1 and 0 shows 0
    ∷ row plain reset (times 11 (number (minus 100))) (total (minus 1100000) Within) (Number (pos 0))
    ∷ row plain reset (times 12 (number (minus 100))) (total (minus 1200000) Within) (Number (minus 1))
    -- the factor counts, and the low cut: below it a sample adds nothing, at it the whole
    ∷ row faster reset (times 2 (number (pos 10000))) (total (pos 30000000) Within) (Number (pos 1500))
    ∷ row with_low_cut reset (number (pos 49) ∷ []) reset (Number (pos 0))
    ∷ row with_low_cut reset (number (pos 50) ∷ []) (total (pos 50000) Within) (Number (pos 0))
    -- Over, Under and no reading add nothing
    ∷ row plain reset (sample ReadingOver ∷ sample ReadingUnder ∷ sample Nothing ∷ []) reset (Number (pos 0))
    ∷ row in_batch reset (batch_key ReadingOver ∷ batch_key ReadingUnder ∷ batch_key Nothing ∷ []) reset (Number (pos 0))
    -- in batch samples add nothing, and key 1 adds the reading without factor or low cut
    ∷ row in_batch reset (number (pos 100) ∷ []) reset (Number (pos 0))
    ∷ row in_batch reset (key (pos 7) ∷ []) (total (pos 8400000) Within) (Number (pos 7))
    ∷ row in_batch reset (key (minus 10) ∷ key (pos 7) ∷ []) (total (minus 3600000) Within) (Number (minus 3))
    -- the highest total is shown; past it Over, whatever follows, and 0 after a reset
    ∷ row plain (highest Within) (number (pos 0) ∷ []) (highest Within) (Number (pos 999999999))
    ∷ row plain (highest Within) (number (pos 1) ∷ []) (highest Over) ReadingOver
    ∷ row in_batch (highest Within) (key (pos 1) ∷ []) (highest Over) ReadingOver
    ∷ row plain (highest Within) (number (minus 500) ∷ number (pos 1) ∷ []) (highest Over) ReadingOver
    ∷ row plain (highest Within) (number (pos 100) ∷ reset_key ∷ number (pos 1) ∷ []) (total (pos 100000) Within) (Number (pos 0))
    -- the lowest total is shown; past it Under, whatever follows
    ∷ row plain (lowest Within) (number (pos 0) ∷ []) (lowest Within) (Number (minus 199999999))
    ∷ row plain (lowest Within) (number (minus 1) ∷ []) (lowest Under) ReadingUnder
    ∷ row plain (lowest Within) (number (pos 500) ∷ number (minus 1) ∷ []) (lowest Under) ReadingUnder
    ∷ []

-- the total that a row's events leave, with what is shown of it
abbrev pub given : Row → Total × Reading
given r = let t = from r.settings r.start r.events in (t, shown r.settings t)

abbrev pub said : Row → Total × Reading
said r = (r.ends, r.shows)

pub cases : map given rows ≡ map said rows
unfolding from times added summed quotient unit_of cut sample_adds batch_adds shown
cases = refl
