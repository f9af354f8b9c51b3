-- What a sound instrument shows fits into a field, whatever status it has stored. Assumes nothing.
use borrow.Author.Tests.{eqb-true, eqb-false}
use native.Mathlib.Omega.{arith}
use mathlib.Core.Path.{◌≡◌}
use mathlib.Core.Bool.{true, ◌||◌}
use Prim.Native.Nat.{ℕ, ◌^◌, ◌≤◌, ◌<◌}
use lib.Dec.{eqb, lit<}
use lib.IntN.{pos}
use Rattle.exact.specs.Sign.{within}
use Rattle.exact.proofs.Z.{both, either, between_is, from_to}
use Rattle.register.specs.Registers.{at, count}
use Rattle.reading.specs.Reading.{displayable, size}
use Rattle.reading.specs.declared.Reading.{Reading}
use Rattle.reading.specs.declared.Reading.TheVariants.{Nothing, Under, Number, Over}
use Rattle.reading.proofs.Scale.{display_small}
use Rattle.total.specs.Total as totals
use Rattle.total.specs.declared.Range.{Range}
use Rattle.total.specs.declared.Range.TheVariants.{Within, Under as RangeUnder, Over as RangeOver}
use Rattle.total.specs.declared.Total.{Total}
use Rattle.total.specs.declared.Totalizer.{Totalizer}
use Rattle.extremes.specs.Extremes as extremes
use Rattle.extremes.proofs.Laws.{sound_parts}
use Rattle.alarms.specs.Alarms.{setpoint_of}
use Rattle.config.specs.Config.{places_rule}
use Rattle.config.specs.declared.Places.{Places}
use Rattle.config.specs.declared.Working.{Working}
use Rattle.instrument.specs.Instrument.{alarm_of, sound}
use Rattle.instrument.specs.Shown.{shown_at, places_at}
use Rattle.instrument.specs.declared.Instrument.{Instrument}
use Rattle.instrument.proofs.Soundness.{chosen, tested}

-- ---- numbers

display_size : (r : Reading) → displayable r ≡ true → size r < 10 ^ 9
unfolding displayable
display_size Nothing e = omega arith
display_size Under e = omega arith
display_size (Number v) e = omega (arith, display_small v e)
display_size Over e = omega arith

total_size : (s : Totalizer) (t : Total) → totals.in_range s t ≡ true → size (totals.shown s t) < 10 ^ 9
unfolding totals.shown
total_size s t k = go t.range
  where
    go : (g : Range) → size (totals.shown_as g (totals.quotient s t.sum)) < 10 ^ 9
    go Within = omega (arith, between_is (totals.quotient s t.sum) 999999999 199999998 (lit< tt) k)
    go RangeUnder = omega arith
    go RangeOver = omega arith

-- the registers that are left over are the setpoints
left_over : (r : ℕ) → r < count → (r ≡ at "I" → ⊥) → (r ≡ at "J" → ⊥) → alarm_of r < 4
left_over r h e n = omega arith

-- every number that it shows is smaller than 10 ^ 9 in size; of the status that asks no more than the 16 bits that it is stored in
pub shown_size : (w : Working) (i : Instrument) → sound w i ≡ true → (r : ℕ) → r < count → (r ≡ at "J" → i.outputs.status < 2 ^ 16) → size (shown_at w i r) < 10 ^ 9
unfolding shown_at
shown_size w i e r h s =
    let p = tested w i e in
    let m = p.measured in
    let small : Reading → Type 0 = λ x. size x < 10 ^ 9 in
    either small (eqb r (at "A")) (display_size i.measured.reading m.reading)
    (either small (eqb r (at "B")) (total_size w.totalizer i.measured.total m.total)
    (either small (eqb r (at "C")) (display_size (extremes.shown i.measured.max) (sound_parts i.measured.max m.max).0)
    (either small (eqb r (at "D")) (display_size (extremes.shown i.measured.min) (sound_parts i.measured.min m.min).0)
    (chosen small (eqb r (at "I")) (λ t. omega (arith, (from_to i.outputs.code 0 4095 p.outputs.code).1.1))
    (λ t. chosen small (eqb r (at "J")) (λ u. omega (arith, s (eqb-true r (at "J") u)))
    (λ u. omega (arith, display_small (setpoint_of i.alarms (alarm_of r)) (p.alarms.setpoints (alarm_of r) (left_over r h (eqb-false r (at "I") t) (eqb-false r (at "J") u))))))))))

-- ---- places

-- the places are at most four
pub few : (p : Places) (r : ℕ) → places_rule p ≡ true → places_at p r ≤ 4
unfolding places_at
few p r e =
    let b = both (within (pos 0) (pos 4) p.input) (within (pos 0) (pos 4) p.total) e in
    let small : ℕ → Type 0 = λ n. n ≤ 4 in
    either small (eqb r (at "B")) (from_to p.total 0 4 b.1).1.1
    (either small (eqb r (at "I") || eqb r (at "J")) (omega arith) (from_to p.input 0 4 b.0).1.1)
