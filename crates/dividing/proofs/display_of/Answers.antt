-- `dividing::display_of` meets its contract: significand times power, on its side of zero, to the nearest unit. Assumes nothing.
use Rattle.std.proofs.Common.{◌≡◌, refl, ◌^◌, ℕ, ◌*◌, ◌≤◌, ℤ, pos, neg_ℤ, ◌-ℤ◌, ◌*ℤ◌, ap, ◌∙◌, arith, w64, SFits, to_z, of_z, le-leb}
use Rattle.std.proofs.lemmas.Bool.{lt-leb}
use Rattle.exact.proofs.Z.{rd, fits_as, abs_fits, abs_neg, minus, back64}
use Rattle.binary32.specs.Binary32.{significand, display_of}
use Rattle.binary32.proofs.Value.{power_most}
use Rattle.dividing.proofs.Units.{times_small, read_unit, fraction, turned_fits}
use Rattle.dividing.proofs.display_of.Goals as goal
use Rattle.dividing.proofs.display_of.Goals.{After-from-2}

-- the power of ten, as the call gives it
power : (c : After-from-2) → c.power_of_ten.result ≤ 10000
power c = omega (arith, c.power_of_ten.ensures, power_most c.args.places c.requires.2)

-- what the bits stand for, times the power
abbrev times : After-from-2 → ℕ
times c = significand c.args.bits * c.power_of_ten.result

product : (c : After-from-2) → (to_z w64 (of_z w64 c.from.result) *ℤ to_z w64 (of_z w64 c.from-2.result)) ≡ pos (times c)
product c = rw (back64 c.from.result c.from.type_inv ∙ c.from.ensures, back64 c.from-2.result c.from-2.type_inv ∙ c.from-2.ensures)

read : (c : After-from-2) → to_z w64 (of_z w64 (to_z w64 (of_z w64 c.from.result) *ℤ to_z w64 (of_z w64 c.from-2.result))) ≡ pos (times c)
read c = rd {w = w64} (product c) (abs_fits (pos (times c)) (omega (arith, times_small c.args.bits c.power_of_ten.result (power c))))

-- the other sign of it
turned : (c : After-from-2) → (pos 0 -ℤ to_z w64 (of_z w64 (to_z w64 (of_z w64 c.from.result) *ℤ to_z w64 (of_z w64 c.from-2.result)))) ≡ neg_ℤ (pos (times c))
turned c = ap (λ (z : ℤ). pos 0 -ℤ z) (read c) ∙ minus (pos (times c))

turned_fits_here : (c : After-from-2) → SFits w64 (neg_ℤ (pos (times c)))
turned_fits_here c = turned_fits c.args.bits c.power_of_ten.result (power c)

pub nearest-requires : goal.nearest-requires
nearest-requires c =
    let p = (goal.at.nearest-requires c).After-from-2 in
    simp (read p, read_unit p.args.bits p.requires.0) (fraction p.args.bits p.power_of_ten.result (pos (times p)) (power p) p.requires.0 refl)

pub overflow_sub-times : goal.overflow_sub-times
overflow_sub-times c =
    let p = (goal.at.overflow_sub-times c).After-from-2 in
    fits_as (turned p) (turned_fits_here p)

pub nearest-requires-else-bits-lt-SIGN : goal.nearest-requires-else-bits-lt-SIGN
nearest-requires-else-bits-lt-SIGN c =
    let p = (goal.at.nearest-requires-else-bits-lt-SIGN c).After-from-2 in
    simp (rd (turned p) (turned_fits_here p), read_unit p.args.bits p.requires.0) (fraction p.args.bits p.power_of_ten.result (neg_ℤ (pos (times p))) (power p) p.requires.0 (abs_neg (pos (times p))))

pub returns-then-bits-lt-SIGN : goal.returns-then-bits-lt-SIGN
unfolding display_of
returns-then-bits-lt-SIGN c =
    let p = (goal.at.returns-then-bits-lt-SIGN c).After-from-2 in
    back64 c.nearest.result c.nearest.type_inv ∙ c.nearest.ensures
    ∙ rw (read p, read_unit p.args.bits p.requires.0, lt-leb (2 ^ 31) p.args.bits c.if-bits-lt-SIGN.true, p.power_of_ten.ensures)

pub returns-else-bits-lt-SIGN : goal.returns-else-bits-lt-SIGN
unfolding display_of
returns-else-bits-lt-SIGN c =
    let p = (goal.at.returns-else-bits-lt-SIGN c).After-from-2 in
    back64 c.nearest-else-bits-lt-SIGN.result c.nearest-else-bits-lt-SIGN.type_inv ∙ c.nearest-else-bits-lt-SIGN.ensures
    ∙ rw (rd (turned p) (turned_fits_here p), read_unit p.args.bits p.requires.0, le-leb (2 ^ 31) p.args.bits c.if-bits-lt-SIGN.false, p.power_of_ten.ensures)
