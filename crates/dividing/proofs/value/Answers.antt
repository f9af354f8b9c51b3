-- `dividing::value` meets its contract: display and power of ten become floats without loss. Assumes nothing.
use mathlib.Core.Path.{◌≡◌, sym, subst}
use native.Mathlib.Omega.{arith}
use lib.Dec.{T, lit<}
use lib.IntN.{ℤ, pos}
use lib.Ieee.{binary32, in_float}
use mir.Syntax.{w32}
use mir.Val.{to_z, of_z}
use mir.ValLaws.{to_z-of_z}
use Rattle.exact.proofs.Z.{between_is}
use Rattle.binary32.proofs.Value.{power_most}
use Rattle.dividing.proofs.Values.{in_float_lem, value_itself, value_divided}
use Rattle.dividing.proofs.value.Goals as goal
use Rattle.dividing.proofs.value.Lts as lts
use Rattle.dividing.proofs.value.Reads as reads
use Rattle.dividing.proofs.value.Tie as tie

abbrev Start : Type 0
Start = lts.Start tie.the-claims reads.Pre reads.Post

-- the display as it is read
shown : (s : Start) → to_z w32 (of_z w32 s.args.display) ≡ s.args.display
shown s = to_z-of_z w32 s.args.display s.ranges.display

pub int_to_float-whole : goal.int_to_float-whole
int_to_float-whole c =
    let s = c in
    subst (λ (z : ℤ). T (in_float binary32 z)) (sym (shown s.before.before))
    (in_float_lem s.args.display (omega (arith, between_is s.args.display 99999 19998 (lit< tt) s.requires.0)))

pub returns-then-places-eq0 : goal.returns-then-places-eq0
returns-then-places-eq0 c =
    let s = c in
    simp (shown s.before.before) (value_itself s.args.places s.args.display c.if-places-eq0.true)

pub int_to_float-power : goal.int_to_float-power
int_to_float-power c =
    let s = c in
    in_float_lem (pos c.power_of_ten-power.result) (omega (arith, c.power_of_ten-power.ensures, power_most s.args.places s.requires.1))

pub returns : goal.returns
returns c =
    let s = c in
    simp (shown s.before.before.before.before, c.power_of_ten-power.ensures) (value_divided s.args.places s.args.display c.if-places-eq0.false)
