-- `sensing::read` meets its contract: each test picks its case, and the constants are the definition's table. Assumes nothing.
use borrow.Author.Rules.{rules}
use native.Mathlib.Omega.{arith}
use mathlib.Core.Path.{◌≡◌, refl, sym, ◌∙◌}
use mathlib.Core.Bool.{true, false}
use Prim.Native.Nat.{◌≤◌}
use lib.IntN.{ℤ, pos, nat_abs}
use lib.Signed.{lt_z}
use mir.Syntax.{w32}
use mir.Val.{to_z, of_z}
use mir.Facts.{to_z-of_z}
use Rattle.exact.specs.Sign.{within}
use Rattle.exact.specs.Exact.{Fraction}
use Rattle.exact.proofs.Z.{back64, widened, from_to, within_is}
use Rattle.reading.specs.Reading.{displayed}
use Rattle.platinum.specs.Table.{resistances}
use Rattle.platinum.specs.Platinum.{between, pair_of}
use Rattle.platinum.proofs.Laws.{value_small, read_over, read_under, read_inside}
use Rattle.sensing.proofs.read.Goals as goal
use Rattle.sensing.proofs.read.Lts as lts
use Rattle.sensing.proofs.read.Reads as reads
use Rattle.sensing.proofs.read.Tie as tie

abbrev After-tenths-whole : Type 0
After-tenths-whole = lts.After-tenths tie.the-claims reads.Pre reads.Post

abbrev Then-input-gt390481 : Type 0
Then-input-gt390481 = lts.Then1 tie.the-claims reads.Pre reads.Post

abbrev Then-input-lt18520 : Type 0
Then-input-lt18520 = lts.Then2 tie.the-claims reads.Pre reads.Post

abbrev Else-input-lt18520 : Type 0
Else-input-lt18520 = lts.Else2 tie.the-claims reads.Pre reads.Post

abbrev Else-input-gt390481 : Type 0
Else-input-gt390481 = lts.Else1 tie.the-claims reads.Pre reads.Post

-- the tests, of the input and not of its bits; each is found by what it says, so that one of another limit is refused here
over : (c : Then-input-gt390481) → lt_z (pos 390481) c.args.input ≡ true
over c =
    let e : lt_z (pos 390481) (to_z w32 (of_z w32 c.args.input)) ≡ true = search rules in
    simp (to_z-of_z c.ranges.input) at e

pub returns-then-input-gt390481 : goal.returns-then-input-gt390481
returns-then-input-gt390481 c = sym (read_over c.args.step c.args.input (over c))

not_over : (c : Else-input-gt390481) → lt_z (pos 390481) c.args.input ≡ false
not_over c =
    let e : lt_z (pos 390481) (to_z w32 (of_z w32 c.args.input)) ≡ false = search rules in
    simp (to_z-of_z c.ranges.input) at e

under : (c : Then-input-lt18520) → lt_z c.args.input (pos 18520) ≡ true
under c =
    let e : lt_z (to_z w32 (of_z w32 c.args.input)) (pos 18520) ≡ true = search rules in
    simp (to_z-of_z c.ranges.input) at e

pub returns-then-input-lt18520 : goal.returns-then-input-lt18520
returns-then-input-lt18520 c = sym (read_under c.args.step c.args.input (under c))

not_under : (c : Else-input-lt18520) → lt_z c.args.input (pos 18520) ≡ false
not_under c =
    let e : lt_z (to_z w32 (of_z w32 c.args.input)) (pos 18520) ≡ false = search rules in
    simp (to_z-of_z c.ranges.input) at e

inside : (c : Else-input-lt18520) → within (pos 18520) (pos 390481) c.args.input ≡ true
inside c = within_is (pos 18520) (pos 390481) c.args.input (not_over c.before) (not_under c)

pub tenths-whole-requires : goal.tenths-whole-requires
unfolding resistances
tenths-whole-requires c = refl

-- tenths of a degree, of the input
whole : (c : After-tenths-whole) → c.tenths-whole.result ≡ between (pair_of c.args.input) c.args.input
whole c =
    let s = c in
    c.tenths-whole.ensures ∙ rw (to_z-of_z s.ranges.input)

-- the step that they are rounded to
over_step : (v step : ℤ) → nat_abs v ≤ 8500 → within (pos 1) (pos 100) step ≡ true → Fraction v step
over_step v step h w =
    let s = from_to step 1 100 w in
    record { divisor = record { above = s.0; some = omega (arith, s.1.0) }; small = omega arith; narrow = omega (arith, s.1.1) }

pub to_step-requires : goal.to_step-requires
to_step-requires c =
    let e = c in
    let s = e in
    rw (back64 c.tenths-whole.result c.tenths-whole.type_inv, whole c.before, c.from.ensures, widened s.ranges.step)
    (over_step _ s.args.step (value_small s.args.input (inside e.before.before.before)) s.requires)

pub returns : goal.returns
unfolding displayed
returns c =
    let t = c in
    let w = t in
    let e = w in
    let s = e in
    rw (read_inside s.args.step s.args.input (inside e.before.before.before.before.before))
    (c.judged.ensures
    ∙ rw (back64 t.to_step.result t.to_step.type_inv, t.to_step.ensures, back64 w.tenths-whole.result w.tenths-whole.type_inv, whole w.before.before.before, c.from.ensures, widened s.ranges.step))
