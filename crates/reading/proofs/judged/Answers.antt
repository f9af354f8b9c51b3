-- `reading::judged` meets its contract: each test, of the number and not of its bits, picks its case. Assumes nothing.
use borrow.Author.Rules.{rules}
use mathlib.Core.Path.{◌≡◌}
use mathlib.Core.Bool.{false}
use native.Mathlib.Omega.{arith}
use lib.Dec.{lit<}
use lib.IntN.{pos}
use lib.Signed.{lt_z}
use mir.Syntax.{w32, w64}
use mir.Val.{SFits, to_z, of_z}
use mir.Facts.{to_z-of_z}
use Rattle.exact.specs.Sign.{minus}
use Rattle.exact.proofs.Z.{abs_fits, between_abs}
use Rattle.reading.specs.Reading.{judged}
use Rattle.reading.proofs.judged.Goals as goal
use Rattle.reading.proofs.judged.Lts as lts
use Rattle.reading.proofs.judged.Reads as reads

abbrev Else-v-ltminus19999 : Type 0
Else-v-ltminus19999 = lts.Else2 reads.Pre reads.Post

abbrev Else-v-gt99999 : Type 0
Else-v-gt99999 = lts.Else1 reads.Pre reads.Post

pub returns-then-v-gt99999 : goal.returns-then-v-gt99999
unfolding judged
returns-then-v-gt99999 c = rw (rw (to_z-of_z c.ranges.v) at c.if-v-gt99999.true)

-- the tests are found by what they say, so that one of another limit is refused here
not_over : (c : Else-v-gt99999) → lt_z (pos 99999) c.args.v ≡ false
not_over c =
    let e : lt_z (pos 99999) (to_z w64 (of_z w64 c.args.v)) ≡ false = search rules in
    rw (to_z-of_z c.ranges.v) at e

not_under : (c : Else-v-ltminus19999) → lt_z c.args.v (minus 19999) ≡ false
not_under c =
    let e : lt_z (to_z w64 (of_z w64 c.args.v)) (minus 19999) ≡ false = search rules in
    rw (to_z-of_z c.ranges.v) at e

pub returns-then-v-ltminus19999 : goal.returns-then-v-ltminus19999
unfolding judged
returns-then-v-ltminus19999 c = rw (not_over c.before, rw (to_z-of_z c.ranges.v) at c.if-v-ltminus19999.true)

fits : (c : Else-v-ltminus19999) → SFits w32 c.args.v
fits c =
    abs_fits _ (omega (arith, between_abs c.args.v 99999 19998 (lit< tt) (not_over c.before) (not_under c)))

pub overflow_cast-result : goal.overflow_cast-result
overflow_cast-result c = rw (to_z-of_z c.ranges.v) (fits c)

pub returns : goal.returns
unfolding judged
returns c = rw (not_over c.before, not_under c) (simp (to_z-of_z c.ranges.v, to_z-of_z (fits c)))
