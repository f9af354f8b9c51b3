-- `run::samples` meets its contract: tenths that are not below 1 are a natural number, and twice that is at least 1 and fits. Assumes nothing.
use borrow.Author.Rules.{rules}
use borrow.Author.Tests.{ltb-true, ltb-false}
use native.Mathlib.Omega.{arith}
use mathlib.Core.Path.{◌≡◌, refl, sym}
use mathlib.Core.Bool.{true, false}
use Prim.Native.Nat.{ℕ, ◌*◌, ◌^◌, ◌<◌}
use lib.Dec.{T}
use lib.IntN.{ℤ, pos, negsuc, nat_abs}
use lib.Signed.{lt_z, non_neg}
use mir.Syntax.{w32}
use mir.Val.{SFits, to_z, of_z}
use mir.Facts.{to_z-of_z}
use Rattle.exact.proofs.Z.{never}
use Rattle.run.specs.Run.{samples}
use Rattle.run.proofs.samples.Goals as goal
use Rattle.run.proofs.samples.Lts as lts
use Rattle.run.proofs.samples.Reads as reads

abbrev Else-tenths : Type 0
Else-tenths = lts.Else1 reads.Pre reads.Post

-- what is known of tenths that are not below 1
record Natural (z : ℤ) : Type 0 where
  up : T (non_neg z)
  small : nat_abs z < 2 ^ 31
  twice : 2 * nat_abs z ≡ samples z

natural : (z : ℤ) → SFits w32 z → lt_z z (pos 1) ≡ false → Natural z
unfolding samples
natural (pos n) f e = record { up = tt; small = f.sfits; twice = omega (arith, ltb-false) }
natural (negsuc n) f e = never (sym e)

shortest : (z : ℤ) → lt_z z (pos 1) ≡ true → ◌≡◌ {A = ℕ} 1 (samples z)
unfolding samples
shortest (pos n) e = omega (arith, ltb-true)
shortest (negsuc n) e = refl

-- the test is found by what it says, so that one of another number is refused here
tenths : (c : Else-tenths) → Natural c.args.tenths
tenths c =
    let e : lt_z (to_z w32 (of_z w32 c.args.tenths)) (pos 1) ≡ false = search rules in
    natural _ c.ranges.tenths (rw (to_z-of_z c.ranges.tenths) at e)

pub overflow_cast-result : goal.overflow_cast-result
overflow_cast-result c =
    let t = tenths c in
    rw (to_z-of_z c.ranges.tenths) (t.up, record { fits = omega arith })

pub overflow_mul-result : goal.overflow_mul-result
overflow_mul-result c =
    let t = tenths c in
    rw (to_z-of_z c.ranges.tenths) (record { fits = omega arith })

pub returns-then-tenths-lt1 : goal.returns-then-tenths-lt1
returns-then-tenths-lt1 c = shortest _ (rw (to_z-of_z c.ranges.tenths) at c.if-tenths-lt1.true)

pub returns-else-tenths-lt1 : goal.returns-else-tenths-lt1
returns-else-tenths-lt1 c = rw (to_z-of_z c.ranges.tenths) (tenths c).twice
