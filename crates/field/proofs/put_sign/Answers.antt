-- `field::put_sign` meets its contract: a number below zero has one byte of sign, and any other none. Assumes nothing.
use borrow.Author.Rules.{rules}
use native.Mathlib.Omega.{arith}
use mathlib.Core.Path.{◌≡◌, refl, sym, ap}
use mathlib.Core.List.{[], ◌∷◌}
use Prim.Native.Nat.{◌≤◌}
use lib.ListN.{length}
use lib.IntN.{pos}
use lib.Seq.{drop-length}
use lib.Signed.{lt_z}
use mathlib.Core.Bool.{true}
use mir.Syntax.{w32}
use mir.Val.{to_z, of_z}
use Rattle.exact.proofs.Z.{neg_is}
use Rattle.field.specs.Field.{sign}
use Rattle.field.proofs.Digits.{first_put}
use Rattle.field.proofs.Right.{right_nil}
use Rattle.field.proofs.put_sign.Goals as goal
use Rattle.field.proofs.put_sign.Lts as lts
use Rattle.field.proofs.put_sign.Reads as reads

abbrev BelowZero : Type 0
BelowZero = lts.Then1 reads.Pre reads.Post

-- the test is found by what it says, so that another one is refused here
minus : (c : BelowZero) → sign c.args.n ≡ 45 ∷ []
unfolding sign
minus c =
    let e : lt_z (to_z w32 (of_z w32 c.args.n)) (pos 0) ≡ true = search rules in
    rw (neg_is c.ranges.n e)

some : (c : BelowZero) → 1 ≤ length c.args.buf.now
some c = omega (arith, ap length (minus c))

pub overflow_sub-last : goal.overflow_sub-last
overflow_sub-last c = some c

pub bounds-buf-last : goal.bounds-buf-last
bounds-buf-last c = omega (arith, some c)

pub returns-then-n-lt0 : goal.returns-then-n-lt0
returns-then-n-lt0 c =
    let d = c.args.buf.now in
    (first_put d d (sign c.args.n) (length d) 45 (some c) (omega arith) refl (rw drop-length (minus c)) refl).1

pub returns-else-n-lt0 : goal.returns-else-n-lt0
unfolding sign
returns-else-n-lt0 c = rw (neg_is c.ranges.n c.if-n-lt0.false) (sym (right_nil _))
