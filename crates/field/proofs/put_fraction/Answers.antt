-- `field::put_fraction` meets its contract: with no places nothing is put, and else the point stands before a tail of digits. Assumes nothing.
use native.Mathlib.Omega.{arith}
use mathlib.Core.Path.{sym}
use Prim.Native.Nat.{◌-◌}
use lib.ListN.{length}
use borrow.Rule.Slice.PartMut.{same_len_mid}
use Rattle.field.specs.Field.{fraction}
use Rattle.field.proofs.Right.{fraction_length, point_put, right_nil}
use Rattle.field.proofs.put_fraction.Goals as goal

pub returns-then-places-eq0 : goal.returns-then-places-eq0
unfolding fraction
returns-then-places-eq0 c = rw c.if-places-eq0.true (omega arith, sym (right_nil c.args.buf.now))

pub overflow_sub-start : goal.overflow_sub-start
overflow_sub-start c = omega (arith, fraction_length c.args.places c.args.n (omega arith))

pub overflow_sub-point : goal.overflow_sub-point
overflow_sub-point c =
    let s = c in
    omega (arith, fraction_length s.args.places s.args.n (omega arith))

pub bounds-buf-point : goal.bounds-buf-point
bounds-buf-point c =
    let s = c in
    let n = fraction_length s.args.places s.args.n (omega arith) in
    let d = s.args.buf.now in
    let i = length d - s.args.places in
    omega (arith, same_len_mid i (length d - i) d c.put_digits.new.buf c.put_digits.auto.buf)

pub returns : goal.returns
returns c =
    let s = c in
    let n = fraction_length s.args.places s.args.n (omega arith) in
    point_put s.args.buf.now _ s.args.places s.args.n (omega arith) (omega arith) c.put_digits.ensures
