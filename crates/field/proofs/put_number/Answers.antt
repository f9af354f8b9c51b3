-- `field::put_number` meets its contract: each of the three parts is put at the right end of what the one before it left. Assumes nothing.
use Rattle.std.proofs.Common.{◌≡◌, refl, ap, ◌∙◌, ◌++◌, ◌-◌, ◌/◌, ◌%◌, ◌<◌, drop, length-append, nat_abs, arith}
use native.Mathlib.Nat.{div-le_self}
use mir.Facts.{to_z-of_z}
use Rattle.field.specs.Field.{whole, fraction, sign}
use Rattle.field.proofs.Right.{At, left_length, before_it}
use Rattle.field.proofs.Number.{power_some, parts, parts_length}
use Rattle.field.proofs.put_number.Goals as goal
use Rattle.field.proofs.put_number.Goals.{After-unsigned_abs-size, After-power_of_ten-power, After-put_fraction-point, After-put_whole-start}

sized : (c : After-unsigned_abs-size) → c.unsigned_abs-size.result ≡ nat_abs c.args.n
sized c = c.unsigned_abs-size.ensures.value ∙ ap nat_abs (to_z-of_z c.ranges.n)

-- the power is above zero
power : (c : After-power_of_ten-power) → 0 < c.power_of_ten-power.result
power c = rw c.power_of_ten-power.ensures (power_some c.args.places)

pub nonzero_div-whole : goal.nonzero_div-whole
nonzero_div-whole c = power (goal.at.nonzero_div-whole c).After-power_of_ten-power

pub nonzero_rem-size : goal.nonzero_rem-size
nonzero_rem-size c = power (goal.at.nonzero_rem-size c).After-power_of_ten-power

pub put_fraction-point-requires : goal.put_fraction-point-requires
put_fraction-point-requires c =
    let n = sized (goal.at.put_fraction-point-requires c).After-unsigned_abs-size in
    omega (arith, parts_length c.args.places c.args.n _ _ n c.power_of_ten-power.ensures, c.requires.2)

-- what has been put after the first call, and after the second
fraction_put : (c : After-put_fraction-point) → At c.args.buf.now
    (fraction c.args.places (c.unsigned_abs-size.result % c.power_of_ten-power.result))
    c.put_fraction-point.result c.put_fraction-point.new.buf
fraction_put c =
    let n : c.unsigned_abs-size.result ≡ nat_abs c.args.n = c.unsigned_abs-size.ensures.value ∙ ap nat_abs (to_z-of_z c.ranges.n) in
    record {
      room = omega (arith, parts_length c.args.places c.args.n _ _ n c.power_of_ten-power.ensures, c.requires.2);
      start = c.put_fraction-point.ensures.0;
      bytes = c.put_fraction-point.ensures.1;
    }

pub put_whole-start-requires : goal.put_whole-start-requires
put_whole-start-requires c =
    let p = goal.at.put_whole-start-requires c in
    let n = parts_length c.args.places c.args.n _ _ (sized p.After-unsigned_abs-size) c.power_of_ten-power.ensures in
    let l = left_length c.args.buf.now _ _ _ (fraction_put p.After-put_fraction-point) in
    (omega (arith, div-le_self c.unsigned_abs-size.result c.power_of_ten-power.result, sized p.After-unsigned_abs-size), omega arith)

whole_put : (c : After-put_whole-start) → At c.args.buf.now
    (fraction c.args.places (c.unsigned_abs-size.result % c.power_of_ten-power.result)) c.put_fraction-point.result c.put_fraction-point.new.buf
    → c.unsigned_abs-size.result ≡ nat_abs c.args.n → At c.args.buf.now
    (whole (c.unsigned_abs-size.result / c.power_of_ten-power.result) ++ fraction c.args.places (c.unsigned_abs-size.result % c.power_of_ten-power.result))
    c.put_whole-start.result (c.put_whole-start.new.buf ++ drop (c.put_fraction-point.result - 0) c.put_fraction-point.new.buf)
whole_put c f n =
    before_it c.args.buf.now _ _ _ _ _ _ f
    (omega (arith, parts_length c.args.places c.args.n _ _ n c.power_of_ten-power.ensures, c.requires.2))
    c.put_whole-start.ensures.0 c.put_whole-start.ensures.1

pub put_sign-requires : goal.put_sign-requires
put_sign-requires c =
    let p = goal.at.put_sign-requires c in
    let m = sized p.After-unsigned_abs-size in
    let n = parts_length c.args.places c.args.n _ _ m c.power_of_ten-power.ensures in
    let l = left_length c.args.buf.now _ _ _ (whole_put p.After-put_whole-start (fraction_put p.After-put_fraction-point) m) in
    let a = length-append (whole (c.unsigned_abs-size.result / c.power_of_ten-power.result)) (fraction c.args.places (c.unsigned_abs-size.result % c.power_of_ten-power.result)) in
    rw (to_z-of_z c.ranges.n) (omega arith)

pub returns : goal.returns
returns c =
    let p = goal.at.returns c in
    let m = sized p.After-unsigned_abs-size in
    let n = parts_length c.args.places c.args.n _ _ m c.power_of_ten-power.ensures in
    let a = length-append (whole (c.unsigned_abs-size.result / c.power_of_ten-power.result)) (fraction c.args.places (c.unsigned_abs-size.result % c.power_of_ten-power.result)) in
    rw (parts c.args.places c.args.n _ _ m c.power_of_ten-power.ensures)
    (before_it c.args.buf.now _ (sign c.args.n) _ _ _ _ (whole_put p.After-put_whole-start (fraction_put p.After-put_fraction-point) m)
    (omega (arith, c.requires.2)) refl (c.put_sign.ensures ∙ rw (to_z-of_z c.ranges.n))).bytes
