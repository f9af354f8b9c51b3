-- `analog::scaled` meets its contract: the numbers fit, and the divisor that `floor` is given is above zero. Assumes nothing.
use Rattle.std.proofs.Common.{rules, ◌≡◌, ◌∙◌, sym, true, false, w32, w64, ℤ, pos, neg_ℤ, ◌-ℤ◌, ◌*ℤ◌, to_z, of_z}
use lib.Signed.{lt_z}
use mir.Val.{SFits}
use mir.Facts.{to_z-of_z}
use Rattle.exact.specs.Sign.{is_neg}
use Rattle.exact.proofs.Z.{rd, minus, neg_test, widened, back64}
use Rattle.analog.proofs.Fit.{rise, run, rising, fit, falling, floor_up, floor_down}
use Rattle.analog.proofs.scaled.Goals as goal
use Rattle.analog.proofs.scaled.Lts as lts
use Rattle.analog.proofs.scaled.Reads as reads
use Rattle.analog.proofs.scaled.Tie as tie

abbrev Then-run-lt0 : Type 0
Then-run-lt0 = lts.Then1 tie.the-claims reads.Pre reads.Post

abbrev Else-run-lt0 : Type 0
Else-run-lt0 = lts.Else1 tie.the-claims reads.Pre reads.Post

-- the two numbers of the fraction, as the machine has them of the i64 that it makes of each i32
module _ {low high v : ℤ} (l : SFits w32 low) (h : SFits w32 high) (n : SFits w32 v) where
  rise_is : {x y : ℤ} → x ≡ to_z w32 (of_z w32 v) → y ≡ to_z w32 (of_z w32 low) → to_z w64 (of_z w64 (pos 4095 *ℤ to_z w64 (of_z w64 (to_z w64 (of_z w64 x) -ℤ to_z w64 (of_z w64 y))))) ≡ rise low v
  rise_is e f =
      let a = fit l h n in
      rw (e, f) (simp (widened n, widened l, to_z-of_z a.above, to_z-of_z a.up))

  run_is : {x y : ℤ} → x ≡ to_z w32 (of_z w32 high) → y ≡ to_z w32 (of_z w32 low) → to_z w64 (of_z w64 (to_z w64 (of_z w64 x) -ℤ to_z w64 (of_z w64 y))) ≡ run low high
  run_is e f =
      let a = fit l h n in
      rw (e, f) (simp (widened h, widened l, to_z-of_z a.across))

-- which way the range runs; the test is found by what it says, so that another one is refused here
falls : (c : Then-run-lt0) → is_neg (run c.args.low c.args.high) ≡ true
falls c =
    let e : lt_z (to_z w64 (of_z w64 (to_z w64 (of_z w64 c.from-3.result) -ℤ to_z w64 (of_z w64 c.from-4.result)))) (pos 0) ≡ true = search rules in
    sym (neg_test (run c.args.low c.args.high)) ∙ (rw (run_is c.ranges.low c.ranges.high c.ranges.v c.from-3.ensures c.from-4.ensures) at e)

rises : (c : Else-run-lt0) → is_neg (run c.args.low c.args.high) ≡ false
rises c =
    let e : lt_z (to_z w64 (of_z w64 (to_z w64 (of_z w64 c.from-3.result) -ℤ to_z w64 (of_z w64 c.from-4.result)))) (pos 0) ≡ false = search rules in
    sym (neg_test (run c.args.low c.args.high)) ∙ (rw (run_is c.ranges.low c.ranges.high c.ranges.v c.from-3.ensures c.from-4.ensures) at e)

pub overflow_sub-rise-then-run-lt0 : goal.overflow_sub-rise-then-run-lt0
overflow_sub-rise-then-run-lt0 c =
    rw (rise_is c.ranges.low c.ranges.high c.ranges.v c.from.ensures c.from-2.ensures, minus (rise c.args.low c.args.v)) (fit c.ranges.low c.ranges.high c.ranges.v).down

-- the two numbers with their signs turned
rise_back : (c : Then-run-lt0) → to_z w64 (of_z w64 (pos 0 -ℤ rise c.args.low c.args.v)) ≡ neg_ℤ (rise c.args.low c.args.v)
rise_back c = rd (minus (rise c.args.low c.args.v)) (fit c.ranges.low c.ranges.high c.ranges.v).down

run_back : (c : Then-run-lt0) → to_z w64 (of_z w64 (pos 0 -ℤ run c.args.low c.args.high)) ≡ neg_ℤ (run c.args.low c.args.high)
run_back c = rd (minus (run c.args.low c.args.high)) (fit c.ranges.low c.ranges.high c.ranges.v).back

pub floor-requires : goal.floor-requires
floor-requires c =
    rw (run_is c.ranges.low c.ranges.high c.ranges.v c.from-3.ensures c.from-4.ensures, run_back c) (falling c.args.low c.args.high c.requires (falls c))

pub floor-requires-else-run-lt0 : goal.floor-requires-else-run-lt0
floor-requires-else-run-lt0 c =
    rw (run_is c.ranges.low c.ranges.high c.ranges.v c.from-3.ensures c.from-4.ensures) (rising c.args.low c.args.high c.requires (rises c))

pub returns-then-run-lt0 : goal.returns-then-run-lt0
returns-then-run-lt0 c =
    let t = c.before in
    back64 c.floor.result c.floor.type_inv ∙ c.floor.ensures
    ∙ rw (run_is c.ranges.low c.ranges.high c.ranges.v c.from-3.ensures c.from-4.ensures, rise_is c.ranges.low c.ranges.high c.ranges.v c.from.ensures c.from-2.ensures, run_back t, rise_back t) (floor_down (rise c.args.low c.args.v) (run c.args.low c.args.high) (falls t))

pub returns-else-run-lt0 : goal.returns-else-run-lt0
returns-else-run-lt0 c =
    back64 c.floor-else-run-lt0.result c.floor-else-run-lt0.type_inv ∙ c.floor-else-run-lt0.ensures
    ∙ rw (run_is c.ranges.low c.ranges.high c.ranges.v c.from-3.ensures c.from-4.ensures, rise_is c.ranges.low c.ranges.high c.ranges.v c.from.ensures c.from-2.ensures) (floor_up (rise c.args.low c.args.v) (run c.args.low c.args.high) (rises c.before))
