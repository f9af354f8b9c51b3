-- What is read of a platinum sensor: at a whole degree, in which range, and that it never falls with the input. Assumes nothing.
use mathlib.Core.Path.{◌≡◌, refl, sym, ap, subst, ◌∙◌}
use mathlib.Core.Bool.{Bool, true, false, cond}
use mathlib.Core.Logic.{⊎_elim}
use Prim.Native.Nat.{ℕ, zero, suc, ◌+◌, ◌*◌, ◌-◌, ◌≤◌, ◌<◌}
use native.Mathlib.Nat.{eq-or-lt_of_le}
use native.Mathlib.Numerals.{add-one}
use native.Mathlib.Omega.{arith}
use lib.Dec.{lit<, lit≤}
use lib.IntN.{ℤ, pos, nat_abs, ◌+ℤ◌, ◌-ℤ◌, ◌*ℤ◌, +ℤ_invr}
use lib.Signed.{le_z, lt_z}
use Rattle.exact.specs.Sign.{minus, eq_z, within}
use Rattle.exact.specs.Exact.{half_up, nearest, to_step}
use Rattle.exact.specs.Tables.{steps, among}
use Rattle.exact.proofs.Z.{never, both, eq_z_true, le_trans, lt_le, le_add, mul_add, le_not_lt, lt_le_le, within_is, within_not, between_is}
use Rattle.exact.proofs.Table.{among_rule, step_range}
use Rattle.exact.proofs.Meaning.{step_one}
use Rattle.reading.specs.Reading.{in_display, on_line, displayed}
use Rattle.reading.specs.declared.Reading.{Reading}
use Rattle.reading.specs.declared.Reading.TheVariants.{Under, Number, Over}
use Rattle.reading.proofs.Laws.{segment_is, segment_only, first_segment, later_segment, line_left, line_right, judged_in}
use Rattle.platinum.specs.Table.{resistances}
use Rattle.platinum.specs.Platinum.{entries, entry, degree_at, tenths_at, pair_of, between, sensed}
use Rattle.platinum.specs.Meaning.{not_above, Sensed, WholeDegrees, Paired}
use Rattle.platinum.proofs.Table.{rising, stored}
use Rattle.platinum.proofs.Rises.{step_rises, moved, line_rises}
use Rattle.platinum.proofs.Pairs.{not_below, not_behind}

-- ---- tenths of a degree

tenths_on : (k j : ℕ) → tenths_at (k + j) ≡ tenths_at k +ℤ pos (10 * j)
unfolding tenths_at
tenths_on k j = ap (λ (z : ℤ). pos 10 *ℤ z) (moved (pos k) (pos 200) j) ∙ mul_add 10 (degree_at k) (pos j)

-- each is ten more than the one before
pub tenths_rise : (k : ℕ) → tenths_at (k + 1) -ℤ tenths_at k ≡ pos 10
tenths_rise k =
    ap (λ (z : ℤ). z -ℤ tenths_at k) (tenths_on k 1) ∙ moved (tenths_at k) (tenths_at k) 10 ∙ ap (λ (z : ℤ). z +ℤ pos 10) (+ℤ_invr (tenths_at k))

-- counted from zero degrees
tenths_is : (k : ℕ) → tenths_at k ≡ pos (10 * k) -ℤ pos 2000
unfolding tenths_at
tenths_is k = mul_add 10 (pos k) (minus 200)

-- so the line between neighbours is this fraction
pub fraction_is : (left right x : ℤ) (k : ℕ) → on_line left (tenths_at k) right (tenths_at (k + 1)) x ≡ nearest ((pos (10 * k) -ℤ pos 2000) *ℤ (right -ℤ left) +ℤ (x -ℤ left) *ℤ pos 10) (nat_abs (right -ℤ left))
unfolding on_line
fraction_is left right x k = rw (tenths_rise k, tenths_is k)

tenths_le : (j k : ℕ) → j ≤ k → le_z (tenths_at j) (tenths_at k) ≡ true
tenths_le j k h =
    let e : k ≡ j + (k - j) = omega arith in
    rw e (rw (tenths_on j (k - j)) (le_add (tenths_at j) (10 * (k - j))))

-- ---- the pair

pub paired : (x : ℤ) → Paired x
paired x = record { pair = segment_is resistances entries x (lit≤ tt); only = segment_only resistances entries x }

pair_there : (x : ℤ) → pair_of x + 1 < entries
pair_there x = (paired x).pair.there

-- a larger input is read by no earlier pair
pair_rises : (x z : ℤ) → le_z x z ≡ true → pair_of x ≤ pair_of z
pair_rises x z h = ⊎_elim last inside (eq-or-lt_of_le two_there)
  where
    two_there : pair_of z + 2 ≤ entries
    two_there = omega (arith, pair_there z)

    last : pair_of z + 2 ≡ entries → pair_of x ≤ pair_of z
    last e = omega (arith, pair_there x)

    inside : pair_of z + 2 < entries → pair_of x ≤ pair_of z
    inside l = not_behind resistances rising x (pair_of z) (le_trans x z (entry (pair_of z + 1)) h ((paired z).pair.here l))

-- the left entry of a pair behind the first is below the input
left_of : (x : ℤ) → 0 < pair_of x → le_z (entry (pair_of x)) x ≡ true
left_of x h =
    let e : pair_of x - 1 + 1 ≡ pair_of x = omega arith in
    lt_le (entry (pair_of x)) x (rw e at ((paired x).pair.before (pair_of x - 1) (omega arith)))

-- ---- the line between neighbours

module _ (k : ℕ) (h : k + 1 < entries) where
  at_left : between k (entry k) ≡ tenths_at k
  at_left = line_left (entry k) (tenths_at k) (entry (k + 1)) (tenths_at (k + 1)) (rising.rises k h)

  at_right : between k (entry (k + 1)) ≡ tenths_at (k + 1)
  at_right = line_right (entry k) (tenths_at k) (entry (k + 1)) (tenths_at (k + 1)) (rising.rises k h)

  along : (x z : ℤ) → le_z x z ≡ true → le_z (between k x) (between k z) ≡ true
  along x z l = line_rises (entry k) (tenths_at k) (entry (k + 1)) (tenths_at (k + 1)) 10 (rising.rises k h) (tenths_rise k) x z l

  -- left of the right neighbour it is not above that one's tenths, right of the left one not below that one's
  not_over : (x : ℤ) → le_z x (entry (k + 1)) ≡ true → le_z (between k x) (tenths_at (k + 1)) ≡ true
  not_over x l = subst (λ (z : ℤ). le_z (between k x) z ≡ true) at_right (along x (entry (k + 1)) l)

  not_under : (x : ℤ) → le_z (entry k) x ≡ true → le_z (tenths_at k) (between k x) ≡ true
  not_under x l = subst (λ (z : ℤ). le_z z (between k x) ≡ true) at_left (along (entry k) x l)

-- ---- the number that is read, before the step

abbrev value : ℤ → ℤ
value x = between (pair_of x) x

value_rises : (x z : ℤ) → le_z x z ≡ true → le_z (value x) (value z) ≡ true
value_rises x z h = ⊎_elim same apart (eq-or-lt_of_le (pair_rises x z h))
  where
    same : pair_of x ≡ pair_of z → le_z (value x) (value z) ≡ true
    same e = rw e (along (pair_of z) (pair_there z) x z h)

    apart : pair_of x < pair_of z → le_z (value x) (value z) ≡ true
    apart l =
        let k = pair_of x in
        let m = pair_of z in
        let t = pair_there z in
        let below = not_over k (pair_there x) x ((paired x).pair.here (omega arith)) in
        let above = not_under m t z (left_of z (omega arith)) in
        le_trans (value x) (tenths_at (k + 1)) (value z) below (le_trans (tenths_at (k + 1)) (tenths_at m) (value z) (tenths_le (k + 1) m (omega arith)) above)

whole : (k : ℕ) → k < entries → value (entry k) ≡ tenths_at k
whole zero h = rw ((paired (entry 0)).only 0 (first_segment resistances entries rising.rises (lit≤ tt))) (at_left 0 (lit< tt))
whole (suc j) h = rw (add-one j) at (later j (omega arith))
  where
    later : (j : ℕ) → j + 1 < entries → value (entry (j + 1)) ≡ tenths_at (j + 1)
    later j l = rw ((paired (entry (j + 1))).only j (later_segment resistances entries rising.rises j l)) (at_right j l)

-- ---- the range

-- the first entry and the last
low : value (pos 18520) ≡ minus 2000
unfolding tenths_at
low = ap value (sym stored.ends.0) ∙ whole 0 (lit< tt)

high : value (pos 390481) ≡ pos 8500
unfolding tenths_at
high = ap value (sym stored.ends.1) ∙ whole 1050 (lit< tt)

abbrev inside : ℤ → Bool
inside x = within (pos 18520) (pos 390481) x

-- what is read between them is small
pub value_small : (x : ℤ) → inside x ≡ true → nat_abs (value x) ≤ 8500
value_small x h =
    let b = both (le_z (pos 18520) x) (le_z x (pos 390481)) h in
    let l : le_z (minus 2000) (value x) ≡ true = rw low at (value_rises (pos 18520) x b.0) in
    let u : le_z (value x) (pos 8500) ≡ true = rw high at (value_rises x (pos 390481) b.1) in
    between_is (value x) 8500 1999 (lit< tt) (rw (l, u))

entry_inside : (k : ℕ) → k < entries → inside (entry k) ≡ true
entry_inside k h =
    let a = rw stored.ends.0 at (not_below resistances rising 0 k (omega arith) h) in
    let b = rw stored.ends.1 at (not_below resistances rising k 1050 (omega arith) (lit< tt)) in
    rw (a, b)

-- ---- the three ways in which an input reads, whatever the step

by_tests : (over under : Bool) (x y z : Reading) → (over ≡ true → cond over x (cond under y z) ≡ x) × ((over ≡ false → under ≡ true → cond over x (cond under y z) ≡ y) × (over ≡ false → under ≡ false → cond over x (cond under y z) ≡ z))
by_tests true under x y z = (λ o. refl, (λ o. never (sym o), λ o. never (sym o)))
by_tests false true x y z = (λ o. never o, (λ o u. refl, λ o u. never (sym u)))
by_tests false false x y z = (λ o. never o, (λ o u. never u, λ o u. refl))

module _ (step x : ℤ) where
  ways : (lt_z (pos 390481) x ≡ true → sensed step x ≡ Over) × ((lt_z (pos 390481) x ≡ false → lt_z x (pos 18520) ≡ true → sensed step x ≡ Under) × (lt_z (pos 390481) x ≡ false → lt_z x (pos 18520) ≡ false → sensed step x ≡ displayed (nat_abs step) (value x)))
  unfolding sensed
  ways = by_tests (lt_z (pos 390481) x) (lt_z x (pos 18520)) Over Under (displayed (nat_abs step) (value x))

  pub read_over : lt_z (pos 390481) x ≡ true → sensed step x ≡ Over
  read_over h = ways.0 h

  pub read_under : lt_z x (pos 18520) ≡ true → sensed step x ≡ Under
  read_under h = ways.1.0 (le_not_lt (pos 390481) x (le_trans x (pos 18520) (pos 390481) (lt_le x (pos 18520) h) refl)) h

  pub read_inside : inside x ≡ true → sensed step x ≡ displayed (nat_abs step) (value x)
  read_inside h = let n = within_not (pos 18520) (pos 390481) x h in ways.1.1 n.0 n.1

module _ (step : ℤ) (is_step : among step steps ≡ true) where
  some : 0 < nat_abs step
  some = (step_range step is_step).1.0

  -- the number that is read
  abbrev read : ℤ → ℤ
  read x = to_step (value x) (nat_abs step)

  read_rises : (x z : ℤ) → le_z x z ≡ true → le_z (read x) (read z) ≡ true
  read_rises x z h = step_rises (value x) (value z) (nat_abs step) some (value_rises x z h)

  -- every step leaves the two ends as they are
  abbrev kept : ℤ → ℤ → Bool
  kept v s = eq_z (to_step v (nat_abs s)) v

  low_kept : to_step (minus 2000) (nat_abs step) ≡ minus 2000
  unfolding to_step nearest half_up
  low_kept = eq_z_true (to_step (minus 2000) (nat_abs step)) (minus 2000) (among_rule (kept (minus 2000)) step steps 0 refl is_step)

  high_kept : to_step (pos 8500) (nat_abs step) ≡ pos 8500
  unfolding to_step nearest half_up
  high_kept = eq_z_true (to_step (pos 8500) (nat_abs step)) (pos 8500) (among_rule (kept (pos 8500)) step steps 0 refl is_step)

  read_in : (x : ℤ) → inside x ≡ true → within (minus 2000) (pos 8500) (read x) ≡ true
  read_in x h =
      let b = both (le_z (pos 18520) x) (le_z x (pos 390481)) h in
      let l : le_z (minus 2000) (read x) ≡ true = rw (low, low_kept) at (read_rises (pos 18520) x b.0) in
      let u : le_z (read x) (pos 8500) ≡ true = rw (high, high_kept) at (read_rises x (pos 390481) b.1) in
      rw (l, u)

  -- a number from -2,000 to 8,500 can be displayed
  shown : (v : ℤ) → within (minus 2000) (pos 8500) v ≡ true → in_display v ≡ true
  shown v h =
      let b = both (le_z (minus 2000) v) (le_z v (pos 8500)) h in
      rw (le_trans (minus 19999) (minus 2000) v refl b.0, le_trans v (pos 8500) (pos 99999) b.1 refl)

  read_number : (x : ℤ) → inside x ≡ true → sensed step x ≡ Number (read x)
  unfolding displayed
  read_number x h = read_inside step x h ∙ judged_in (read x) (shown (read x) (read_in x h))

  -- ---- a larger input never reads lower

  -- which of the three it is
  data Way (x : ℤ) : Type 0 where
    over : lt_z (pos 390481) x ≡ true → Way x
    under : lt_z x (pos 18520) ≡ true → Way x
    number : inside x ≡ true → Way x

  way : (x : ℤ) → Way x
  way x = by_tests (lt_z (pos 390481) x) (lt_z x (pos 18520)) refl refl
    where
      by_tests : (o u : Bool) → lt_z (pos 390481) x ≡ o → lt_z x (pos 18520) ≡ u → Way x
      by_tests true u e f = over e
      by_tests false true e f = under f
      by_tests false false e f = number (within_is (pos 18520) (pos 390481) x e f)

  not_above_lem : (x z : ℤ) → le_z x z ≡ true → Way x → Way z → not_above (sensed step x) (sensed step z) ≡ true
  not_above_lem x z h (over a) (over b) = rw (read_over step x a, read_over step z b)
  not_above_lem x z h (over a) (under b) = absurd (lt_le_le (pos 390481) x z a h (le_trans z (pos 18520) (pos 390481) (lt_le z (pos 18520) b) refl))
  not_above_lem x z h (over a) (number b) = absurd (lt_le_le (pos 390481) x z a h (both (le_z (pos 18520) z) (le_z z (pos 390481)) b).1)
  not_above_lem x z h (under a) (over b) = rw (read_under step x a, read_over step z b)
  not_above_lem x z h (under a) (under b) = rw (read_under step x a, read_under step z b)
  not_above_lem x z h (under a) (number b) = rw (read_under step x a, read_number z b)
  not_above_lem x z h (number a) (over b) = rw (read_number x a, read_over step z b)
  not_above_lem x z h (number a) (under b) = absurd (lt_le_le z (pos 18520) x b (both (le_z (pos 18520) x) (le_z x (pos 390481)) a).0 h)
  not_above_lem x z h (number a) (number b) = rw (read_number x a, read_number z b) (read_rises x z h)

  rises : (x z : ℤ) → le_z x z ≡ true → not_above (sensed step x) (sensed step z) ≡ true
  rises x z h = not_above_lem x z h (way x) (way z)

  -- ---- the claim

  pub sensed_so : Sensed step is_step
  sensed_so =
      record {
        over = read_over step;
        under = read_under step;
        number = λ x h. rw (read_number x h) (read_in x h);
        rises = rises;
        between =
            λ k x h w.
            let b = both (le_z (entry k) x) (le_z x (entry (k + 1))) w in
            (rises (entry k) x b.0, rises x (entry (k + 1)) b.1);
      }

pub whole_degrees : WholeDegrees
unfolding among
whole_degrees k h =
    read_number (pos 1) refl (entry k) (entry_inside k h) ∙ ap Number (step_one (value (entry k)) ∙ whole k h)
