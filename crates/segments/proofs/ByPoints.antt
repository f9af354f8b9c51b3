-- As a meter holds it an accepted scale reads as it does by its points, or by the sensor's table where that is its source. Assumes nothing.
use mathlib.Core.Path.{◌≡◌, refl, sym, ap, ap₂, subst, ◌∙◌}
use mathlib.Core.Bool.{Bool, true, false, cond, ◌&&◌}
use mathlib.Core.List.{List}
use Prim.Native.Nat.{ℕ, zero, suc, ◌+◌, ◌-◌, ◌≤◌, ◌<◌}
use native.Mathlib.Omega.{arith}
use borrow.Author.Tests.{ltb-true, ltb-false, lt-ltb, le-ltb, le-leb}
use lib.Dec.{ltb}
use lib.IntN.{ℤ, pos, negsuc, nat_abs, ◌+ℤ◌, ◌-ℤ◌, +ℤ_comm, -ℤ-+ℤ_cancel}
use lib.Signed.{le_z, lt_z}
use Rattle.exact.specs.Sign.{minus, is_neg, within}
use Rattle.exact.proofs.Z.{never, either, abs_sub_le, lt_diff}
use Rattle.reading.specs.Reading.{point, first_from, segment, on_line, on_segment, displayed, reading_of, displayable, up_to, Scalable}
use Rattle.reading.specs.declared.Reading.{Reading}
use Rattle.reading.proofs.Laws.{judged_displayable}
use Rattle.reading.proofs.Search.{segment_le}
use Rattle.reading.proofs.Scale.{input_small, display_small}
use Rattle.reading.proofs.Walk.{walk_all}
use Rattle.config.specs.Bench.{nothing}
use Rattle.config.specs.Accepted.{Measurable}
use Rattle.config.specs.declared.Scale.{Scale}
use Rattle.config.specs.declared.Source.{Source}
use Rattle.config.specs.declared.Source.TheVariants.{Points, Platinum}
use Rattle.source.specs.Source.{reading_by}
use Rattle.source.proofs.Laws.{source_displayable}
use Rattle.segments.specs.Segments.{places, used, start_of, difference_of, listed, or_fixed, held, of_points, no_segments, held_by, segments_of, along, along_at, read_on, read, segment_in, segment_at, tested, can_scale}
use Rattle.segments.specs.Meaning.{Leads, Unused, Alike, Segmented}
use Rattle.segments.specs.declared.Segments.{Segments}
use Rattle.segments.proofs.Listed.{held_at, held_unused, listed_alike}

-- ---- a reading by segments can be displayed

on_displayable : (inputs displays rises runs : List ℤ) (last : ℕ) (step x : ℤ) → displayable (read_on inputs displays rises runs last step x) ≡ true
unfolding read_on displayed displayable
on_displayable inputs displays rises runs last step x =
    either (λ (r : Reading). displayable r ≡ true) (lt_z (pos 99999) x) refl
    (either (λ (r : Reading). displayable r ≡ true) (lt_z x (minus 99999)) refl (judged_displayable _))

pub read_displayable : (s : Segments) (x : ℤ) → displayable (read s x) ≡ true
read_displayable s x =
    source_displayable s.source (read_on s.inputs s.displays s.rises s.runs s.last s.step) s.step x
    (on_displayable s.inputs s.displays s.rises s.runs s.last s.step x)

-- ---- the search finds the same segment

-- in two lists that agree at every right end that it looks at
first_alike : (l m : List ℤ) (x : ℤ) (i left : ℕ) → ((j : ℕ) → i < j → j ≤ i + left → point l j ≡ point m j) → first_from l x i left ≡ first_from m x i left
unfolding first_from
first_alike l m x i zero e = refl
first_alike l m x i (suc left) e =
    ap₂ (λ (z : ℤ) (k : ℕ). cond (le_z x z) i k) (e (suc i) (omega arith) (omega arith))
    (first_alike l m x (suc i) left (λ j h g. e j (omega arith) (omega arith)))

-- ---- the line of a segment is the line through its two points

line_is : (xs ys : List ℤ) (k : ℕ) (x : ℤ) → along (start_of xs k) (start_of ys k) (difference_of ys k) (difference_of xs k) x ≡ on_segment xs ys k x
unfolding along on_line
line_is xs ys k x = refl

-- ---- a place is in use or not

by_use : {P : Type 0} (k n : ℕ) → (k < n → P) → (n ≤ k → P) → P
by_use {P} k n f g = by_test (ltb k n) refl
  where
    by_test : (t : Bool) → ltb k n ≡ t → P
    by_test true e = f (ltb-true k n e)
    by_test false e = g (ltb-false k n e)

-- ---- a difference of two small numbers is small

small_difference : (a b : ℤ) → nat_abs a ≤ 99999 → nat_abs b ≤ 99999 → nat_abs (a -ℤ b) ≤ 199998
small_difference a b ha hb = omega (arith, abs_sub_le a b)

-- a number is within limits on one side of zero, and on both
above_within : (z : ℤ) (lo hi : ℕ) → is_neg z ≡ false → lo ≤ nat_abs z → nat_abs z ≤ hi → within (pos lo) (pos hi) z ≡ true
above_within (pos n) lo hi e l h = rw (le-leb lo n l, le-leb n hi h)
above_within (negsuc n) lo hi e l h = never (sym e)

around_within : (z : ℤ) (lo hi : ℕ) → nat_abs z ≤ suc lo → nat_abs z ≤ hi → within (negsuc lo) (pos hi) z ≡ true
around_within (pos n) lo hi l h = rw (le-leb n hi h)
around_within (negsuc n) lo hi l h = rw (le-leb n lo (omega arith))

and_true : {t u : Bool} → t ≡ true → u ≡ true → (t && u) ≡ true
and_true a b = rw (a, b)

module _ (s : Scale) (a : Scalable s.inputs s.displays (nat_abs s.count) s.step) where
  -- a segment in use has a place, and a point to lead to
  there : (k : ℕ) → k < used s → k < places
  there k h = omega (arith, a.sixteen)

  next : (k : ℕ) → k < used s → k + 1 < nat_abs s.count
  next k h = omega (arith, a.two)

  start_input : (k : ℕ) → k < used s → point (of_points s).inputs k ≡ point s.inputs k
  start_input k h = held_at (used s) (pos 0) (start_of s.inputs) k h (there k h)

  start_display : (k : ℕ) → k < used s → point (of_points s).displays k ≡ point s.displays k
  start_display k h = held_at (used s) (pos 0) (start_of s.displays) k h (there k h)

  rise_is : (k : ℕ) → k < used s → point (of_points s).rises k ≡ difference_of s.displays k
  rise_is k h = held_at (used s) (pos 0) (difference_of s.displays) k h (there k h)

  run_is : (k : ℕ) → k < used s → point (of_points s).runs k ≡ difference_of s.inputs k
  run_is k h = held_at (used s) (pos 1) (difference_of s.inputs) k h (there k h)

  -- the segment that is found, and that it is in use
  found : (x : ℤ) → first_from (of_points s).inputs x 0 (of_points s).last ≡ segment s.inputs (nat_abs s.count) x
  unfolding segment
  found x = first_alike (of_points s).inputs s.inputs x 0 (nat_abs s.count - 2) (λ j h g. start_input j (omega (arith, a.two)))

  in_use : (x : ℤ) → segment s.inputs (nat_abs s.count) x < used s
  in_use x = omega (arith, segment_le s.inputs x (nat_abs s.count), a.two)

  line_at : (k : ℕ) (x : ℤ) → k < used s → along_at (of_points s).inputs (of_points s).displays (of_points s).rises (of_points s).runs k x ≡ on_segment s.inputs s.displays k x
  line_at k x h = rw (start_input k h, start_display k h, rise_is k h, run_is k h) (line_is s.inputs s.displays k x)

  last_passes : ltb (of_points s).last places ≡ true
  last_passes = lt-ltb (nat_abs s.count - 2) places (omega (arith, a.sixteen))

  -- by segments as by points
  points_read : (x : ℤ) → read (of_points s) x ≡ reading_of s.inputs s.displays (nat_abs s.count) s.step x
  unfolding read_on reading_of
  points_read x = rw (found x, line_at (segment s.inputs (nat_abs s.count) x) x (in_use x))

  -- ---- what stands at each place

  -- from a start by a difference to the next point
  on : (l : List ℤ) (k : ℕ) → point l k +ℤ difference_of l k ≡ point l (k + 1)
  on l k = +ℤ_comm (point l k) (difference_of l k) ∙ -ℤ-+ℤ_cancel (point l (k + 1)) (point l k)

  points_lead : (k : ℕ) → k < used s → Leads s (of_points s) k
  points_lead k h =
      record {
        from_input = start_input k h;
        from_display = start_display k h;
        to_input = rw (start_input k h, run_is k h) (on s.inputs k);
        to_display = rw (start_display k h, rise_is k h) (on s.displays k);
      }

  points_unused : (k : ℕ) → used s ≤ k → k < places → Unused (of_points s) k
  points_unused k u h =
      record {
        input = held_unused (used s) (pos 0) (start_of s.inputs) k u h;
        display = held_unused (used s) (pos 0) (start_of s.displays) k u h;
        rise = held_unused (used s) (pos 0) (difference_of s.displays) k u h;
        run = held_unused (used s) (pos 1) (difference_of s.inputs) k u h;
      }

  -- ---- the test at the door

  run_small : (k : ℕ) → k < used s → nat_abs (difference_of s.inputs k) ≤ 199998
  run_small k h =
      let x0 = point s.inputs k in
      let x1 = point s.inputs (k + 1) in
      small_difference x1 x0 (input_small x1 (a.inputs_in (k + 1) (next k h))) (input_small x0 (a.inputs_in k (omega arith)))

  rise_small : (k : ℕ) → k < used s → nat_abs (difference_of s.displays k) ≤ 199998
  rise_small k h =
      let y0 = point s.displays k in
      let y1 = point s.displays (k + 1) in
      small_difference y1 y0 (display_small y1 (a.displays_in (k + 1) (next k h))) (display_small y0 (a.displays_in k (omega arith)))

  segment_passes : (k : ℕ) → k < used s → segment_in (difference_of s.displays k) (difference_of s.inputs k) ≡ true
  segment_passes k h =
      let up = lt_diff (point s.inputs k) (point s.inputs (k + 1)) (a.rising k (next k h)) in
      and_true (above_within (difference_of s.inputs k) _ _ up.0 (omega (arith, up.1)) (omega (arith, run_small k h)))
      (around_within (difference_of s.displays k) _ _ (omega (arith, rise_small k h)) (omega (arith, rise_small k h)))

  place_passes : (k : ℕ) → k < places → segment_at (of_points s).rises (of_points s).runs k ≡ true
  place_passes k h =
      by_use k (used s) (λ u. rw (rise_is k u, run_is k u) (segment_passes k u)) (λ u. let n = points_unused k u h in rw (n.rise, n.run) refl)

  points_pass : can_scale (of_points s) ≡ true
  unfolding tested
  points_pass = rw (a.step_in, last_passes, walk_all (segment_at (of_points s).rises (of_points s).runs) places place_passes)

-- ---- points that are not in use leave no trace

held_alike : (n : ℕ) (fixed : ℤ) (f g : ℕ → ℤ) → ((k : ℕ) → k < n → f k ≡ g k) → held n fixed f ≡ held n fixed g
held_alike n fixed f g e =
    listed_alike (or_fixed n fixed f) (or_fixed n fixed g) places 0
    (λ k h l. by_use k n (λ u. rw (lt-ltb k n u) (e k u)) (λ u. rw (le-ltb k n u)))

module _ (s t : Scale) (a : Scalable s.inputs s.displays (nat_abs s.count) s.step) (e : Alike s t) where
  -- where a segment starts, and where it leads
  alike_at : (l m : List ℤ) → ((k : ℕ) → k < nat_abs s.count → point l k ≡ point m k) → (k : ℕ) → k < used s → point l k ≡ point m k
  alike_at l m q k h = q k (omega arith)

  alike_difference : (l m : List ℤ) → ((k : ℕ) → k < nat_abs s.count → point l k ≡ point m k) → (k : ℕ) → k < used s → difference_of l k ≡ difference_of m k
  alike_difference l m q k h = ap₂ ◌-ℤ◌ (q (k + 1) (next s a k h)) (q k (omega arith))

  no_points_trace : of_points s ≡ of_points t
  no_points_trace =
      rw (
        ← e.step,
        ← e.count,
        held_alike (used s) (pos 0) (start_of s.inputs) (start_of t.inputs) (alike_at s.inputs t.inputs e.inputs),
        held_alike (used s) (pos 0) (start_of s.displays) (start_of t.displays) (alike_at s.displays t.displays e.displays),
        held_alike (used s) (pos 0) (difference_of s.displays) (difference_of t.displays) (alike_difference s.displays t.displays e.displays),
        held_alike (used s) (pos 1) (difference_of s.inputs) (difference_of t.inputs) (alike_difference s.inputs t.inputs e.inputs),
      )

-- ---- the configuration with nothing in it has no segment

pub none_is : no_segments ≡ segments_of nothing.scale
unfolding listed
none_is = refl

-- ---- by either source

-- a sensor's scale passes whatever its points, since its step does
sensor_passes : (s : Scale) → Measurable s → can_scale (held_by Platinum s) ≡ true
unfolding tested up_to
sensor_passes s m = and_true (and_true m.step_in refl) refl

module _ (s : Scale) (m : Measurable s) where
  by_each : (P : Type 0) → (s.source ≡ Points → P) → (s.source ≡ Platinum → P) → P
  by_each P f g = go s.source refl
    where
      go : (q : Source) → s.source ≡ q → P
      go Points e = f e
      go Platinum e = g e

  -- what is held, where the source is known
  held_as : (q : Source) → s.source ≡ q → segments_of s ≡ held_by q s
  held_as q e = ap (λ (r : Source). held_by r s) e

  -- the theorem: what is held reads as the configuration does
  pub reads : (x : ℤ) → read (segments_of s) x ≡ reading_by s x
  reads x = by_each (read (segments_of s) x ≡ reading_by s x) (λ e. rw e (points_read s (m.scalable e) x)) (λ e. rw e)

  abbrev passing : Segments → Type 0
  passing h = can_scale h ≡ true

  pub passes : can_scale (segments_of s) ≡ true
  passes = by_each (can_scale (segments_of s) ≡ true) (λ e. subst passing (sym (held_as Points e)) (points_pass s (m.scalable e))) (λ e. subst passing (sym (held_as Platinum e)) (sensor_passes s m))

  leads : s.source ≡ Points → (k : ℕ) → k < used s → Leads s (segments_of s) k
  leads e k h = subst (λ (x : Segments). Leads s x k) (sym (held_as Points e)) (points_lead s (m.scalable e) k h)

  unused : s.source ≡ Points → (k : ℕ) → used s ≤ k → k < places → Unused (segments_of s) k
  unused e k u h = subst (λ (x : Segments). Unused x k) (sym (held_as Points e)) (points_unused s (m.scalable e) k u h)

  no_trace : (t : Scale) → Alike s t → segments_of s ≡ segments_of t
  no_trace t a =
      by_each (segments_of s ≡ segments_of t) (λ e. rw (← a.source, e) (no_points_trace s t (m.scalable e) a)) (λ e. rw (← a.source, e, ← a.step))

-- ---- the claim

pub segmented : (s : Scale) → Measurable s → Segmented s
segmented s m =
    record {
      reads = reads s m;
      leads = leads s m;
      unused = unused s m;
      no_trace = no_trace s m;
      no_points = λ t a b e. rw (a, b, e);
      passes = passes s m;
    }
