-- What makes the definition of a reading believed: which segment it is taken from, what it is at a point of the scale, and that a
-- number it gives can be displayed. Assumes nothing.
use mathlib.Core.Path.{◌≡◌, refl, sym, ap, ◌∙◌}
use mathlib.Core.Bool.{Bool, true, false, cond}
use mathlib.Core.List.{List}
use Prim.Native.Nat.{ℕ, zero, suc, ◌+◌, ◌-◌, ◌≤◌, ◌<◌}
use native.Mathlib.Omega.{arith}
use native.Mathlib.Numerals.{add-one}
use lib.IntN.{ℤ, pos, nat_abs, ◌-ℤ◌, ◌*ℤ◌, +ℤ_invr, +ℤ_idr, +ℤ_comm, -ℤ-+ℤ_cancel, zero-*ℤ, *ℤ_comm}
use lib.Signed.{lt_z}
use Rattle.exact.specs.Sign.{minus}
use Rattle.exact.specs.Exact.{nearest, to_step}
use Rattle.exact.proofs.Z.{never, either, within_is, within_not, le_not_lt, not_le, le_refl, lt_le, lt_trans, lt_diff, is_pos, mul_add}
use Rattle.exact.proofs.Meaning.{nearest_whole, step_one}
use Rattle.reading.specs.Reading.{in_display, point, segment, on_line, on_segment, judged, displayed, reading_of, displayable, Scalable}
use Rattle.reading.specs.Meaning.{IsSegment}
use Rattle.reading.proofs.Search.{segment_le, segment_before, segment_at}
use Rattle.reading.specs.declared.Reading.{Reading}
use Rattle.reading.specs.declared.Reading.TheVariants.{Under, Number, Over}

-- ---- a number that is read can be displayed

by_tests : (v : ℤ) (over under : Bool) → lt_z (pos 99999) v ≡ over → lt_z v (minus 19999) ≡ under → displayable (cond over Over (cond under Under (Number v))) ≡ true
unfolding displayable
by_tests v true under o u = refl
by_tests v false true o u = refl
by_tests v false false o u = within_is (minus 19999) (pos 99999) v o u

pub judged_displayable : (v : ℤ) → displayable (judged v) ≡ true
unfolding judged
judged_displayable v = by_tests v (lt_z (pos 99999) v) (lt_z v (minus 19999)) refl refl

-- every number that a sample can give lies in -19,999 to 99,999
pub reading_displayable : (inputs displays : List ℤ) (count : ℕ) (step x : ℤ) → displayable (reading_of inputs displays count step x) ≡ true
unfolding reading_of displayed displayable
reading_displayable inputs displays count step x =
    either (λ (r : Reading). displayable r ≡ true) (lt_z (pos 99999) x) refl
    (either (λ (r : Reading). displayable r ≡ true) (lt_z x (minus 99999)) refl
    (judged_displayable (to_step (on_segment inputs displays (segment inputs count x) x) (nat_abs step))))

-- ---- which segment it is, and that no other is

pub segment_is : (inputs : List ℤ) (count : ℕ) (x : ℤ) → 2 ≤ count → IsSegment inputs count x (segment inputs count x)
segment_is inputs count x h =
    record {
      there = omega (arith, segment_le inputs x count);
      before = λ j l. not_le x (point inputs (j + 1)) (rw (add-one j) (segment_before inputs x count j l));
      here = λ l. rw (add-one (segment inputs count x)) (segment_at inputs x count (omega arith));
    }

-- the first of two such segments is not before the second
not_before : (inputs : List ℤ) (count : ℕ) (x : ℤ) (j k : ℕ) → IsSegment inputs count x j → IsSegment inputs count x k → j < k → ⊥
not_before inputs count x j k a b l =
    let t = b.there in
    let e = le_not_lt (point inputs (j + 1)) x (a.here (omega arith)) in
    never (sym e ∙ b.before j l)

pub segment_only : (inputs : List ℤ) (count : ℕ) (x : ℤ) (k : ℕ) → IsSegment inputs count x k → segment inputs count x ≡ k
segment_only inputs count x k a =
    let t = a.there in
    let s = segment_is inputs count x (omega arith) in
    both_ways (not_before inputs count x (segment inputs count x) k s a) (not_before inputs count x k (segment inputs count x) a s)
  where
    both_ways : {m n : ℕ} → (m < n → ⊥) → (n < m → ⊥) → m ≡ n
    both_ways p q = omega (arith, p, q)

-- ---- the line at its two points

module _ (x0 y0 x1 y1 : ℤ) (up : lt_z x0 x1 ≡ true) where
  run_is : x1 -ℤ x0 ≡ pos (nat_abs (x1 -ℤ x0))
  run_is = is_pos (x1 -ℤ x0) (lt_diff x0 x1 up).0

  pub line_left : on_line x0 y0 x1 y1 x0 ≡ y0
  unfolding on_line
  line_left =
      rw (+ℤ_invr x0, zero-*ℤ (y1 -ℤ y0), +ℤ_idr (y0 *ℤ (x1 -ℤ x0)), *ℤ_comm y0 (x1 -ℤ x0), run_is)
      (nearest_whole y0 (nat_abs (x1 -ℤ x0)) (lt_diff x0 x1 up).1)

  pub line_right : on_line x0 y0 x1 y1 x1 ≡ y1
  unfolding on_line
  line_right =
      let d = nat_abs (x1 -ℤ x0) in
      rw (*ℤ_comm y0 (x1 -ℤ x0), run_is)
      (ap (λ (z : ℤ). nearest z d)
      (sym (mul_add d y0 (y1 -ℤ y0)) ∙ ap (λ (z : ℤ). pos d *ℤ z) (+ℤ_comm y0 (y1 -ℤ y0) ∙ -ℤ-+ℤ_cancel y1 y0))
      ∙ nearest_whole y1 d (lt_diff x0 x1 up).1)

-- ---- the reading at a point of the scale

-- a number of the display range is read as it is
pub judged_in : (v : ℤ) → in_display v ≡ true → judged v ≡ Number v
unfolding judged
judged_in v i = let n = within_not (minus 19999) (pos 99999) v i in rw (n.0, n.1)

-- in any list of inputs of which each is below the next
module _ (inputs : List ℤ) (count : ℕ) (rising : (k : ℕ) → k + 1 < count → lt_z (point inputs k) (point inputs (k + 1)) ≡ true) where
  -- the inputs of any two points rise
  rising_by : (j m k : ℕ) → k ≡ j + m + 1 → k < count → lt_z (point inputs j) (point inputs k) ≡ true
  rising_by j zero k e h =
      let e' : k ≡ j + 1 = omega arith in
      rw e' (rising j (omega arith))
  rising_by j (suc m) k e h =
      let e' : k ≡ (j + m + 1) + 1 = omega arith in
      rw e'
      (lt_trans (point inputs j) (point inputs (j + m + 1)) (point inputs ((j + m + 1) + 1))
      (rising_by j m (j + m + 1) refl (omega arith)) (rising (j + m + 1) (omega arith)))

  pub rising_between : (j k : ℕ) → j < k → k < count → lt_z (point inputs j) (point inputs k) ≡ true
  rising_between j k l h = rising_by j (k - (j + 1)) k (omega arith) h

  -- the first point lies on the first segment, every other at the right end of the one before it
  pub first_segment : 2 ≤ count → IsSegment inputs count (point inputs 0) 0
  first_segment h =
      record {
        there = omega arith;
        before = λ j l. absurd (omega arith);
        here = λ l. lt_le (point inputs 0) (point inputs 1) (rising 0 (omega arith));
      }

  pub later_segment : (j : ℕ) → j + 1 < count → IsSegment inputs count (point inputs (j + 1)) j
  later_segment j h =
      record {
        there = h;
        before = λ i l. rising_between (i + 1) (j + 1) (omega arith) h;
        here = λ l. le_refl (point inputs (j + 1));
      }

module _ (inputs displays : List ℤ) (count : ℕ) (step : ℤ) (a : Scalable inputs displays count step) where
  line_first : on_segment inputs displays (segment inputs count (point inputs 0)) (point inputs 0) ≡ point displays 0
  line_first =
      rw (segment_only inputs count (point inputs 0) 0 (first_segment inputs count a.rising a.two))
      (line_left (point inputs 0) (point displays 0) (point inputs 1) (point displays 1) (a.rising 0 (omega (arith, a.two))))

  line_later : (j : ℕ) → j + 1 < count → on_segment inputs displays (segment inputs count (point inputs (j + 1))) (point inputs (j + 1)) ≡ point displays (j + 1)
  line_later j h =
      rw (segment_only inputs count (point inputs (j + 1)) j (later_segment inputs count a.rising j h))
      (line_right (point inputs j) (point displays j) (point inputs (j + 1)) (point displays (j + 1)) (a.rising j h))

  line_at : (k : ℕ) → k < count → on_segment inputs displays (segment inputs count (point inputs k)) (point inputs k) ≡ point displays k
  line_at zero h = line_first
  line_at (suc j) h = rw (add-one j) at (line_later j (rw (← add-one j) at h))

-- with step 1 the reading at a point of the scale is the point's display
pub at_point : (inputs displays : List ℤ) (count : ℕ) → Scalable inputs displays count (pos 1) → (k : ℕ) → k < count → reading_of inputs displays count (pos 1) (point inputs k) ≡ Number (point displays k)
unfolding reading_of displayed
at_point inputs displays count a k h =
    let n = within_not (minus 99999) (pos 99999) (point inputs k) (a.inputs_in k h) in
    rw (n.0, n.1, line_at inputs displays count (pos 1) a k h, step_one (point displays k))
    (judged_in (point displays k) (a.displays_in k h))
