-- What makes the definition of max and min believed. Assumes nothing.
use mathlib.Core.Path.{◌≡◌, refl, sym, ap, ◌∙◌}
use mathlib.Core.Bool.{Bool, true, false, cond}
use mathlib.Core.List.{List, [], ◌∷◌}
use Prim.Native.Nat.{◌+◌, ◌≤◌, ◌<◌}
use lib.IntN.{ℤ, neg_ℤ}
use Rattle.std.specs.Prelude.{Option, None, Some}
use Rattle.exact.proofs.Z.{never, both, either, lt_neg}
use Rattle.reading.specs.Reading.{in_display, displayable}
use Rattle.reading.specs.declared.Reading.{Reading}
use Rattle.reading.specs.declared.Reading.TheVariants.{Nothing, Under, Number, Over}
use Rattle.run.specs.Run.{samples, counted}
use Rattle.run.specs.Successive.{left}
use Rattle.run.specs.declared.Run.{Run}
use Rattle.run.specs.declared.Run.TheVariants.{Broken, Going, Complete}
use Rattle.run.proofs.Laws as runs
use Rattle.extremes.specs.Extremes.{extreme, streak, taken, ended, beyond, nearer, so_many, closest, moved, compared, sampled, reset, shown, remembered, sound}
use Rattle.extremes.specs.History.{Event, sample, reset_key, held}
use Rattle.extremes.specs.Mirror.{other_side, negated, negated_kept, negated_run, negated_extreme, negated_event, negated_history}
use Rattle.extremes.specs.declared.Side.{Side}
use Rattle.extremes.specs.declared.Side.TheVariants.{Max, Min}
use Rattle.extremes.specs.declared.Streak.{Streak}
use Rattle.extremes.specs.declared.Extreme.{Extreme}

-- a reading that is a number, neither beyond the display range nor none
abbrev pub is_number : Reading → Bool
is_number Nothing = false
is_number Under = false
is_number (Number v) = true
is_number Over = false

-- ---- one sample

module _ (side : Side) (capture : ℤ) where
  -- the first number is taken at once
  pub first_taken : (run : Option Streak) (v : ℤ) → sampled side capture (extreme None run) (Number v) ≡ taken v
  unfolding sampled compared
  first_taken run v = refl

  -- Over, Under and nothing leave what is kept and end the run
  pub others_end : (e : Extreme) (r : Reading) → is_number r ≡ false → sampled side capture e r ≡ ended e
  unfolding sampled
  others_end e Nothing h = refl
  others_end e Under h = refl
  others_end e (Number v) h = never (sym h)
  others_end e Over h = refl

  module _ (k v : ℤ) (run : Option Streak) where
    -- before the count a number beyond the kept one makes the run one longer, the run remembers the closest, and what is kept stays
    pub grows : beyond side v k ≡ true → so_many run + 1 < samples capture → sampled side capture (extreme (Some k) run) (Number v) ≡ extreme (Some k) (Some (streak (so_many run + 1) (closest side run v)))
    unfolding sampled compared moved
    grows b h = rw (b, runs.grows (so_many run) (samples capture) h)

    -- at the count the closest is taken, and no run goes on
    pub completes : beyond side v k ≡ true → samples capture ≤ so_many run + 1 → sampled side capture (extreme (Some k) run) (Number v) ≡ taken (closest side run v)
    unfolding sampled compared moved
    completes b h = rw (b, runs.completes (so_many run) (samples capture) h)

    -- a number that is not beyond the kept one ends the run
    pub breaks : beyond side v k ≡ false → sampled side capture (extreme (Some k) run) (Number v) ≡ ended (extreme (Some k) run)
    unfolding sampled compared moved
    breaks b = rw (b, runs.breaks (so_many run) (samples capture))

-- what is left of the run is what `run` says
pub run_left : (e : Extreme) (v : ℤ) (r : Run) → so_many (moved e v r).run ≡ left r
unfolding moved left
run_left e v Broken = refl
run_left e v (Going n) = refl
run_left e v Complete = refl

below_by : (side : Side) (capture v : ℤ) (k : Option ℤ) (run : Option Streak) → so_many (compared side capture (extreme k run) v).run < samples capture
unfolding compared
below_by side capture v None run = runs.samples_some capture
below_by side capture v (Some z) run =
    let r = counted (so_many run) (beyond side v z) (samples capture) in
    rw (run_left (extreme (Some z) run) (closest side run v) r) (runs.left_below (so_many run) (beyond side v z) (samples capture) (runs.samples_some capture))

-- the run always stays below the capture count
pub stays_below : (side : Side) (capture : ℤ) (e : Extreme) (r : Reading) → so_many (sampled side capture e r).run < samples capture
unfolding sampled
stays_below side capture e Nothing = runs.samples_some capture
stays_below side capture e Under = runs.samples_some capture
stays_below side capture e (Number v) = below_by side capture v e.kept e.run
stays_below side capture e Over = runs.samples_some capture

-- ---- a reset

-- it takes a number, and no run goes on
pub reset_number : (v : ℤ) → reset (Number v) ≡ taken v
unfolding reset
reset_number v = refl

-- it leaves none where the reading is no number, and no run goes on
pub reset_others : (r : Reading) → is_number r ≡ false → reset r ≡ extreme None None
unfolding reset
reset_others Nothing h = refl
reset_others Under h = refl
reset_others (Number v) h = never (sym h)
reset_others Over h = refl

-- ---- what is kept and remembered can be displayed, where the readings can

module _ (e : Extreme) where
  -- the test and its parts
  pub sound_parts : sound e ≡ true → (displayable (shown e) ≡ true) × (displayable (remembered e.run) ≡ true)
  sound_parts s = both (displayable (shown e)) (displayable (remembered e.run)) s

  pub sound_both : displayable (shown e) ≡ true → displayable (remembered e.run) ≡ true → sound e ≡ true
  sound_both s m = rw (s, m)

-- where no run goes on, nothing is remembered
pub idle_sound : (k : Option ℤ) → displayable (shown (extreme k None)) ≡ true → sound (extreme k None) ≡ true
unfolding displayable
idle_sound k s = sound_both (extreme k None) s refl

-- what a reset takes
pub reset_sound : (r : Reading) → displayable r ≡ true → sound (reset r) ≡ true
unfolding displayable shown reset
reset_sound Nothing e = idle_sound None refl
reset_sound Under e = idle_sound None refl
reset_sound (Number v) e = idle_sound (Some v) e
reset_sound Over e = idle_sound None refl

shown_any : (k : Option ℤ) (run other : Option Streak) → displayable (shown (extreme k run)) ≡ true → displayable (shown (extreme k other)) ≡ true
unfolding shown
shown_any k run other s = s

-- the closest of readings that can be displayed can be displayed
closest_displayed : (side : Side) (run : Option Streak) (v : ℤ) → in_display v ≡ true → displayable (remembered run) ≡ true → in_display (closest side run v) ≡ true
unfolding displayable
closest_displayed side None v e m = e
closest_displayed side (Some s) v e m = either (λ z. in_display z ≡ true) (beyond side s.nearest v) e m

moved_sound : (k : Option ℤ) (run : Option Streak) (v : ℤ) (u : Run) → in_display v ≡ true → displayable (shown (extreme k run)) ≡ true → sound (moved (extreme k run) v u) ≡ true
unfolding displayable shown moved
moved_sound k run v Broken e s = idle_sound k (shown_any k run None s)
moved_sound k run v (Going n) e s = sound_both (extreme k (Some (streak n v))) (shown_any k run (Some (streak n v)) s) e
moved_sound k run v Complete e s = idle_sound (Some v) e

module _ (side : Side) (capture : ℤ) where
  compared_sound : (k : Option ℤ) (run : Option Streak) (v : ℤ) → in_display v ≡ true → sound (extreme k run) ≡ true → sound (compared side capture (extreme k run) v) ≡ true
  unfolding displayable shown compared
  compared_sound None run v e s = idle_sound (Some v) e
  compared_sound (Some z) run v e s =
      let p = sound_parts (extreme (Some z) run) s in
      moved_sound (Some z) run (closest side run v) (counted (so_many run) (beyond side v z) (samples capture)) (closest_displayed side run v e p.1) p.0

  -- what a sample leaves
  pub sampled_sound : (x : Extreme) (r : Reading) → displayable r ≡ true → sound x ≡ true → sound (sampled side capture x r) ≡ true
  unfolding displayable sampled
  sampled_sound x Nothing e s = idle_sound x.kept (shown_any x.kept x.run None (sound_parts x s).0)
  sampled_sound x Under e s = idle_sound x.kept (shown_any x.kept x.run None (sound_parts x s).0)
  sampled_sound x (Number v) e s = compared_sound x.kept x.run v e s
  sampled_sound x Over e s = idle_sound x.kept (shown_any x.kept x.run None (sound_parts x s).0)

-- ---- max and min are one thing seen from two sides

beyond_mirror : (side : Side) (v k : ℤ) → beyond (other_side side) (neg_ℤ v) (neg_ℤ k) ≡ beyond side v k
unfolding beyond other_side
beyond_mirror Max v k = lt_neg v k
beyond_mirror Min v k = lt_neg k v

negated_choice : (t : Bool) (v w : ℤ) → cond t (neg_ℤ v) (neg_ℤ w) ≡ neg_ℤ (cond t v w)
negated_choice true v w = refl
negated_choice false v w = refl

nearer_mirror : (side : Side) (v w : ℤ) → nearer (other_side side) (neg_ℤ v) (neg_ℤ w) ≡ neg_ℤ (nearer side v w)
nearer_mirror side v w = rw (beyond_mirror side v w) (negated_choice (beyond side v w) w v)

closest_mirror : (side : Side) (run : Option Streak) (v : ℤ) → closest (other_side side) (negated_run run) (neg_ℤ v) ≡ neg_ℤ (closest side run v)
unfolding negated_run
closest_mirror side None v = refl
closest_mirror side (Some s) v = nearer_mirror side s.nearest v

many_mirror : (run : Option Streak) → so_many (negated_run run) ≡ so_many run
unfolding negated_run
many_mirror None = refl
many_mirror (Some s) = refl

moved_mirror : (e : Extreme) (v : ℤ) (r : Run) → moved (negated_extreme e) (neg_ℤ v) r ≡ negated_extreme (moved e v r)
unfolding moved negated_kept negated_run
moved_mirror e v Broken = refl
moved_mirror e v (Going n) = refl
moved_mirror e v Complete = refl

compared_mirror : (side : Side) (capture v : ℤ) (k : Option ℤ) (run : Option Streak) → compared (other_side side) capture (extreme (negated_kept k) (negated_run run)) (neg_ℤ v) ≡ negated_extreme (compared side capture (extreme k run) v)
unfolding compared negated_kept negated_run
compared_mirror side capture v None run = refl
compared_mirror side capture v (Some z) run =
    let e = extreme (Some z) run in
    rw (closest_mirror side run v, many_mirror run, beyond_mirror side v z)
    (moved_mirror e (closest side run v) (counted (so_many run) (beyond side v z) (samples capture)))

-- the min of negated readings is the negation of the max of the readings, and the max of them that of the min
pub mirror : (side : Side) (capture : ℤ) (e : Extreme) (r : Reading) → sampled (other_side side) capture (negated_extreme e) (negated r) ≡ negated_extreme (sampled side capture e r)
unfolding sampled negated negated_run
mirror side capture e Nothing = refl
mirror side capture e Under = refl
mirror side capture e (Number v) = compared_mirror side capture v e.kept e.run
mirror side capture e Over = refl

-- resets and what is shown are the same from both sides
pub reset_mirror : (r : Reading) → reset (negated r) ≡ negated_extreme (reset r)
unfolding reset negated negated_kept negated_run
reset_mirror Nothing = refl
reset_mirror Under = refl
reset_mirror (Number v) = refl
reset_mirror Over = refl

shown_by : (k : Option ℤ) (run : Option Streak) → shown (negated_extreme (extreme k run)) ≡ negated (shown (extreme k run))
unfolding shown negated negated_kept
shown_by None run = refl
shown_by (Some v) run = refl

pub shown_mirror : (e : Extreme) → shown (negated_extreme e) ≡ negated (shown e)
shown_mirror e = shown_by e.kept e.run

-- and so is what is held after any history
pub held_mirror : (side : Side) (capture : ℤ) (h : List Event) → held (other_side side) capture (negated_history h) ≡ negated_extreme (held side capture h)
unfolding held negated negated_event
held_mirror side capture [] = reset_mirror Nothing
held_mirror side capture (sample r ∷ h) =
    ap (λ (e : Extreme). sampled (other_side side) capture e (negated r)) (held_mirror side capture h)
    ∙ mirror side capture (held side capture h) r
held_mirror side capture (reset_key r ∷ h) = reset_mirror r
