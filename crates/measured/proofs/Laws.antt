-- Soundness of what is measured: the test and its parts, and that whatever changes it leaves it sound. Assumes nothing.
use mathlib.Core.Path.{◌≡◌, refl}
use mathlib.Core.Bool.{true, ◌&&◌}
use Rattle.exact.proofs.Z.{both}
use Rattle.reading.specs.Reading.{displayable}
use Rattle.reading.specs.declared.Reading.{Reading}
use Rattle.reading.specs.declared.Reading.TheVariants.{Nothing}
use Rattle.total.specs.Total.{in_range}
use Rattle.total.specs.declared.Total.{Total}
use Rattle.total.proofs.Laws as totals
use Rattle.extremes.specs.Extremes as extreme
use Rattle.extremes.specs.declared.Side.TheVariants.{Max, Min}
use Rattle.extremes.proofs.Laws as extremes
use Rattle.config.specs.declared.Working.{Working}
use Rattle.measured.specs.Measured.{powered_up, sampled, with_total, reset_total, reset_max, reset_min, batched, sound}
use Rattle.measured.specs.Sound.{Sound}
use Rattle.measured.specs.declared.Measured.{Measured}

-- ---- the test and its parts

module _ (w : Working) (m : Measured) where
  -- what passes the test has its parts sound
  pub tested : sound w m ≡ true → Sound w m
  unfolding sound
  tested e =
      let reading = displayable m.reading in
      let max = extreme.sound m.max in
      let min = extreme.sound m.min in
      let d = both (reading && max && min) (in_range w.totalizer m.total) e in
      let c = both (reading && max) min d.0 in
      let b = both reading max c.0 in
      record { reading = b.0; max = b.1; min = c.1; total = d.1 }

  -- and what has sound parts passes it
  pub passes : Sound w m → sound w m ≡ true
  unfolding sound
  passes p = rw (p.reading, p.max, p.min, p.total)

-- ---- what changes it leaves it sound

-- power-up, whatever the settings
pub powered_up_sound : (w : Working) → Sound w powered_up
unfolding displayable
powered_up_sound w =
    record {
      reading = refl;
      max = extremes.reset_sound Nothing refl;
      min = extremes.reset_sound Nothing refl;
      total = totals.reset_kept w.totalizer;
    }

module _ (w : Working) (m : Measured) (p : Sound w m) where
  -- a sample whose reading can be displayed
  pub sampled_sound : (r : Reading) → displayable r ≡ true → Sound w (sampled w m r)
  sampled_sound r e =
      record {
        reading = e;
        max = extremes.sampled_sound Max w.capture m.max r e p.max;
        min = extremes.sampled_sound Min w.capture m.min r e p.min;
        total = totals.sampled_kept w.totalizer m.total r p.total;
      }

  -- another total in its range
  with_total_lem : (t : Total) → in_range w.totalizer t ≡ true → Sound w (with_total m t)
  with_total_lem t e = record { reading = p.reading; max = p.max; min = p.min; total = e }

  pub reset_total_sound : Sound w (reset_total m)
  reset_total_sound = with_total_lem _ (totals.reset_kept w.totalizer)

  -- key 1
  pub batched_sound : Sound w (batched w m)
  batched_sound = with_total_lem _ (totals.batched_kept w.totalizer m.total m.reading p.total)

  pub reset_max_sound : Sound w (reset_max m)
  reset_max_sound = record { reading = p.reading; max = extremes.reset_sound m.reading p.reading; min = p.min; total = p.total }

  pub reset_min_sound : Sound w (reset_min m)
  reset_min_sound = record { reading = p.reading; max = p.max; min = extremes.reset_sound m.reading p.reading; total = p.total }
