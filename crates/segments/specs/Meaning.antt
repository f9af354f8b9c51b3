-- What the segments of an accepted scale are to be, and the claim that joins them to the definition by source and points: every input
-- reads by the one as it does by the other.
use Rattle.std.specs.Prelude.{◌≡◌, true, ℕ, ◌+◌, ◌≤◌, ◌<◌, ℤ, pos, nat_abs, ◌+ℤ◌}
use Rattle.reading.specs.Reading.{point}
use Rattle.config.specs.declared.Scale.{Scale}
use Rattle.config.specs.declared.Source.TheVariants.{Points, Platinum}
use Rattle.source.specs.Source.{reading_by}
use Rattle.segments.specs.Segments.{places, used, segments_of, read, can_scale}
use Rattle.segments.specs.declared.Segments.{Segments}

-- segment k leads from point k to point k + 1: its start is the one, and its start with run and rise the other
pub record Leads (s : Scale) (h : Segments) (k : ℕ) : Type 0 where
  pub from_input : point h.inputs k ≡ point s.inputs k
  pub from_display : point h.displays k ≡ point s.displays k
  pub to_input : point h.inputs k +ℤ point h.runs k ≡ point s.inputs (k + 1)
  pub to_display : point h.displays k +ℤ point h.rises k ≡ point s.displays (k + 1)

-- the one thing that stands at a place which is not in use
pub record Unused (h : Segments) (k : ℕ) : Type 0 where
  pub input : point h.inputs k ≡ pos 0
  pub display : point h.displays k ≡ pos 0
  pub rise : point h.rises k ≡ pos 0
  pub run : point h.runs k ≡ pos 1

-- two scales that are alike but for the points which are not in use
pub record Alike (s t : Scale) : Type 0 where
  pub source : s.source ≡ t.source
  pub step : s.step ≡ t.step
  pub count : s.count ≡ t.count
  pub inputs : (k : ℕ) → k < nat_abs s.count → point s.inputs k ≡ point t.inputs k
  pub displays : (k : ℕ) → k < nat_abs s.count → point s.displays k ≡ point t.displays k

-- the claim, of a scale that is accepted
pub record Segmented (s : Scale) : Type 0 where
  pub reads : (x : ℤ) → read (segments_of s) x ≡ reading_by s x
  pub leads : s.source ≡ Points → (k : ℕ) → k < used s → Leads s (segments_of s) k
  pub unused : s.source ≡ Points → (k : ℕ) → used s ≤ k → k < places → Unused (segments_of s) k
  -- so that a meter tells nothing of points which its configuration does not use
  pub no_trace : (t : Scale) → Alike s t → segments_of s ≡ segments_of t
  -- and with a platinum sensor nothing of the points at all, nor of their number
  pub no_points : (t : Scale) → s.source ≡ Platinum → t.source ≡ Platinum → s.step ≡ t.step → segments_of s ≡ segments_of t
  -- and the test at the door lets it through
  pub passes : can_scale (segments_of s) ≡ true
