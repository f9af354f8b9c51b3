-- The total said from its history alone: what contributed to it since its last reset, and whether it has gone Over or Under since. No sum
-- that a meter keeps occurs here.
use Rattle.std.specs.Prelude.{◌≡◌, Bool, true, false, ◌&&◌, List, [], ◌∷◌, ◌≢◌, ◌*◌, ℤ, pos, nat_abs, ◌*ℤ◌}
use Rattle.std.proofs.Math.Option.{some}
use Rattle.std.specs.Int.Signed.{le_z, lt_z}
use Rattle.course.specs.Course.{Course, events}
use Rattle.reading.specs.declared.Reading.{Reading}
use Rattle.reading.specs.declared.Reading.TheVariants.{Nothing, Under, Number, Over}
use Rattle.total.specs.declared.Totalizer.{Totalizer}
use Rattle.total.specs.Total.{least, most, in_total, quotient, sample_adds, batch_adds}
use Rattle.total.specs.History.{Event, sample, batch_key, reset_key, added_since}

-- ---- what an event contributes

abbrev pub is_number : Reading → Bool
is_number Nothing = false
is_number Under = false
is_number (Number v) = true
is_number Over = false

pub record Contributions (s : Totalizer) : Type 0 where
  -- outside batch, a sample with a number not below the low cut contributes reading × factor, and one below it nothing
  pub counted : (v : ℤ) → s.batch ≡ false → le_z s.low_cut v ≡ true → sample_adds s (Number v) ≡ v *ℤ s.factor
  pub below : (v : ℤ) → lt_z v s.low_cut ≡ true → sample_adds s (Number v) ≡ pos 0
  -- in batch no sample contributes, and each key 1 the present reading × 20,000 × time base
  pub in_batch : (r : Reading) → s.batch ≡ true → sample_adds s r ≡ pos 0
  pub key : (v : ℤ) → batch_adds s (Number v) ≡ v *ℤ pos (20000 * nat_abs s.time_base)
  -- Over, Under and no reading contribute nothing
  pub no_number : (r : Reading) → is_number r ≡ false → (sample_adds s r ≡ pos 0) × (batch_adds s r ≡ pos 0)

-- ---- what has contributed since the last reset or power-up, all together, as the total would show it

abbrev pub quotient_since : Totalizer → List Event → ℤ
quotient_since s es = quotient s (added_since s es)

-- the total has not gone Over or Under since then: with each event since then that quotient lay in the total's range
unfoldable pub stayed : Totalizer → List Event → Bool
stayed s [] = true
stayed s (sample r ∷ es) = stayed s es && in_total (quotient_since s (sample r ∷ es))
stayed s (batch_key r ∷ es) = stayed s es && in_total (quotient_since s (batch_key r ∷ es))
stayed s (reset_key ∷ es) = true

-- ---- of a totalizer, and what is shown as its total after each history

pub record Said (s : Totalizer) (c : Course Event) (shown : List c.Entry → Reading) : Type 0 where
  -- while it has not gone Over or Under since its last reset or power-up, it is the cut quotient of what has contributed since then
  pub shows : (h : List c.Entry) → stayed s (events c h) ≡ true → shown h ≡ Number (quotient_since s (events c h))
  -- where that would leave the range, it is Over above it and Under below it
  pub goes_over : (h : List c.Entry) (e : c.Entry) → stayed s (events c h) ≡ true → lt_z most (quotient_since s (events c (e ∷ h))) ≡ true → shown (e ∷ h) ≡ Over
  pub goes_under : (h : List c.Entry) (e : c.Entry) → stayed s (events c h) ≡ true → lt_z (quotient_since s (events c (e ∷ h))) least ≡ true → shown (e ∷ h) ≡ Under
  -- and no number where it has gone so; once Over or Under, it stays so until a reset
  pub gone : (h : List c.Entry) → stayed s (events c h) ≡ false → is_number (shown h) ≡ false
  pub stays : (h : List c.Entry) (e : c.Entry) → is_number (shown h) ≡ false → c.what h e ≢ some reset_key → shown (e ∷ h) ≡ shown h
  -- a reset makes it 0
  pub reset : (h : List c.Entry) (e : c.Entry) → c.what h e ≡ some reset_key → shown (e ∷ h) ≡ Number (pos 0)
