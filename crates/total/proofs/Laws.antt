-- What the definitions of the total mean, one event at a time. Assumes nothing.
use mathlib.Core.Path.{◌≡◌, refl, sym, ◌∙◌}
use mathlib.Core.Bool.{Bool, true, false, cond, not, ◌&&◌}
use native.Mathlib.Nat.{zero-div}
use lib.IntN.{ℤ, pos, ◌+ℤ◌, ◌*ℤ◌, +ℤ_idr}
use lib.Signed.{le_z, lt_z}
use Rattle.exact.specs.Exact.{cut}
use Rattle.exact.specs.Meaning.{IsCut}
use Rattle.exact.proofs.Z.{never, within_is, within_not, lt_not_le}
use Rattle.exact.proofs.Meaning.{cut_is}
use Rattle.reading.specs.declared.Reading.{Reading}
use Rattle.reading.specs.declared.Reading.TheVariants.{Nothing, Under as ReadingUnder, Number, Over as ReadingOver}
use Rattle.total.specs.declared.Totalizer.{Totalizer}
use Rattle.total.specs.declared.Range.{Range}
use Rattle.total.specs.declared.Range.TheVariants.{Within, Under, Over}
use Rattle.total.specs.declared.Total.{Total}
use Rattle.total.specs.Total.{Timed, total, reset, least, most, in_total, in_range, left, unit_of, quotient, summed, added, sample_adds, batch_adds, sampled, batched, shown}
use Rattle.total.proofs.Sums.{unit_some}

-- ---- what is shown

-- the cut quotient of the sum, in units of 20,000 × time base
pub quotient_is : (s : Totalizer) → Timed s → (sum : ℤ) → IsCut sum (unit_of s) (quotient s sum)
unfolding quotient
quotient_is s a sum = cut_is sum (unit_of s) (unit_some s a)

-- while neither Over nor Under the shown total is the cut quotient of the sum
pub shown_within : (s : Totalizer) (t : Total) → t.range ≡ Within → shown s t ≡ Number (quotient s t.sum)
unfolding shown
shown_within s t e = rw e

pub shown_under : (s : Totalizer) (t : Total) → t.range ≡ Under → shown s t ≡ ReadingUnder
unfolding shown
shown_under s t e = rw e

pub shown_over : (s : Totalizer) (t : Total) → t.range ≡ Over → shown s t ≡ ReadingOver
unfolding shown
shown_over s t e = rw e

-- ---- a new sum is judged

module _ (s : Totalizer) (old new : ℤ) where
  -- above the range the total is Over, and the sum stays as it was before
  pub goes_over : lt_z most (quotient s new) ≡ true → summed s old new ≡ total old Over
  unfolding summed
  goes_over e = rw e

  -- below the range it is Under, and the sum stays as it was before
  pub goes_under : lt_z most (quotient s new) ≡ false → lt_z (quotient s new) least ≡ true → summed s old new ≡ total old Under
  unfolding summed
  goes_under e f = rw (e, f)

  -- in the range the new sum is taken
  pub stays_within : in_total (quotient s new) ≡ true → summed s old new ≡ total new Within
  unfolding summed
  stays_within e =
      let n = within_not least most (quotient s new) e in
      rw (n.0, n.1)

-- ---- the outcomes of an addition

module _ (s : Totalizer) (P : Total → Type 0) where
  by_range : (y : ℤ) (g : Range) (x : ℤ) → (left g ≡ true → P (total y g)) → (left g ≡ false → P (total y Over)) → (left g ≡ false → P (total y Under)) → (left g ≡ false → in_total (quotient s (y +ℤ x)) ≡ true → P (total (y +ℤ x) Within)) → P (added s (total y g) x)
  unfolding added summed
  by_range y Within x f o u w = go (lt_z most (quotient s (y +ℤ x))) (lt_z (quotient s (y +ℤ x)) least) refl refl
    where
      go : (b c : Bool) → lt_z most (quotient s (y +ℤ x)) ≡ b → lt_z (quotient s (y +ℤ x)) least ≡ c → P (cond b (total y Over) (cond c (total y Under) (total (y +ℤ x) Within)))
      go true c d e = o refl
      go false true d e = u refl
      go false false d e = w refl (within_is least most (quotient s (y +ℤ x)) d e)
  by_range y Under x f o u w = f refl
  by_range y Over x f o u w = f refl

  -- what holds of each outcome holds of x added: the total as it was where it had left its range, else Over or Under with the
  -- sum as it was, or the sum with x in range
  pub by_outcome : (t : Total) (x : ℤ) → (left t.range ≡ true → P t) → (left t.range ≡ false → P (total t.sum Over)) → (left t.range ≡ false → P (total t.sum Under)) → (left t.range ≡ false → in_total (quotient s (t.sum +ℤ x)) ≡ true → P (total (t.sum +ℤ x) Within)) → P (added s t x)
  by_outcome t x = by_range t.sum t.range x

-- ---- a sum in range stays in range

pub reset_kept : (s : Totalizer) → in_range s reset ≡ true
unfolding quotient cut
reset_kept s = rw (zero-div (unit_of s))

module _ (s : Totalizer) (t : Total) where
  pub added_kept : (x : ℤ) → in_range s t ≡ true → in_range s (added s t x) ≡ true
  added_kept x k =
      by_outcome s (λ u. in_range s u ≡ true) t x (λ e. k) (λ e. k) (λ e. k) (λ e i. i)

  pub sampled_kept : (r : Reading) → in_range s t ≡ true → in_range s (sampled s t r) ≡ true
  sampled_kept r = added_kept (sample_adds s r)

  pub batched_kept : (r : Reading) → in_range s t ≡ true → in_range s (batched s t r) ≡ true
  batched_kept r = added_kept (batch_adds s r)

  -- ---- additions and the range

  -- once Over or Under, nothing is added
  pub frozen : (x : ℤ) → left t.range ≡ true → added s t x ≡ t
  frozen x e =
      by_outcome s (λ u. u ≡ t) t x (λ l. refl) (λ w. never (sym w ∙ e)) (λ w. never (sym w ∙ e)) (λ w i. never (sym w ∙ e))

  -- leaving the range keeps the sum as it was before
  pub leaves : (x : ℤ) → left (added s t x).range ≡ true → (added s t x).sum ≡ t.sum
  leaves x =
      by_outcome s (λ u. left u.range ≡ true → u.sum ≡ t.sum) t x (λ l e. refl) (λ w e. refl) (λ w e. refl) (λ w i e. never e)

  -- a total that is in range after an addition was so before, and its sum is x more
  pub grows : (x : ℤ) → left (added s t x).range ≡ false → (left t.range ≡ false) × ((added s t x).sum ≡ t.sum +ℤ x)
  grows x =
      by_outcome s (λ u. left u.range ≡ false → (left t.range ≡ false) × (u.sum ≡ t.sum +ℤ x)) t x
      (λ l e. never (sym e ∙ l)) (λ w e. never (sym e)) (λ w e. never (sym e)) (λ w i e. (w, refl))

nothing_in : (s : Totalizer) (y : ℤ) (g : Range) → in_range s (total y g) ≡ true → added s (total y g) (pos 0) ≡ total y g
unfolding added
nothing_in s y Within k = rw (+ℤ_idr y) (stays_within s y y k)
nothing_in s y Under k = refl
nothing_in s y Over k = refl

-- what adds nothing changes nothing
pub adds_nothing : (s : Totalizer) (t : Total) → in_range s t ≡ true → added s t (pos 0) ≡ t
adds_nothing s t k = nothing_in s t.sum t.range k

-- ---- what a sample adds

-- nothing where there is no number
pub adds_none : (s : Totalizer) → sample_adds s Nothing ≡ pos 0
unfolding sample_adds
adds_none s = refl

pub adds_under : (s : Totalizer) → sample_adds s ReadingUnder ≡ pos 0
unfolding sample_adds
adds_under s = refl

pub adds_over : (s : Totalizer) → sample_adds s ReadingOver ≡ pos 0
unfolding sample_adds
adds_over s = refl

not_counted : (b : Bool) → (b && false) ≡ false
not_counted true = refl
not_counted false = refl

-- nothing below the low cut
pub adds_below : (s : Totalizer) (v : ℤ) → lt_z v s.low_cut ≡ true → sample_adds s (Number v) ≡ pos 0
unfolding sample_adds
adds_below s v e = rw (lt_not_le v s.low_cut e, not_counted (not s.batch))

-- nothing in batch
pub adds_in_batch : (s : Totalizer) (r : Reading) → s.batch ≡ true → sample_adds s r ≡ pos 0
unfolding sample_adds
adds_in_batch s Nothing e = refl
adds_in_batch s ReadingUnder e = refl
adds_in_batch s (Number v) e = rw e
adds_in_batch s ReadingOver e = refl

-- outside batch, a number not below the low cut adds itself times the factor
pub adds_number : (s : Totalizer) (v : ℤ) → s.batch ≡ false → le_z s.low_cut v ≡ true → sample_adds s (Number v) ≡ v *ℤ s.factor
unfolding sample_adds
adds_number s v e f = rw (e, f)
