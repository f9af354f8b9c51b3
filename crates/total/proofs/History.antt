-- What holds of the total over any list of events. Assumes nothing.
use mathlib.Core.Path.{◌≡◌, refl, sym, ap, ◌∙◌}
use mathlib.Core.Bool.{true, false}
use mathlib.Core.List.{List, [], ◌∷◌}
use Prim.Native.Nat.{◌^◌, ◌<◌}
use native.Mathlib.Omega.{arith}
use lib.IntN.{ℤ, nat_abs, ◌+ℤ◌}
use Rattle.exact.proofs.Z.{never}
use Rattle.reading.specs.declared.Reading.TheVariants.{Number}
use Rattle.total.specs.declared.Totalizer.{Totalizer}
use Rattle.total.specs.declared.Range.{Range}
use Rattle.total.specs.declared.Range.TheVariants.{Within, Under, Over}
use Rattle.total.specs.declared.Total.{Total}
use Rattle.total.specs.Total.{Timed, in_range, quotient, left, added, sample_adds, batch_adds, shown}
use Rattle.total.specs.History.{Event, sample, batch_key, reset_key, from, after, no_reset, added_since}
use Rattle.total.proofs.Sums.{kept_sum}
use Rattle.total.proofs.Laws.{reset_kept, added_kept, frozen, grows, shown_within}

-- every total since power-up is kept: what the calls of this crate require is met by whoever starts at a reset
pub history_kept : (s : Totalizer) (h : List Event) → in_range s (after s h) ≡ true
unfolding from
history_kept s [] = reset_kept s
history_kept s (sample r ∷ h) = added_kept s (after s h) (sample_adds s r) (history_kept s h)
history_kept s (batch_key r ∷ h) = added_kept s (after s h) (batch_adds s r) (history_kept s h)
history_kept s (reset_key ∷ h) = reset_kept s

-- for every accepted configuration and any number of events the sum stays below 2 ^ 61, and so within 64 signed bits
pub history_fits : (s : Totalizer) → Timed s → (h : List Event) → nat_abs (after s h).sum < 2 ^ 61
history_fits s a h = omega (arith, kept_sum s a (after s h) (history_kept s h))

-- once Over or Under, nothing but a reset changes sum or range
pub history_frozen : (s : Totalizer) (t : Total) (h : List Event) → left t.range ≡ true → no_reset h ≡ true → from s t h ≡ t
unfolding from no_reset
history_frozen s t [] e n = refl
history_frozen s t (sample r ∷ h) e n = ap (λ (u : Total). added s u (sample_adds s r)) (history_frozen s t h e n) ∙ frozen s t (sample_adds s r) e
history_frozen s t (batch_key r ∷ h) e n = ap (λ (u : Total). added s u (batch_adds s r)) (history_frozen s t h e n) ∙ frozen s t (batch_adds s r) e
history_frozen s t (reset_key ∷ h) e n = never n

-- one more addition on what was added since the last reset
one_more : (s : Totalizer) (t : Total) (x y : ℤ) → (left t.range ≡ false → t.sum ≡ y) → left (added s t x).range ≡ false → (added s t x).sum ≡ y +ℤ x
one_more s t x y f e = let g = grows s t x e in g.1 ∙ ap (λ (z : ℤ). z +ℤ x) (f g.0)

-- while neither Over nor Under, the sum is all that was added since the last reset
pub history_sum : (s : Totalizer) (h : List Event) → left (after s h).range ≡ false → (after s h).sum ≡ added_since s h
unfolding from added_since
history_sum s [] e = refl
history_sum s (sample r ∷ h) e = one_more s (after s h) (sample_adds s r) (added_since s h) (history_sum s h) e
history_sum s (batch_key r ∷ h) e = one_more s (after s h) (batch_adds s r) (added_since s h) (history_sum s h) e
history_sum s (reset_key ∷ h) e = refl

is_within : (g : Range) → left g ≡ false → g ≡ Within
is_within Within e = refl
is_within Under e = never (sym e)
is_within Over e = never (sym e)

-- and what is shown is its cut quotient
pub history_shown : (s : Totalizer) (h : List Event) → left (after s h).range ≡ false → shown s (after s h) ≡ Number (quotient s (added_since s h))
history_shown s h e =
    shown_within s (after s h) (is_within (after s h).range e) ∙ ap (λ (z : ℤ). Number (quotient s z)) (history_sum s h e)
