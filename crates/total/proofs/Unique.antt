-- The sentences leave nothing open: two meters of which the same is said, on one course, show the same total after each history. Assumes
-- nothing.
use mathlib.Core.Path.{◌≡◌, refl, sym, ◌∙◌}
use mathlib.Core.Bool.{Bool, true, false}
use mathlib.Core.List.{List, [], ◌∷◌}
use lib.IntN.{ℤ}
use lib.Signed.{lt_z}
use Rattle.exact.proofs.Z.{never, within_is}
use Rattle.course.specs.Course.{Course, events}
use Rattle.reading.specs.declared.Reading.{Reading}
use Rattle.total.specs.declared.Totalizer.{Totalizer}
use Rattle.total.specs.Total.{least, most, in_total}
use Rattle.total.specs.History.{Event}
use Rattle.total.specs.Said.{quotient_since, stayed, Said}
use Rattle.total.proofs.Said.{left_by, no_reset}

module _ (s : Totalizer) (c : Course Event) (shown₁ shown₂ : List c.Entry → Reading) (p : Said s c shown₁) (q : Said s c shown₂) where
  goes_same : (h : List c.Entry) (e : c.Entry) → stayed s (events c h) ≡ true → in_total (quotient_since s (events c (e ∷ h))) ≡ false → shown₁ (e ∷ h) ≡ shown₂ (e ∷ h)
  goes_same h e k i = go (lt_z most x) (lt_z x least) refl refl
    where
      x : ℤ
      x = quotient_since s (events c (e ∷ h))

      go : (b d : Bool) → lt_z most x ≡ b → lt_z x least ≡ d → shown₁ (e ∷ h) ≡ shown₂ (e ∷ h)
      go true d o u = p.goes_over h e k o ∙ sym (q.goes_over h e k o)
      go false true o u = p.goes_under h e k u ∙ sym (q.goes_under h e k u)
      go false false o u = never (sym i ∙ within_is least most x o u)

  gone_same : (h : List c.Entry) (e : c.Entry) → stayed s (events c (e ∷ h)) ≡ false → shown₁ h ≡ shown₂ h → (before : Bool) → stayed s (events c h) ≡ before
      → shown₁ (e ∷ h) ≡ shown₂ (e ∷ h)
  gone_same h e g same true k = goes_same h e k (left_by s (c.what h e) (events c h) k g)
  gone_same h e g same false k =
      let n = no_reset s (c.what h e) (events c h) g in
      p.stays h e (p.gone h k) n ∙ same ∙ sym (q.stays h e (q.gone h k) n)

  event_same : (h : List c.Entry) (e : c.Entry) → shown₁ h ≡ shown₂ h → (after : Bool) → stayed s (events c (e ∷ h)) ≡ after → shown₁ (e ∷ h) ≡ shown₂ (e ∷ h)
  event_same h e same true k = p.shows (e ∷ h) k ∙ sym (q.shows (e ∷ h) k)
  event_same h e same false k = gone_same h e k same (stayed s (events c h)) refl

  pub alone : (h : List c.Entry) → shown₁ h ≡ shown₂ h
  unfolding stayed
  alone [] = p.shows [] refl ∙ sym (q.shows [] refl)
  alone (e ∷ h) = event_same h e (alone h) (stayed s (events c (e ∷ h))) refl
