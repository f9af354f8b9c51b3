-- What excursions come to: how long they last, and that nothing but samples, resets and setpoints makes them. Assumes nothing.
use mathlib.Core.Path.{◌≡◌, refl, sym, ap, ◌∙◌}
use mathlib.Core.Bool.{Bool, true, false, cond}
use mathlib.Core.List.{List, [], ◌∷◌, map}
use mathlib.Core.Option.{Option, none, some}
use Prim.Native.Nat.{ℕ, suc}
use native.Mathlib.Omega.{arith}
use lib.IntN.{ℤ}
use Rattle.course.specs.Course.{Course, add, events, Follows}
use Rattle.course.proofs.Course.{folds}
use Rattle.alarm.specs.declared.Settings.{Settings}
use Rattle.alarm.specs.declared.Alarm.{Alarm}
use Rattle.run.specs.Run.{samples, counted}
use Rattle.alarm.specs.Alarm.{off, above, at_most, on_condition, off_condition, awaited, delay, moved, sampled, reset, written}
use Rattle.alarm.specs.History.{Event, step, after_all, own}
use Rattle.alarm.specs.ExcursionCases.{excursion_cases, excursed}
use Rattle.alarm.specs.Excursions.{Excursion, is_sample, noted, samples_in, excursions, Lasting}

-- ---- how long they last

-- one event more, a sample or not
lasts_on : (sampled before after : Bool) (n : ℕ) (xs : List Excursion) → Lasting before n xs → Lasting after (cond sampled (suc n) n) (noted sampled (cond sampled (suc n) n) before after xs)
lasts_on sampled false false n xs l = l
lasts_on sampled false true n xs l = (refl, omega arith, l)
lasts_on sampled true true n [] l = l
lasts_on true true true n (x ∷ xs) l = (l.0, omega arith, l.2)
lasts_on false true true n (x ∷ xs) l = l
lasts_on sampled true false n [] l = absurd l
lasts_on true true false n (x ∷ xs) l = (l.1, l.2)
lasts_on false true false n (x ∷ xs) l = (l.1, l.2)

pub lasting : (c : Course Event) (on : List c.Entry → Bool) → on [] ≡ false → (h : List c.Entry) → Lasting (on h) (samples_in c h) (excursions c on h)
lasting c on o [] = rw o tt
lasting c on o (e ∷ h) = lasts_on (is_sample (c.what h e)) (on h) (on (e ∷ h)) (samples_in c h) (excursions c on h) (lasting c on o h)

-- ---- what makes them

-- what is no sample and leaves the state leaves the excursions
pub noted_none : (n : ℕ) (on : Bool) (xs : List Excursion) → noted false n on on xs ≡ xs
noted_none n false xs = refl
noted_none n true [] = refl
noted_none n true (x ∷ xs) = refl

samples_more : (o : Option Event) (es : List Event) → samples_in own (add o es) ≡ cond (is_sample o) (suc (samples_in own es)) (samples_in own es)
samples_more none es = refl
samples_more (some e) es = refl

module _ (s : Settings) (first : ℤ) where
  abbrev lit : List Event → Bool
  lit es = (after_all s first es).on

  noted_more : (o : Option Event) (es : List Event) → excursions own lit (add o es) ≡ noted (is_sample o) (samples_in own (add o es)) (lit es) (lit (add o es)) (excursions own lit es)
  noted_more none es = sym (noted_none (samples_in own es) (lit es) (excursions own lit es))
  noted_more (some e) es = refl

  module _ (c : Course Event) (state : List c.Entry → Alarm) (f : Follows (step s) (off first) c state) where
    lit_is : (h : List c.Entry) → (state h).on ≡ lit (events c h)
    lit_is h = ap (λ (a : Alarm). a.on) (folds (step s) (after_all s first) (λ e es. refl) c state f h)

    samples_are : (h : List c.Entry) → samples_in c h ≡ samples_in own (events c h)
    samples_are [] = refl
    samples_are (e ∷ h) = rw (samples_are h) (sym (samples_more (c.what h e) (events c h)))

    excursions_are : (h : List c.Entry) → excursions c (λ g. (state g).on) h ≡ excursions own lit (events c h)
    excursions_are [] = refl
    excursions_are (e ∷ h) = rw (lit_is h, lit_is (e ∷ h), samples_are (e ∷ h), excursions_are h) (sym (noted_more (c.what h e) (events c h)))

    -- histories in which the same samples, resets and setpoints come to the alarm have the same excursions
    pub by_events : (h g : List c.Entry) → events c h ≡ events c g → excursions c (λ k. (state k).on) h ≡ excursions c (λ k. (state k).on) g
    by_events h g q = excursions_are h ∙ ap (excursions own lit) q ∙ sym (excursions_are g)

-- ---- worked cases

-- each case comes to what it says
pub excursion_cases_lem : map excursed excursion_cases ≡ map (λ k. k.excursions) excursion_cases
unfolding samples counted above at_most on_condition off_condition awaited delay moved sampled reset written excursion_cases
excursion_cases_lem = refl
