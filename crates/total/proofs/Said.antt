-- What is said of a total from its history alone holds of every total that follows its course. Assumes nothing.
use mathlib.Core.Path.{◌≡◌, refl, sym, ap, ◌∙◌}
use mathlib.Core.Bool.{Bool, true, false, not, ◌&&◌}
use mathlib.Core.List.{List, [], ◌∷◌}
use mathlib.Core.Logic.{◌≢◌}
use mathlib.Core.Option.{Option, none, some}
use native.Mathlib.Nat.{zero-div}
use lib.IntN.{ℤ, pos, ◌+ℤ◌}
use lib.Signed.{le_z, lt_z}
use Rattle.exact.specs.Exact.{cut}
use Rattle.exact.proofs.Z.{never, and_false, within_is, within_not, lt_not_le, lt_le, le_not_lt, lt_trans}
use Rattle.course.specs.Course.{Course, add, events, stepped, Follows}
use Rattle.course.proofs.Course.{folds}
use Rattle.reading.specs.declared.Reading.{Reading}
use Rattle.reading.specs.declared.Reading.TheVariants.{Nothing, Under as ReadingUnder, Number, Over as ReadingOver}
use Rattle.total.specs.declared.Totalizer.{Totalizer}
use Rattle.total.specs.declared.Range.{Range}
use Rattle.total.specs.declared.Range.TheVariants.{Within, Under, Over}
use Rattle.total.specs.declared.Total.{Total}
use Rattle.total.specs.Total.{reset, least, most, in_total, left, unit_of, quotient, added, sample_adds, batch_adds, shown_as, shown}
use Rattle.total.specs.History.{Event, sample, batch_key, reset_key, step, from, after, added_since}
use Rattle.total.specs.Said.{is_number, Contributions, quotient_since, stayed, Said}
use Rattle.total.proofs.Laws.{goes_over, goes_under, stays_within, shown_over, shown_under, frozen, adds_none, adds_under, adds_over, adds_below, adds_in_batch, adds_number}
use Rattle.total.proofs.History.{history_kept, history_sum, history_shown}

-- ---- contributions

no_number : (s : Totalizer) (r : Reading) → is_number r ≡ false → (sample_adds s r ≡ pos 0) × (batch_adds s r ≡ pos 0)
unfolding batch_adds
no_number s Nothing e = (adds_none s, refl)
no_number s ReadingUnder e = (adds_under s, refl)
no_number s (Number v) e = never (sym e)
no_number s ReadingOver e = (adds_over s, refl)

pub contributions : (s : Totalizer) → Contributions s
unfolding batch_adds unit_of
contributions s =
    record {
      counted = adds_number s;
      below = adds_below s;
      in_batch = adds_in_batch s;
      key = λ v. refl;
      no_number = no_number s;
    }

-- ---- lists of events

-- what lies below the range does not lie above it
not_over : (q : ℤ) → lt_z q least ≡ true → lt_z most q ≡ false
not_over q i = le_not_lt most q (lt_le q most (lt_trans q least most i refl))

module _ (s : Totalizer) where
  -- x more on a total that has neither gone Over nor Under, with y for its sum
  module _ (t : Total) (x y : ℤ) (l : left t.range ≡ false) (p : t.sum ≡ y) where
    adds_within : in_total (quotient s (y +ℤ x)) ≡ true → left (added s t x).range ≡ false
    unfolding added
    adds_within i = rw (l, p, stays_within s y (y +ℤ x) i)

    adds_over_it : lt_z most (quotient s (y +ℤ x)) ≡ true → (added s t x).range ≡ Over
    unfolding added
    adds_over_it i = rw (l, p, goes_over s y (y +ℤ x) i)

    adds_under_it : lt_z (quotient s (y +ℤ x)) least ≡ true → (added s t x).range ≡ Under
    unfolding added
    adds_under_it i = rw (l, p, goes_under s y (y +ℤ x) (not_over (quotient s (y +ℤ x)) i) i)

  -- x more on a total leaves it out of its range where it was so before, or where the new quotient lies out of it
  adds_left : (t : Total) (x y : ℤ) (within : Bool) → left t.range ≡ not within → (left t.range ≡ false → t.sum ≡ y)
      → left (added s t x).range ≡ not (within && in_total (quotient s (y +ℤ x)))
  adds_left t x y false l p = ap (λ (u : Total). left u.range) (frozen s t x l) ∙ l
  adds_left t x y true l p = go (lt_z most q) (lt_z q least) refl refl
    where
      q : ℤ
      q = quotient s (y +ℤ x)

      go : (b d : Bool) → lt_z most q ≡ b → lt_z q least ≡ d → left (added s t x).range ≡ not (in_total q)
      go true d o u = ap left (adds_over_it t x y l (p l) o) ∙ sym (rw (lt_not_le most q o, and_false (le_z least q)))
      go false true o u = ap left (adds_under_it t x y l (p l) u) ∙ sym (rw (lt_not_le q least u))
      go false false o u = let i = within_is least most q o u in adds_within t x y l (p l) i ∙ sym (ap not i)

  -- so it is out of its range exactly where some quotient since the last reset lay out of it
  left_is : (es : List Event) → left (after s es).range ≡ not (stayed s es)
  unfolding from added_since stayed
  left_is [] = refl
  left_is (sample r ∷ es) = adds_left (after s es) (sample_adds s r) (added_since s es) (stayed s es) (left_is es) (history_sum s es)
  left_is (batch_key r ∷ es) = adds_left (after s es) (batch_adds s r) (added_since s es) (stayed s es) (left_is es) (history_sum s es)
  left_is (reset_key ∷ es) = refl

  stays : (es : List Event) → stayed s es ≡ true → left (after s es).range ≡ false
  stays es e = left_is es ∙ ap not e

  -- and where it is in its range the newest quotient lies there
  in_range : (es : List Event) → stayed s es ≡ true → in_total (quotient_since s es) ≡ true
  in_range es e = rw (← history_sum s es (stays es e)) (history_kept s es)

  -- ---- one event more, or none

  -- what goes Over or Under now does so by leaving the range, and no reset does
  pub left_by : (o : Option Event) (es : List Event) → stayed s es ≡ true → stayed s (add o es) ≡ false → in_total (quotient_since s (add o es)) ≡ false
  unfolding stayed
  left_by none es e g = never (sym g ∙ e)
  left_by (some (sample r)) es e g = rw e at g
  left_by (some (batch_key r)) es e g = rw e at g
  left_by (some reset_key) es e g = never (sym g)

  pub no_reset : (o : Option Event) (es : List Event) → stayed s (add o es) ≡ false → o ≢ some reset_key
  unfolding stayed
  no_reset o es g q = never (sym g ∙ ap (λ (x : Option Event). stayed s (add x es)) q)

  -- where the newest quotient lies past one end of the range, the total has gone out there
  module _ (past : ℤ → Bool) (end : Range) (not_in : (q : ℤ) → in_total q ≡ true → past q ≡ false)
      (goes : (t : Total) (x y : ℤ) → left t.range ≡ false → t.sum ≡ y → past (quotient s (y +ℤ x)) ≡ true → (added s t x).range ≡ end) where
    goes_past : (o : Option Event) (es : List Event) → stayed s es ≡ true → past (quotient_since s (add o es)) ≡ true → (after s (add o es)).range ≡ end
    unfolding from added_since stayed
    goes_past none es e i = never (sym (not_in (quotient_since s es) (in_range es e)) ∙ i)
    goes_past (some (sample r)) es e i = let l = stays es e in goes (after s es) (sample_adds s r) (added_since s es) l (history_sum s es l) i
    goes_past (some (batch_key r)) es e i = let l = stays es e in goes (after s es) (batch_adds s r) (added_since s es) l (history_sum s es l) i
    goes_past (some reset_key) es e i = never (sym (not_in (quotient_since s (reset_key ∷ es)) (in_range (reset_key ∷ es) refl)) ∙ i)

  over_by : (o : Option Event) (es : List Event) → stayed s es ≡ true → lt_z most (quotient_since s (add o es)) ≡ true → shown s (after s (add o es)) ≡ ReadingOver
  over_by o es e i = shown_over s (after s (add o es)) (goes_past (lt_z most) Over (λ q n. (within_not least most q n).0) adds_over_it o es e i)

  under_by : (o : Option Event) (es : List Event) → stayed s es ≡ true → lt_z (quotient_since s (add o es)) least ≡ true → shown s (after s (add o es)) ≡ ReadingUnder
  under_by o es e i =
      shown_under s (after s (add o es)) (goes_past (λ (q : ℤ). lt_z q least) Under (λ q n. (within_not least most q n).1) adds_under_it o es e i)

  -- a total shows no number exactly where it has left its range, and stands there until a reset
  shown_by : (g : Range) (q : ℤ) → left g ≡ true → is_number (shown_as g q) ≡ false
  shown_by Within q e = never e
  shown_by Under q e = refl
  shown_by Over q e = refl

  gone_by : (g : Range) (q : ℤ) → is_number (shown_as g q) ≡ false → left g ≡ true
  gone_by Within q e = sym e
  gone_by Under q e = refl
  gone_by Over q e = refl

  is_gone : (t : Total) → is_number (shown s t) ≡ false → left t.range ≡ true
  unfolding shown
  is_gone t e = gone_by t.range (quotient s t.sum) e

  gone_shown : (t : Total) → left t.range ≡ true → is_number (shown s t) ≡ false
  unfolding shown
  gone_shown t e = shown_by t.range (quotient s t.sum) e

  stands : (t : Total) (o : Option Event) → left t.range ≡ true → o ≢ some reset_key → stepped (step s) t o ≡ t
  stands t none l n = refl
  stands t (some (sample r)) l n = frozen s t (sample_adds s r) l
  stands t (some (batch_key r)) l n = frozen s t (batch_adds s r) l
  stands t (some reset_key) l n = absurd (n refl)

-- ---- a total that follows a course

module _ (s : Totalizer) (c : Course Event) (state : List c.Entry → Total) (f : Follows (step s) reset c state) where
  abbrev showing : List c.Entry → Reading
  showing h = shown s (state h)

  -- it is that of the events that come to it
  is_after : (h : List c.Entry) → state h ≡ after s (events c h)
  unfolding from
  is_after = folds (step s) (after s) (λ e es. refl) c state f

  showing_is : (h : List c.Entry) → showing h ≡ shown s (after s (events c h))
  showing_is h = ap (shown s) (is_after h)

  stays_gone : (h : List c.Entry) (e : c.Entry) → is_number (showing h) ≡ false → c.what h e ≢ some reset_key → showing (e ∷ h) ≡ showing h
  stays_gone h e g n = ap (shown s) (f.goes h e ∙ stands s (state h) (c.what h e) (is_gone s (state h) g) n)

  reset_shown : (h : List c.Entry) (e : c.Entry) → c.what h e ≡ some reset_key → showing (e ∷ h) ≡ Number (pos 0)
  unfolding shown quotient cut
  reset_shown h e q = rw (f.goes h e, q, zero-div (unit_of s))

pub said : (s : Totalizer) (c : Course Event) (state : List c.Entry → Total) → Follows (step s) reset c state → Said s c (λ h. shown s (state h))
said s c state f =
    record {
      shows = λ h e. showing_is s c state f h ∙ history_shown s (events c h) (stays s (events c h) e);
      goes_over = λ h e k i. showing_is s c state f (e ∷ h) ∙ over_by s (c.what h e) (events c h) k i;
      goes_under = λ h e k i. showing_is s c state f (e ∷ h) ∙ under_by s (c.what h e) (events c h) k i;
      gone = λ h e. ap is_number (showing_is s c state f h) ∙ gone_shown s (after s (events c h)) (left_is s (events c h) ∙ ap not e);
      stays = stays_gone s c state f;
      reset = reset_shown s c state f;
    }
