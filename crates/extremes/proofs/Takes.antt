-- What a completed run gives, after any history since power-up, for both sides by one proof. Assumes nothing.
use mathlib.Core.Path.{◌≡◌, refl, sym, ap, ◌∙◌}
use mathlib.Core.Bool.{Bool, true, false, cond}
use mathlib.Core.List.{List, [], ◌∷◌, ◌++◌}
use mathlib.Core.Logic.{◌≢◌}
use Prim.Native.Nat.{ℕ, suc, ◌+◌, ◌≤◌, ◌<◌}
use native.Mathlib.Numerals.{add-one}
use native.Mathlib.Omega.{arith}
use borrow.Author.Tests.{ltb-true, ltb-false}
use lib.Dec.{ltb}
use lib.IntN.{ℤ}
use lib.ListN.{length}
use Rattle.std.specs.Prelude.{Option, None, Some}
use Rattle.reading.specs.declared.Reading.{Reading}
use Rattle.reading.specs.declared.Reading.TheVariants.{Nothing, Under, Number, Over}
use Rattle.run.specs.Run.{samples}
use Rattle.run.proofs.Laws.{samples_some}
use Rattle.extremes.specs.declared.Side.{Side}
use Rattle.extremes.specs.declared.Streak.{Streak}
use Rattle.extremes.specs.declared.Extreme.{Extreme}
use Rattle.extremes.specs.Extremes.{extreme, streak, taken, ended, beyond, so_many, closest, sampled, reset}
use Rattle.extremes.specs.History.{Event, sample, reset_key, held, numbers}
use Rattle.extremes.specs.Takes.{OneOf, here, further, EachBeyond, Closest, Ran, at_once, Takes}
use Rattle.extremes.proofs.Laws as laws
use Rattle.extremes.proofs.Order.{nothing_of, streak_of, many_of, closest_of, closest_only, with_one, one_less}

-- ---- parts of what is held

same_number : (v w : ℤ) → Some v ≡ Some w → v ≡ w
same_number v w e = cc

none≢some : {A : Type 0} (x : A) → None ≡ Some x → ⊥
none≢some x e = cc

closest_in : Option Streak → ℤ → ℤ
closest_in None z = z
closest_in (Some s) y = s.nearest

reset_idle : (r : Reading) → so_many (reset r).run ≡ 0
unfolding reset
reset_idle Nothing = refl
reset_idle Under = refl
reset_idle (Number v) = refl
reset_idle Over = refl

-- ---- what is held after a history

module _ (side : Side) (capture : ℤ) where
  -- the run that goes on after a history: its readings, which may be none
  record Since (h : List Event) (k : ℤ) (vs : List ℤ) : Type 0 where
    before : List Event
    newest : h ≡ numbers vs ++ before
    none_before : held side capture before ≡ extreme (Some k) None
    each_beyond : EachBeyond side k vs

  no_readings : (k : ℤ) → EachBeyond side k []
  no_readings k w o = absurd (nothing_of o)

  one_further : (k v : ℤ) (vs : List ℤ) → beyond side v k ≡ true → EachBeyond side k vs → EachBeyond side k (v ∷ vs)
  one_further k v vs e b _ (here _) = e
  one_further k v vs e b w (further _ _ o) = b w o

  -- where no run goes on
  none_since : (h : List Event) (k : ℤ) → held side capture h ≡ extreme (Some k) None → Since h k []
  unfolding numbers
  none_since h k e = record { before = h; newest = refl; none_before = e; each_beyond = no_readings k }

  -- one reading more
  one_since : (h : List Event) (k v : ℤ) (vs : List ℤ) → beyond side v k ≡ true → Since h k vs → Since (sample (Number v) ∷ h) k (v ∷ vs)
  unfolding numbers
  one_since h k v vs e s =
      record {
        before = s.before;
        newest = ap (λ (g : List Event). sample (Number v) ∷ g) s.newest;
        none_before = s.none_before;
        each_beyond = one_further k v vs e s.each_beyond;
      }

  -- what a sample with a number leaves, by the three things that it can do to a run
  data Next (k v : ℤ) (vs : List ℤ) (e : Extreme) : Type 0 where
    broken : e ≡ extreme (Some k) None → Next k v vs e
    going : beyond side v k ≡ true → length vs + 1 < samples capture → e ≡ extreme (Some k) (streak_of side (v ∷ vs)) → Next k v vs e
    complete : beyond side v k ≡ true → samples capture ≤ length vs + 1 → e ≡ taken (closest side (streak_of side vs) v) → Next k v vs e

  module _ (k v : ℤ) (vs : List ℤ) where
    leaves : Extreme
    leaves = sampled side capture (extreme (Some k) (streak_of side vs)) (Number v)

    -- it goes on with one reading more
    goes_on : beyond side v k ≡ true → length vs + 1 < samples capture → leaves ≡ extreme (Some k) (streak_of side (v ∷ vs))
    unfolding leaves
    goes_on e h =
        let many = many_of side vs in
        laws.grows side capture k v (streak_of side vs) e (omega arith)
        ∙ ap (λ (n : ℕ). extreme (Some k) (Some (streak n (closest side (streak_of side vs) v)))) (ap (λ (n : ℕ). n + 1) many ∙ add-one (length vs))

    -- it is complete
    is_over : beyond side v k ≡ true → samples capture ≤ length vs + 1 → leaves ≡ taken (closest side (streak_of side vs) v)
    unfolding leaves
    is_over e h = let many = many_of side vs in laws.completes side capture k v (streak_of side vs) e (omega arith)

    next_by : (t u : Bool) → beyond side v k ≡ t → ltb (length vs + 1) (samples capture) ≡ u → Next k v vs leaves
    unfolding leaves
    next_by false u e f = broken (laws.breaks side capture k v (streak_of side vs) e)
    next_by true true e f = let h = ltb-true (length vs + 1) (samples capture) f in going e h (goes_on e h)
    next_by true false e f = let h = ltb-false (length vs + 1) (samples capture) f in complete e h (is_over e h)

    next : Next k v vs leaves
    next = next_by (beyond side v k) (ltb (length vs + 1) (samples capture)) refl refl

  -- a max or a min is empty, or holds a number with the run since then
  data Standing (h : List Event) (e : Extreme) : Type 0 where
    none : e ≡ extreme None None → Standing h e
    some : (k : ℤ) (vs : List ℤ) → Since h k vs → e ≡ extreme (Some k) (streak_of side vs) → Standing h e

  after_number : (h : List Event) (k v : ℤ) (vs : List ℤ) → Since h k vs → (e : Extreme) → held side capture (sample (Number v) ∷ h) ≡ e → Next k v vs e → Standing (sample (Number v) ∷ h) e
  after_number h k v vs s e q (broken f) = some k [] (none_since _ k (q ∙ f)) f
  after_number h k v vs s e q (going b n f) = some k (v ∷ vs) (one_since h k v vs b s) f
  after_number h k v vs s e q (complete b n f) = some (closest side (streak_of side vs) v) [] (none_since _ _ (q ∙ f)) f

  empty_first : (h : List Event) (v : ℤ) → held side capture h ≡ extreme None None → held side capture (sample (Number v) ∷ h) ≡ taken v
  unfolding held
  empty_first h v e = ap (λ (x : Extreme). sampled side capture x (Number v)) e ∙ laws.first_taken side capture None v

  holds_next : (h : List Event) (k v : ℤ) (vs : List ℤ) → held side capture h ≡ extreme (Some k) (streak_of side vs) → held side capture (sample (Number v) ∷ h) ≡ leaves k v vs
  unfolding held leaves
  holds_next h k v vs e = ap (λ (x : Extreme). sampled side capture x (Number v)) e

  number_standing : (h : List Event) (v : ℤ) → Standing h (held side capture h) → Standing (sample (Number v) ∷ h) (held side capture (sample (Number v) ∷ h))
  number_standing h v (none e) = let f = empty_first h v e in some v [] (none_since _ v f) f
  number_standing h v (some k vs s e) = rw (holds_next h k v vs e) (after_number h k v vs s (leaves k v vs) (holds_next h k v vs e) (next k v vs))

  -- what ends a run leaves it standing with no readings
  ended_standing : (h g : List Event) → held side capture g ≡ ended (held side capture h) → Standing h (held side capture h) → Standing g (held side capture g)
  ended_standing h g q (none e) = none (q ∙ ap ended e)
  ended_standing h g q (some k vs s e) = let f = q ∙ ap ended e in some k [] (none_since g k f) f

  reset_standing : (r : Reading) (h : List Event) → Standing (reset_key r ∷ h) (held side capture (reset_key r ∷ h))
  unfolding held reset
  reset_standing Nothing h = none refl
  reset_standing Under h = none refl
  reset_standing (Number v) h = some v [] (none_since _ v refl) refl
  reset_standing Over h = none refl

  standing : (h : List Event) → Standing h (held side capture h)
  unfolding held reset sampled
  standing [] = none refl
  standing (sample Nothing ∷ h) = ended_standing h _ refl (standing h)
  standing (sample Under ∷ h) = ended_standing h _ refl (standing h)
  standing (sample (Number v) ∷ h) = number_standing h v (standing h)
  standing (sample Over ∷ h) = ended_standing h _ refl (standing h)
  standing (reset_key r ∷ h) = reset_standing r h

  -- a run that goes on has fewer readings than the capture time counts
  below : (h : List Event) → so_many (held side capture h).run < samples capture
  unfolding held
  below [] = rw (reset_idle Nothing) (samples_some capture)
  below (sample r ∷ h) = laws.stays_below side capture (held side capture h) r
  below (reset_key r ∷ h) = rw (reset_idle r) (samples_some capture)

  fewer : (h : List Event) (k : ℤ) (vs : List ℤ) → held side capture h ≡ extreme (Some k) (streak_of side vs) → length vs < samples capture
  fewer h k vs e = rw (ap (λ (x : Extreme). so_many x.run) e ∙ many_of side vs) at (below h)

  -- ---- where a sample changes what is kept

  ran : (h : List Event) (k v : ℤ) (vs : List ℤ) → Since h k (v ∷ vs) → Ran side capture h k (suc (length vs)) (closest side (streak_of side vs) v)
  ran h k v vs s =
      record {
        readings = v ∷ vs;
        before = s.before;
        newest = s.newest;
        none_before = s.none_before;
        each_beyond = s.each_beyond;
        so_many = refl;
        closest = closest_of side v vs;
      }

  module _ (h : List Event) (k t : ℤ) (differs : t ≢ k) where
    changed_by : (v : ℤ) (vs : List ℤ) → Since h k vs → length vs < samples capture → (e : Extreme) → Next k v vs e → e.kept ≡ Some t → Ran side capture (sample (Number v) ∷ h) k (samples capture) t
    changed_by v vs s l e (broken f) q = absurd (differs (same_number t k (sym q ∙ ap (λ (x : Extreme). x.kept) f)))
    changed_by v vs s l e (going b n f) q = absurd (differs (same_number t k (sym q ∙ ap (λ (x : Extreme). x.kept) f)))
    changed_by v vs s l e (complete b n f) q =
        let counted : samples capture ≡ suc (length vs) = omega arith in
        let is : t ≡ closest side (streak_of side vs) v = same_number _ _ (sym q ∙ ap (λ (x : Extreme). x.kept) f) in
        rw (is, counted) (ran (sample (Number v) ∷ h) k v vs (one_since h k v vs b s))

    number_changes : (v : ℤ) → Standing h (held side capture h) → (held side capture h).kept ≡ Some k → (held side capture (sample (Number v) ∷ h)).kept ≡ Some t → Ran side capture (sample (Number v) ∷ h) k (samples capture) t
    number_changes v (none e) p q = absurd (none≢some k (sym (ap (λ (x : Extreme). x.kept) e) ∙ p))
    number_changes v (some j vs s e) p q =
        let is : j ≡ k = same_number j k (sym (ap (λ (x : Extreme). x.kept) e) ∙ p) in
        let e' : held side capture h ≡ extreme (Some k) (streak_of side vs) = rw is at e in
        let s' : Since h k vs = rw is at s in
        changed_by v vs s' (fewer h k vs e') (leaves k v vs) (next k v vs) (sym (ap (λ (x : Extreme). x.kept) (holds_next h k v vs e')) ∙ q)

    changes : (r : Reading) → (held side capture h).kept ≡ Some k → (held side capture (sample r ∷ h)).kept ≡ Some t → Ran side capture (sample r ∷ h) k (samples capture) t
    unfolding held sampled
    changes Nothing p q = absurd (differs (same_number t k (sym q ∙ p)))
    changes Under p q = absurd (differs (same_number t k (sym q ∙ p)))
    changes (Number v) p q = number_changes v (standing h) p q
    changes Over p q = absurd (differs (same_number t k (sym q ∙ p)))

  -- ---- readings that are a run

  module _ (before : List Event) (k : ℤ) (e : held side capture before ≡ extreme (Some k) None) where
    -- while they are fewer than the count, the run holds them
    waiting : (vs : List ℤ) → EachBeyond side k vs → length vs < samples capture → held side capture (numbers vs ++ before) ≡ extreme (Some k) (streak_of side vs)
    unfolding numbers
    waiting [] b l = e
    waiting (v ∷ vs) b l =
        holds_next (numbers vs ++ before) k v vs (waiting vs (λ w o. b w (further v vs o)) (omega arith))
        ∙ goes_on k v vs (b v (here vs)) (omega arith)

    -- the one that makes them as many completes it
    completing : (v : ℤ) (vs : List ℤ) → EachBeyond side k (v ∷ vs) → suc (length vs) ≡ samples capture → held side capture (numbers (v ∷ vs) ++ before) ≡ taken (closest side (streak_of side vs) v)
    unfolding numbers
    completing v vs b l =
        holds_next (numbers vs ++ before) k v vs (waiting vs (λ w o. b w (further v vs o)) (omega arith))
        ∙ is_over k v vs (b v (here vs)) (omega arith)

    waits_by : (v : ℤ) (n : ℕ) (vs : List ℤ) → EachBeyond side k vs → length vs ≡ n → Closest side v vs → n < samples capture → held side capture (numbers vs ++ before) ≡ extreme (Some k) (Some (streak n v))
    waits_by v n [] b m c l = absurd (nothing_of c.one_of)
    waits_by v n (w ∷ vs) b m c l =
        waiting (w ∷ vs) b (omega arith)
        ∙ ap (λ (x : ℤ). extreme (Some k) (Some (streak (suc (length vs)) x))) (closest_only side _ v (w ∷ vs) (closest_of side w vs) c)
        ∙ ap (λ (x : ℕ). extreme (Some k) (Some (streak x v))) m

    completes_by : (t : ℤ) (vs : List ℤ) → EachBeyond side k vs → length vs ≡ samples capture → Closest side t vs → held side capture (numbers vs ++ before) ≡ taken t
    completes_by t [] b m c = absurd (nothing_of c.one_of)
    completes_by t (w ∷ vs) b m c = completing w vs b m ∙ ap taken (closest_only side _ t (w ∷ vs) (closest_of side w vs) c)

  -- ---- what a run remembers

  remembers_by : (h : List Event) (kept : Option ℤ) (v : ℤ) (n : ℕ) → held side capture h ≡ extreme kept (Some (streak n v)) → Standing h (held side capture h) → (k : ℤ) × (kept ≡ Some k) × Ran side capture h k n v
  unfolding closest_in
  remembers_by h kept v n p (none e) = absurd (none≢some (streak n v) (ap (λ (x : Extreme). x.run) (sym e ∙ p)))
  remembers_by h kept v n p (some k [] s e) = absurd (none≢some (streak n v) (ap (λ (x : Extreme). x.run) (sym e ∙ p)))
  remembers_by h kept v n p (some k (w ∷ vs) s e) =
      let q = sym e ∙ p in
      let many : suc (length vs) ≡ n = ap (λ (x : Extreme). so_many x.run) q in
      let is : closest side (streak_of side vs) w ≡ v = ap (λ (x : Extreme). closest_in x.run v) q in
      (k, sym (ap (λ (x : Extreme). x.kept) q), rw (many, is) at (ran h k w vs s))

  -- ---- a count of 2 or more, and a count of 1

  others : (h : List Event) (k t : ℤ) (run : Ran side capture h k (samples capture) t) → 2 ≤ samples capture → (newer older : List ℤ) (v : ℤ) → run.readings ≡ newer ++ v ∷ older → (1 ≤ length (newer ++ older)) × ((w : ℤ) → OneOf w (newer ++ older) → beyond side t w ≡ false)
  others h k t run two newer older v e =
      let many : suc (length (newer ++ older)) ≡ samples capture = sym (one_less v newer older) ∙ ap length (sym e) ∙ run.so_many in
      (omega arith, λ w o. run.closest.none_nearer w (rw e (with_one w v newer older o)))

  at_once_by : (k v : ℤ) (t : Bool) → beyond side v k ≡ t → samples capture ≡ 1 → sampled side capture (extreme (Some k) None) (Number v) ≡ cond t (taken v) (extreme (Some k) None)
  at_once_by k v true e one = laws.completes side capture k v None e (omega arith)
  at_once_by k v false e one = laws.breaks side capture k v None e

  one_by : (h : List Event) (v : ℤ) → samples capture ≡ 1 → Standing h (held side capture h) → held side capture (sample (Number v) ∷ h) ≡ at_once side (held side capture h).kept v
  unfolding leaves
  one_by h v one (none e) = empty_first h v e ∙ ap (λ (x : Extreme). at_once side x.kept v) (sym e)
  one_by h v one (some k [] s e) =
      holds_next h k v [] e ∙ at_once_by k v (beyond side v k) refl one ∙ ap (λ (x : Extreme). at_once side x.kept v) (sym e)
  one_by h v one (some k (w ∷ vs) s e) = let l = fewer h k (w ∷ vs) e in absurd (omega arith)

  -- ---- all of it

  pub takes_closest : (h : List Event) → Takes side capture h
  takes_closest h =
      record {
        takes = λ r k t p q differs. changes h k t differs r p q;
        completes = λ k t run. rw run.newest (completes_by run.before k run.none_before t run.readings run.each_beyond run.so_many run.closest);
        waits = λ k v n run l. rw run.newest (waits_by run.before k run.none_before v n run.readings run.each_beyond run.so_many run.closest l);
        remembers = λ kept v n p. remembers_by h kept v n p (standing h);
        not_alone = others h;
        one_sample = λ v one. one_by h v one (standing h);
      }
