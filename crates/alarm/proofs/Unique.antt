-- The sentences leave nothing open: two alarms of which the same is said, on one course and with one setpoint at power-up, are on after the
-- same histories. Assumes nothing.
use mathlib.Core.Path.{◌≡◌, refl, sym, ◌∙◌}
use mathlib.Core.Bool.{Bool, true, false}
use mathlib.Core.List.{List, [], ◌∷◌}
use mathlib.Core.Logic.{◌≢◌, ◌↔◌}
use mathlib.Core.Option.{Option, none, some}
use Prim.Native.Nat.{ℕ}
use native.Mathlib.Omega.{arith}
use lib.IntN.{ℤ}
use Rattle.exact.proofs.Z.{never}
use Rattle.course.specs.Course.{Course}
use Rattle.reading.specs.declared.Reading.{Reading}
use Rattle.alarm.specs.declared.Settings.{Settings}
use Rattle.alarm.specs.History.{Event, sample, reset_key, setpoint}
use Rattle.alarm.specs.Said.{count, holds_after, Waited, begins, one_more, between, Window, Said}

-- what differs from one bit exactly where another does is that other
same_bit : (a b d : Bool) → (a ≢ d → b ≢ d) → (b ≢ d → a ≢ d) → a ≡ b
same_bit true true d f g = refl
same_bit false false d f g = refl
same_bit true false true f g = absurd (g (λ e. never e) refl)
same_bit true false false f g = absurd (f (λ e. never (sym e)) refl)
same_bit false true true f g = absurd (f (λ e. never e) refl)
same_bit false true false f g = absurd (g (λ e. never (sym e)) refl)

is_on : (b : Bool) → b ≢ false → b ≡ true
is_on true n = refl
is_on false n = absurd (n refl)

not_off : (b : Bool) → b ≡ true → b ≢ false
not_off b e n = never (sym n ∙ e)

module _ (s : Settings) (c : Course Event) (first : ℤ) (on₁ on₂ : List c.Entry → Bool) where
  -- the two agree on a history and on all that came before it
  abbrev Agree : List c.Entry → Type 0
  Agree [] = on₁ [] ≡ on₂ []
  Agree (e ∷ h) = (on₁ (e ∷ h) ≡ on₂ (e ∷ h)) × Agree h

  agreed : (h : List c.Entry) → Agree h → on₁ h ≡ on₂ h
  agreed [] a = a
  agreed (e ∷ h) a = a.0

  holds_too : (h : List c.Entry) (r : Reading) → on₁ h ≡ on₂ h → holds_after s c first on₁ h r ≡ true → holds_after s c first on₂ h r ≡ true
  holds_too h r a m = rw (← a) m

  stays_too : (e : c.Entry) (h : List c.Entry) → Agree (e ∷ h) → on₁ (e ∷ h) ≡ on₁ h → on₂ (e ∷ h) ≡ on₂ h
  stays_too e h a q = sym a.0 ∙ q ∙ agreed h a.1

  waited_too : {n : ℕ} {h : List c.Entry} → Agree h → Waited s c first on₁ n h → Waited s c first on₂ n h
  waited_too a begins = begins
  waited_too a (one_more {n} {h} {e} {r} m x q w) = one_more m (holds_too h r (agreed h a.1) x) (stays_too e h a q) (waited_too a.1 w)
  waited_too a (between {n} {h} {e} i q w) = between i (stays_too e h a q) (waited_too a.1 w)

  window_too : (n : ℕ) (h : List c.Entry) (e : c.Entry) → Agree h → Window s c first on₁ n h e → Window s c first on₂ n h e
  window_too n h e a w =
      record {
        reading = w.reading;
        sampled = w.sampled;
        holds = holds_too h w.reading (agreed h a) w.holds;
        earlier = w.earlier;
        waited = waited_too a w.waited;
        together = w.together;
      }

turned : (c : Course Event) (on₁ on₂ : List c.Entry → Bool) → (s : Settings) (first : ℤ) (h : List c.Entry) → Agree s c first on₁ on₂ h → Agree s c first on₂ on₁ h
turned c on₁ on₂ s first [] a = sym a
turned c on₁ on₂ s first (e ∷ h) a = (sym a.0, turned c on₁ on₂ s first h a.1)

module _ (s : Settings) (c : Course Event) (first : ℤ) (on₁ on₂ : List c.Entry → Bool) (p : Said s c first on₁) (q : Said s c first on₂) where
  module _ (h : List c.Entry) (e : c.Entry) (a : Agree s c first on₁ on₂ h) where
    there : (n : ℕ) → Window s c first on₁ n h e → Window s c first on₂ n h e
    there n = window_too s c first on₁ on₂ n h e a

    back : (n : ℕ) → Window s c first on₂ n h e → Window s c first on₁ n h e
    back n = window_too s c first on₂ on₁ n h e (turned c on₁ on₂ s first h a)

    before : on₁ h ≡ on₂ h
    before = agreed s c first on₁ on₂ h a

    unlatched_same : s.latched ≡ false → (r : Reading) → c.what h e ≡ some (sample r) → on₁ (e ∷ h) ≡ on₂ (e ∷ h)
    unlatched_same l r w =
        let x = p.changes l h e r w in
        let y : (on₂ (e ∷ h) ≢ on₁ h) ↔ Window s c first on₂ (count s (on₁ h)) h e = rw before (q.changes l h e r w) in
        same_bit (on₁ (e ∷ h)) (on₂ (e ∷ h)) (on₁ h) (λ d. y.1 (there (count s (on₁ h)) (x.0 d))) (λ d. x.1 (back (count s (on₁ h)) (y.0 d)))

    off_same : on₁ h ≡ false → (r : Reading) → c.what h e ≡ some (sample r) → on₁ (e ∷ h) ≡ on₂ (e ∷ h)
    off_same o r w =
        let x = p.goes_on h e r w o in
        let y = q.goes_on h e r w (sym before ∙ o) in
        same_bit (on₁ (e ∷ h)) (on₂ (e ∷ h)) false
        (λ d. not_off (on₂ (e ∷ h)) (y.1 (there (count s false) (x.0 (is_on (on₁ (e ∷ h)) d)))))
        (λ d. not_off (on₁ (e ∷ h)) (x.1 (back (count s false) (y.0 (is_on (on₂ (e ∷ h)) d)))))

    -- latched and on, both stay on
    latched_same : s.latched ≡ true → on₁ h ≡ true → (r : Reading) → c.what h e ≡ some (sample r) → on₁ (e ∷ h) ≡ on₂ (e ∷ h)
    latched_same l o r w =
        is_on (on₁ (e ∷ h)) (λ n. no_reset (sym w ∙ p.latched l h e o n))
        ∙ sym (is_on (on₂ (e ∷ h)) (λ n. no_reset (sym w ∙ q.latched l h e (sym before ∙ o) n)))
      where
        no_reset : some (sample r) ≡ some reset_key → ⊥
        no_reset x = let z : ◌≡◌ {A = ℕ} 0 1 = cc in omega arith

    sampled_same : (l o : Bool) → s.latched ≡ l → on₁ h ≡ o → (r : Reading) → c.what h e ≡ some (sample r) → on₁ (e ∷ h) ≡ on₂ (e ∷ h)
    sampled_same false o x y = unlatched_same x
    sampled_same true false x y = off_same y
    sampled_same true true x y = latched_same x y

    event_same : (o : Option Event) → c.what h e ≡ o → on₁ (e ∷ h) ≡ on₂ (e ∷ h)
    event_same none w = p.nothing_leaves h e w ∙ before ∙ sym (q.nothing_leaves h e w)
    event_same (some (sample r)) w = sampled_same s.latched (on₁ h) refl refl r w
    event_same (some reset_key) w = p.reset h e w ∙ sym (q.reset h e w)
    event_same (some (setpoint z)) w = p.setpoint_leaves h e z w ∙ before ∙ sym (q.setpoint_leaves h e z w)

  agree : (h : List c.Entry) → Agree s c first on₁ on₂ h
  agree [] = p.powered_up ∙ sym q.powered_up
  agree (e ∷ h) = (event_same h e (agree h) (c.what h e) refl, agree h)

  pub alone : (h : List c.Entry) → on₁ h ≡ on₂ h
  alone h = agreed s c first on₁ on₂ h (agree h)
