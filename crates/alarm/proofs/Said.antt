-- What is said of an alarm from its history alone holds of every alarm that follows its course: its run is the number of newest samples that
-- have waited. Assumes nothing.
use mathlib.Core.Path.{◌≡◌, refl, sym, ap, ◌∙◌}
use mathlib.Core.Bool.{Bool, true, false, cond, not, ◌&&◌}
use mathlib.Core.List.{List, [], ◌∷◌}
use mathlib.Core.Logic.{◌≢◌, ◌↔◌}
use mathlib.Core.Option.{Option, none, some}
use Prim.Native.Nat.{ℕ, zero, suc, ◌+◌, ◌-◌, ◌≤◌}
use native.Mathlib.Omega.{arith}
use borrow.Author.Tests.{ltb-true, ltb-false}
use lib.Dec.{ltb}
use lib.IntN.{ℤ}
use Rattle.exact.specs.Sign.{eq_z}
use Rattle.exact.proofs.Z.{never, and_false, eq_z_true, eq_z_refl}
use Rattle.course.specs.Course.{Course, stepped, Follows}
use Rattle.reading.specs.declared.Reading.{Reading}
use Rattle.run.specs.Run.{samples}
use Rattle.run.proofs.Laws.{samples_some}
use Rattle.alarm.specs.declared.Settings.{Settings}
use Rattle.alarm.specs.declared.Alarm.{Alarm}
use Rattle.alarm.specs.Alarm.{alarm, off, on_condition, off_condition, awaited, delay, sampled, reset, written}
use Rattle.alarm.specs.History.{Event, sample, reset_key, setpoint, step}
use Rattle.alarm.specs.Said.{setpoint_by, idle, stated, count, setpoint_after, Waited, begins, one_more, between, Window, Said}
use Rattle.alarm.proofs.Laws.{grows, changes, breaks, setpoint_stays, latched_stays, same_setpoint}

-- ---- one event

-- what holds of a setpoint written with its present value and with a new one holds of any that is written
by_setpoint : (P : Alarm → Type 0) (a : Alarm) (z : ℤ) → (z ≡ a.setpoint → P a) → P (alarm z a.on 0) → P (written a z)
unfolding written
by_setpoint P a z same new = go (eq_z z a.setpoint) refl
  where
    go : (t : Bool) → eq_z z a.setpoint ≡ t → P (cond t a (alarm z a.on 0))
    go true e = same (eq_z_true z a.setpoint e)
    go false e = new

-- what holds of an alarm whose run is broken, goes on or is complete holds of it after a sample
by_sample : (P : Alarm → Type 0) (s : Settings) (a : Alarm) (r : Reading) → (awaited s a r ≡ false → P (alarm a.setpoint a.on 0))
    → (awaited s a r ≡ true → P (alarm a.setpoint a.on (a.run + 1))) → (awaited s a r ≡ true → samples (delay s a) ≤ a.run + 1 → P (alarm a.setpoint (not a.on) 0))
    → P (sampled s a r)
by_sample P s a r broken going complete = go (awaited s a r) (ltb (a.run + 1) (samples (delay s a))) refl refl
  where
    go : (t u : Bool) → awaited s a r ≡ t → ltb (a.run + 1) (samples (delay s a)) ≡ u → P (sampled s a r)
    go false u w e = rw (breaks s a r w) (broken w)
    go true true w e = rw (grows s a r w (ltb-true (a.run + 1) (samples (delay s a)) e)) (going w)
    go true false w e = let h = ltb-false (a.run + 1) (samples (delay s a)) e in rw (changes s a r w h) (complete w h)

turns : (b : Bool) → not b ≡ b → ⊥
turns true e = never e
turns false e = never (sym e)

-- a sample with the awaited condition that leaves the state makes the run one longer
one_longer : (s : Settings) (a : Alarm) (r : Reading) (b : Alarm) → b ≡ sampled s a r → awaited s a r ≡ true → b.on ≡ a.on → b.run ≡ a.run + 1
one_longer s a r b q w t =
    rw q
    (by_sample (λ d. d.on ≡ a.on → d.run ≡ a.run + 1) s a r (λ n _. never (sym n ∙ w)) (λ _ _. refl) (λ _ _ u. absurd (turns a.on u))
    (rw q at t))

-- the setpoint behind an event
step_setpoint : (s : Settings) (a : Alarm) (o : Option Event) → (stepped (step s) a o).setpoint ≡ setpoint_by a.setpoint o
unfolding reset
step_setpoint s a none = refl
step_setpoint s a (some (sample r)) = setpoint_stays s a r
step_setpoint s a (some reset_key) = refl
step_setpoint s a (some (setpoint z)) = by_setpoint (λ b. b.setpoint ≡ z) a z sym refl

-- what is idle leaves the alarm
step_idle : (s : Settings) (a : Alarm) (z : ℤ) (o : Option Event) → a.setpoint ≡ z → idle z o ≡ true → stepped (step s) a o ≡ a
step_idle s a z none p i = refl
step_idle s a z (some (sample r)) p i = never i
step_idle s a z (some reset_key) p i = never i
step_idle s a z (some (setpoint w)) p i = ap (written a) (eq_z_true w z i ∙ sym p) ∙ same_setpoint a

-- the state stays at a setpoint that is written
written_on : (a : Alarm) (z : ℤ) → (written a z).on ≡ a.on
written_on a z = by_setpoint (λ b. b.on ≡ a.on) a z (λ e. refl) refl

-- a latched alarm that is on goes off by a reset alone
latched_by : (s : Settings) → s.latched ≡ true → (a : Alarm) (o : Option Event) → a.on ≡ true → (stepped (step s) a o).on ≡ false → o ≡ some reset_key
latched_by s l a none o t = never (sym t ∙ o)
latched_by s l a (some (sample r)) o t = never (sym t ∙ ap (λ (b : Alarm). b.on) (latched_stays s a r o l))
latched_by s l a (some reset_key) o t = refl
latched_by s l a (some (setpoint z)) o t = never (sym t ∙ written_on a z ∙ o)

-- ---- the stated condition is the awaited one, but for a latched alarm that is on, which awaits none

stated_by : (on latched x y : Bool) → cond on (not latched && x) y ≡ true → cond on x y ≡ true
stated_by true true x y e = never e
stated_by true false x y e = e
stated_by false latched x y e = e

awaited_by : (on latched x y : Bool) → (on && latched) ≡ false → cond on x y ≡ true → cond on (not latched && x) y ≡ true
awaited_by true true x y l e = never (sym l)
awaited_by true false x y l e = e
awaited_by false latched x y l e = e

module _ (s : Settings) (a : Alarm) (z : ℤ) (p : a.setpoint ≡ z) (r : Reading) where
  is_stated : awaited s a r ≡ true → stated s a.on z r ≡ true
  unfolding awaited on_condition off_condition
  is_stated w = rw (← p) (stated_by a.on s.latched _ _ w)

  is_awaited : (a.on && s.latched) ≡ false → stated s a.on z r ≡ true → awaited s a r ≡ true
  unfolding awaited on_condition off_condition
  is_awaited l w = awaited_by a.on s.latched _ _ l (rw (← p) at w)

-- ---- an alarm that follows a course

module _ (s : Settings) (c : Course Event) (first : ℤ) (state : List c.Entry → Alarm) (f : Follows (step s) (off first) c state) where
  abbrev on : List c.Entry → Bool
  on h = (state h).on

  abbrev setpoint_of : List c.Entry → ℤ
  setpoint_of h = setpoint_after c first h

  -- what an entry makes of it
  goes_by : (h : List c.Entry) (e : c.Entry) (o : Option Event) → c.what h e ≡ o → state (e ∷ h) ≡ stepped (step s) (state h) o
  goes_by h e o q = f.goes h e ∙ ap (stepped (step s) (state h)) q

  pub setpoint_is : (h : List c.Entry) → (state h).setpoint ≡ setpoint_of h
  setpoint_is [] = ap (λ (a : Alarm). a.setpoint) f.starts
  setpoint_is (e ∷ h) =
      ap (λ (a : Alarm). a.setpoint) (f.goes h e) ∙ step_setpoint s (state h) (c.what h e) ∙ ap (λ (z : ℤ). setpoint_by z (c.what h e)) (setpoint_is h)

  stays_idle : (h : List c.Entry) (e : c.Entry) → idle (setpoint_of h) (c.what h e) ≡ true → state (e ∷ h) ≡ state h
  stays_idle h e i = f.goes h e ∙ step_idle s (state h) (setpoint_of h) (c.what h e) (setpoint_is h) i

  -- ---- its run is so many samples that have waited

  waited_run : {n : ℕ} {h : List c.Entry} → Waited s c first on n h → (on h && s.latched) ≡ false → n ≤ (state h).run
  waited_run begins l = omega arith
  waited_run (one_more {n} {h} {e} {r} m a q w) l =
      let k : (on h && s.latched) ≡ false = ap (λ (b : Bool). b && s.latched) (sym q) ∙ l in
      let i = waited_run w k in
      let j = one_longer s (state h) r _ (goes_by h e (some (sample r)) m) (is_awaited s (state h) (setpoint_of h) (setpoint_is h) r k a) q in
      omega arith
  waited_run (between {n} {h} {e} i q w) l = rw (stays_idle h e i) (waited_run w (rw q at l))

  -- a sample that leaves a run of one or more has made it one longer
  longer_waited : (h : List c.Entry) (e : c.Entry) (r : Reading) (n : ℕ) → c.what h e ≡ some (sample r) → (n ≤ (state h).run → Waited s c first on n h)
      → suc n ≤ (sampled s (state h) r).run → Waited s c first on (suc n) (e ∷ h)
  longer_waited h e r n q w =
      let g = goes_by h e (some (sample r)) q in
      by_sample (λ b. state (e ∷ h) ≡ b → suc n ≤ b.run → Waited s c first on (suc n) (e ∷ h)) s (state h) r
      (λ _ _ le. absurd (omega arith))
      (λ a i le. one_more q (is_stated s (state h) (setpoint_of h) (setpoint_is h) r a) (ap (λ (b : Alarm). b.on) i) (w (omega arith)))
      (λ _ _ _ le. absurd (omega arith))
      g

  -- so does what is idle, with the run that there was
  idle_waited : (h : List c.Entry) (e : c.Entry) (n : ℕ) → idle (setpoint_of h) (c.what h e) ≡ true → ((k : ℕ) → k ≤ (state h).run → Waited s c first on k h)
      → suc n ≤ (state (e ∷ h)).run → Waited s c first on (suc n) (e ∷ h)
  idle_waited h e n i w le =
      let q = stays_idle h e i in
      between i (ap (λ (a : Alarm). a.on) q) (w (suc n) (rw q at le))

  event_waited : (h : List c.Entry) (e : c.Entry) (n : ℕ) (o : Option Event) → c.what h e ≡ o → ((k : ℕ) → k ≤ (state h).run → Waited s c first on k h)
      → suc n ≤ (state (e ∷ h)).run → Waited s c first on (suc n) (e ∷ h)
  unfolding reset
  event_waited h e n none q w le = idle_waited h e n (rw q refl) w le
  event_waited h e n (some (sample r)) q w le = longer_waited h e r n q (w n) (rw (goes_by h e (some (sample r)) q) at le)
  event_waited h e n (some reset_key) q w le = let i : (state (e ∷ h)).run ≡ 0 = ap (λ (a : Alarm). a.run) (goes_by h e (some reset_key) q) in absurd (omega arith)
  event_waited h e n (some (setpoint z)) q w le =
      by_setpoint (λ b. suc n ≤ b.run → Waited s c first on (suc n) (e ∷ h)) (state h) z
      (λ p _. idle_waited h e n (rw (q, p, setpoint_is h) (eq_z_refl (setpoint_of h))) w le)
      (λ k. absurd (omega arith))
      (rw (goes_by h e (some (setpoint z)) q) at le)

  entry_waited : (h : List c.Entry) (e : c.Entry) (n : ℕ) → ((k : ℕ) → k ≤ (state h).run → Waited s c first on k h) → n ≤ (state (e ∷ h)).run
      → Waited s c first on n (e ∷ h)
  entry_waited h e zero w le = begins
  entry_waited h e (suc n) w le = event_waited h e n (c.what h e) refl w le

  starts_waited : (n : ℕ) → n ≤ 0 → Waited s c first on n []
  starts_waited zero le = begins
  starts_waited (suc n) le = absurd (omega arith)

  -- and so many have
  run_waited : (h : List c.Entry) (n : ℕ) → n ≤ (state h).run → Waited s c first on n h
  run_waited [] n le = starts_waited n (rw f.starts at le)
  run_waited (e ∷ h) n le = entry_waited h e n (λ k. run_waited h k) le

  -- ---- when it changes

  -- a sample at which so many have waited that it completes the count
  changing : (h : List c.Entry) (e : c.Entry) → (on h && s.latched) ≡ false → Window s c first on (count s (on h)) h e → on (e ∷ h) ≡ not (on h)
  unfolding delay
  changing h e l w =
      let r = w.reading in
      let le = waited_run w.waited l in
      let g = goes_by h e (some (sample r)) w.sampled in
      ap (λ (a : Alarm). a.on) (g ∙ changes s (state h) r (is_awaited s (state h) (setpoint_of h) (setpoint_is h) r l w.holds) (omega (arith, w.together)))

  -- a sample that changes it is one
  changed : (h : List c.Entry) (e : c.Entry) (r : Reading) → c.what h e ≡ some (sample r) → on (e ∷ h) ≢ on h → Window s c first on (count s (on h)) h e
  unfolding delay
  changed h e r q d =
      by_sample (λ b. b.on ≢ on h → Window s c first on (count s (on h)) h e) s (state h) r
      (λ _ n. absurd (n refl))
      (λ _ n. absurd (n refl))
      (λ a le _. record {
        reading = r;
        sampled = q;
        holds = is_stated s (state h) (setpoint_of h) (setpoint_is h) r a;
        earlier = count s (on h) - 1;
        waited = run_waited h (count s (on h) - 1) (omega arith);
        together = omega (arith, samples_some (cond (on h) s.off_delay s.on_delay));
      })
      (λ n. d (ap (λ (a : Alarm). a.on) (goes_by h e (some (sample r)) q) ∙ n))

  unlatched : s.latched ≡ false → (h : List c.Entry) (e : c.Entry) (r : Reading) → c.what h e ≡ some (sample r)
      → (on (e ∷ h) ≢ on h) ↔ Window s c first on (count s (on h)) h e
  unlatched l h e r q = (changed h e r q, λ w t. turns (on h) (sym (changing h e (rw l (and_false (on h))) w) ∙ t))

  goes_on : (h : List c.Entry) (e : c.Entry) (r : Reading) → c.what h e ≡ some (sample r) → on h ≡ false → (on (e ∷ h) ≡ true) ↔ Window s c first on (count s false) h e
  goes_on h e r q o =
      (λ t. rw o at (changed h e r q (λ u. never (sym o ∙ sym u ∙ t))), λ w. changing h e (rw o refl) (rw o w) ∙ ap not o)

  latched : s.latched ≡ true → (h : List c.Entry) (e : c.Entry) → on h ≡ true → on (e ∷ h) ≡ false → c.what h e ≡ some reset_key
  latched l h e o t = latched_by s l (state h) (c.what h e) o (ap (λ (a : Alarm). a.on) (sym (f.goes h e)) ∙ t)

pub said : (s : Settings) (c : Course Event) (first : ℤ) (state : List c.Entry → Alarm) → Follows (step s) (off first) c state → Said s c first (λ h. (state h).on)
unfolding reset
said s c first state f =
    record {
      powered_up = ap (λ (a : Alarm). a.on) f.starts;
      changes = unlatched s c first state f;
      goes_on = goes_on s c first state f;
      latched = latched s c first state f;
      reset = λ h e q. ap (λ (a : Alarm). a.on) (goes_by s c first state f h e (some reset_key) q);
      setpoint_leaves = λ h e z q. ap (λ (a : Alarm). a.on) (goes_by s c first state f h e (some (setpoint z)) q) ∙ written_on (state h) z;
      nothing_leaves = λ h e q. ap (λ (a : Alarm). a.on) (goes_by s c first state f h e none q);
    }
