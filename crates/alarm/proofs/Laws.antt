-- What makes the definition of an alarm believed. Assumes nothing.
use mathlib.Core.Path.{◌≡◌, refl, ap, ◌∙◌}
use mathlib.Core.Bool.{Bool, true, false, cond, not}
use mathlib.Core.List.{List, [], ◌∷◌}
use Prim.Native.Nat.{ℕ, zero, suc, ◌+◌, ◌≤◌, ◌<◌}
use native.Mathlib.Omega.{arith}
use lib.IntN.{ℤ, pos, negsuc, ◌+ℤ◌, ◌-ℤ◌}
use lib.ListN.{length}
use lib.Signed.{le_z}
use Rattle.exact.specs.Sign.{minus}
use Rattle.exact.proofs.Z.{never, eq_z_refl, eq_z_false, lt_self, lt_not_le, lt_le_le, le_add, sub_le, lt_add, sub_lt, le_next, le_before}
use Rattle.reading.specs.declared.Reading.{Reading}
use Rattle.reading.specs.declared.Reading.TheVariants.{Nothing, Under, Number, Over}
use Rattle.run.specs.Run.{samples, counted}
use Rattle.run.specs.Successive.{left}
use Rattle.run.specs.declared.Run.{Run}
use Rattle.run.specs.declared.Run.TheVariants.{Broken, Going, Complete}
use Rattle.run.proofs.Laws as runs
use Rattle.alarm.specs.declared.Settings.{Settings}
use Rattle.alarm.specs.declared.Alarm.{Alarm}
use Rattle.alarm.specs.Alarm.{alarm, above, below, at_most, at_least, on_condition, off_condition, awaited, delay, moved, sampled, off, reset, written}
use Rattle.alarm.specs.Cases.{after}

-- ---- one sample

module _ (s : Settings) (a : Alarm) (r : Reading) where
  -- the run says what becomes of the alarm
  by_run : (b : Bool) (u : Run) → awaited s a r ≡ b → counted a.run b (samples (delay s a)) ≡ u → sampled s a r ≡ moved a u
  unfolding sampled
  by_run b u w e = ap (λ (t : Bool). moved a (counted a.run t (samples (delay s a)))) w ∙ ap (moved a) e

  -- where the awaited condition holds and the run stays below its count, the run grows by one
  pub grows : awaited s a r ≡ true → a.run + 1 < samples (delay s a) → sampled s a r ≡ alarm a.setpoint a.on (a.run + 1)
  unfolding moved
  grows w h = by_run true (Going (a.run + 1)) w (runs.grows a.run (samples (delay s a)) h)

  -- at the count the state changes and the run is 0
  pub changes : awaited s a r ≡ true → samples (delay s a) ≤ a.run + 1 → sampled s a r ≡ alarm a.setpoint (not a.on) 0
  unfolding moved
  changes w h = by_run true Complete w (runs.completes a.run (samples (delay s a)) h)

  -- any other sample makes the run 0 and leaves the state
  pub breaks : awaited s a r ≡ false → sampled s a r ≡ alarm a.setpoint a.on 0
  unfolding moved
  breaks w = by_run false Broken w (runs.breaks a.run (samples (delay s a)))

-- no sample changes the setpoint
pub setpoint_stays : (s : Settings) (a : Alarm) (r : Reading) → (sampled s a r).setpoint ≡ a.setpoint
unfolding sampled moved
setpoint_stays s a r = go (counted a.run (awaited s a r) (samples (delay s a)))
  where
    go : (u : Run) → (moved a u).setpoint ≡ a.setpoint
    go Broken = refl
    go (Going n) = refl
    go Complete = refl

below_by : (s : Settings) (a : Alarm) (u : Run) → left u < samples (delay s a) → (moved a u).run < samples (delay s (moved a u))
unfolding moved delay left
below_by s a Broken h = h
below_by s a (Going n) h = h
below_by s a Complete h = runs.samples_some (cond (not a.on) s.off_delay s.on_delay)

-- the run always stays below the count of the delay that the alarm then waits for
pub stays_below : (s : Settings) (a : Alarm) (r : Reading) → (sampled s a r).run < samples (delay s (sampled s a r))
unfolding sampled
stays_below s a r =
    below_by s a (counted a.run (awaited s a r) (samples (delay s a)))
    (runs.left_below a.run (awaited s a r) (samples (delay s a)) (runs.samples_some (delay s a)))

-- ---- successive samples

-- each of the readings meets the condition that the alarm waits for
abbrev pub EachAwaited : Settings → Alarm → List Reading → Type 0
EachAwaited s a [] = Unit {0}
EachAwaited s a (r ∷ rs) = (awaited s a r ≡ true) × EachAwaited s a rs

-- so many successive samples with the awaited condition make the run so much longer, while it stays below its count
pub waits : (s : Settings) (p : ℤ) (o : Bool) (n : ℕ) (rs : List Reading) → EachAwaited s (alarm p o 0) rs → n + length rs < samples (delay s (alarm p o 0)) → after s (alarm p o n) rs ≡ alarm p o (n + length rs)
unfolding after awaited on_condition off_condition delay
waits s p o n [] e h = ap (alarm p o) (omega arith)
waits s p o n (r ∷ rs) e h =
    ap (λ (a : Alarm). after s a rs) (grows s (alarm p o n) r e.0 (omega arith))
    ∙ waits s p o (n + 1) rs e.1 (omega arith)
    ∙ ap (alarm p o) (omega arith)

-- from run 0, as after a reset, the alarm changes its state at the sample that makes up the count, and at none before
pub changes_at : (s : Settings) (p : ℤ) (o : Bool) (rs : List Reading) (r : Reading) → EachAwaited s (alarm p o 0) rs → awaited s (alarm p o 0) r ≡ true → length rs + 1 ≡ samples (delay s (alarm p o 0)) → sampled s (after s (alarm p o 0) rs) r ≡ alarm p (not o) 0
unfolding awaited on_condition off_condition delay
changes_at s p o rs r e w h =
    ap (λ (a : Alarm). sampled s a r) (waits s p o 0 rs e (omega arith))
    ∙ changes s (alarm p o (0 + length rs)) r w (omega arith)

-- ---- a latched alarm

-- while on it waits for nothing
pub latched_waits : (s : Settings) (a : Alarm) (r : Reading) → a.on ≡ true → s.latched ≡ true → awaited s a r ≡ false
unfolding awaited
latched_waits s a r o l = rw (o, l)

-- while on it stays on, with run 0
pub latched_stays : (s : Settings) (a : Alarm) (r : Reading) → a.on ≡ true → s.latched ≡ true → sampled s a r ≡ alarm a.setpoint true 0
latched_stays s a r o l = breaks s a r (latched_waits s a r o l) ∙ ap (λ (b : Bool). alarm a.setpoint b 0) o

-- and so through any number of samples
pub latched_through : (s : Settings) (a : Alarm) (rs : List Reading) → a.on ≡ true → s.latched ≡ true → (after s a rs).on ≡ true
unfolding after
latched_through s a [] o l = o
latched_through s a (r ∷ rs) o l = latched_through s (sampled s a r) rs (ap (λ (b : Alarm). b.on) (latched_stays s a r o l)) l

-- ---- a written setpoint

-- the present value changes nothing
pub same_setpoint : (a : Alarm) → written a a.setpoint ≡ a
unfolding written
same_setpoint a = rw (eq_z_refl a.setpoint)

-- a new value makes the run 0 and leaves the state
pub new_setpoint : (a : Alarm) (z : ℤ) → (z ≡ a.setpoint → ⊥) → written a z ≡ alarm z a.on 0
unfolding written
new_setpoint a z h = ap (λ (t : Bool). cond t a (alarm z a.on 0)) (eq_z_false z a.setpoint h)

-- ---- a reset

-- the state is off and the run 0, whichever state it was in; the setpoint stays
pub reset_off : (setpoint : ℤ) (on : Bool) (run : ℕ) → reset (alarm setpoint on run) ≡ off setpoint
unfolding reset
reset_off setpoint on run = refl

-- ---- the conditions

-- a reading is at most z where it is below z + 1
pub at_most_below : (r : Reading) (z : ℤ) → at_most r z ≡ below r (z +ℤ pos 1)
unfolding at_most below
at_most_below Nothing z = refl
at_most_below Under z = refl
at_most_below (Number v) z = le_next v z
at_most_below Over z = refl

-- and at least z where it is above z - 1
pub at_least_above : (r : Reading) (z : ℤ) → at_least r z ≡ above r (z -ℤ pos 1)
unfolding at_least above
at_least_above Nothing z = refl
at_least_above Under z = refl
at_least_above (Number v) z = le_before z v
at_least_above Over z = refl

-- nothing meets neither of them
pub nothing_meets_none : (s : Settings) (a : Alarm) → (on_condition s a Nothing ≡ false) × (off_condition s a Nothing ≡ false)
unfolding on_condition off_condition above below at_most at_least
nothing_meets_none s a = (same s.low_acting, same s.low_acting)
  where
    same : (t : Bool) → cond t false false ≡ false
    same true = refl
    same false = refl

clash : (low : Bool) (r : Reading) (p h : ℤ) → le_z (pos 0) h ≡ true → cond low (below r p) (above r p) ≡ true → cond low (at_least r (p +ℤ h)) (at_most r (p -ℤ h)) ≡ true → ⊥
unfolding above below at_most at_least
clash true Nothing p h e on off = never on
clash true Under p h e on off = never off
clash true (Number v) p (pos n) e on off = lt_le_le v p (p +ℤ pos n) on (le_add p n) off
clash true (Number v) p (negsuc n) e on off = never e
clash true Over p h e on off = never on
clash false Nothing p h e on off = never on
clash false Under p h e on off = never on
clash false (Number v) p (pos n) e on off = lt_le_le p v (p -ℤ pos n) on off (sub_le p n)
clash false (Number v) p (negsuc n) e on off = never e
clash false Over p h e on off = never off

-- they never hold together where the hysteresis is not below zero, as configuration rule 8 has it
pub never_both : (s : Settings) (a : Alarm) (r : Reading) → le_z (pos 0) s.hysteresis ≡ true → on_condition s a r ≡ true → off_condition s a r ≡ true → ⊥
unfolding on_condition off_condition
never_both s a r e on off = clash s.low_acting r a.setpoint s.hysteresis e on off

-- below zero they can: nothing but the hysteresis keeps them apart
pub both_below_zero : (on_condition (record { hysteresis = minus 1; on_delay = pos 0; off_delay = pos 0; low_acting = false; latched = false }) (alarm (pos 100) false 0) (Number (pos 101)) ≡ true) × (off_condition (record { hysteresis = minus 1; on_delay = pos 0; off_delay = pos 0; low_acting = false; latched = false }) (alarm (pos 100) false 0) (Number (pos 101)) ≡ true)
unfolding on_condition off_condition above at_most
both_below_zero = (refl, refl)

apart : (low : Bool) (p h : ℤ) → le_z (pos 1) h ≡ true → (cond low (below (Number p) p) (above (Number p) p) ≡ false) × (cond low (at_least (Number p) (p +ℤ h)) (at_most (Number p) (p -ℤ h)) ≡ false)
unfolding above below at_most at_least
apart true p (pos (suc n)) e = (lt_self p, lt_not_le p (p +ℤ pos (suc n)) (lt_add p n))
apart true p (pos zero) e = never e
apart true p (negsuc n) e = never e
apart false p (pos (suc n)) e = (lt_self p, lt_not_le (p -ℤ pos (suc n)) p (sub_lt p n))
apart false p (pos zero) e = never e
apart false p (negsuc n) e = never e

-- where it is at least 1, neither holds at the setpoint
pub none_at_setpoint : (s : Settings) (a : Alarm) → le_z (pos 1) s.hysteresis ≡ true → (on_condition s a (Number a.setpoint) ≡ false) × (off_condition s a (Number a.setpoint) ≡ false)
unfolding on_condition off_condition
none_at_setpoint s a e = apart s.low_acting a.setpoint s.hysteresis e
