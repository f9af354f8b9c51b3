-- An alarm said from its history alone: when it changes, and when it does not. No run occurs here.
use Rattle.std.specs.Prelude.{◌≡◌, Bool, true, false, cond, List, [], ◌∷◌, ◌≢◌, ◌↔◌, ℕ, suc, ℤ}
use Rattle.std.proofs.Math.Option.{Option, none, some}
use Rattle.exact.specs.Sign.{eq_z}
use Rattle.course.specs.Course.{Course}
use Rattle.reading.specs.declared.Reading.{Reading}
use Rattle.run.specs.Run.{samples}
use Rattle.alarm.specs.declared.Settings.{Settings}
use Rattle.alarm.specs.Alarm.{off, on_condition, off_condition}
use Rattle.alarm.specs.History.{Event, sample, reset_key, setpoint}

-- the setpoint behind an event
abbrev pub setpoint_by : ℤ → Option Event → ℤ
setpoint_by z none = z
setpoint_by z (some (sample r)) = z
setpoint_by z (some reset_key) = z
setpoint_by z (some (setpoint w)) = w

-- what leaves an alarm's delay alone: what is nothing to the alarm, and its present setpoint z, written again
abbrev pub idle : ℤ → Option Event → Bool
idle z none = true
idle z (some (sample r)) = false
idle z (some reset_key) = false
idle z (some (setpoint w)) = eq_z w z

-- the condition that is stated for a state and a setpoint: while off the on-condition, while on the off-condition
abbrev pub stated : Settings → Bool → ℤ → Reading → Bool
stated s on z r = cond on (off_condition s (off z) r) (on_condition s (off z) r)

-- how many samples the delay of a state counts: the on delay while off, the off delay while on
abbrev pub count : Settings → Bool → ℕ
count s on = samples (cond on s.off_delay s.on_delay)

-- the setpoint of an alarm after a history: the one that was written last, or that of power-up
abbrev pub setpoint_after : (c : Course Event) → ℤ → List c.Entry → ℤ
setpoint_after c first [] = first
setpoint_after c first (e ∷ h) = setpoint_by (setpoint_after c first h) (c.what h e)

-- of an alarm with settings s, its setpoint at power-up, and whether it is on after each history
module _ (s : Settings) (c : Course Event) (first : ℤ) (on : List c.Entry → Bool) where
  -- the condition that is stated for the state and the setpoint which the alarm has after h holds at a reading
  abbrev pub holds_after : List c.Entry → Reading → Bool
  holds_after h r = stated s (on h) (setpoint_after c first h) r

  -- `Waited n h`: the condition held at each of the last n samples of h, and since the first of them there was no change of state, no
  -- reset and no new setpoint
  pub data Waited : ℕ → List c.Entry → Type 0 where
    begins : {h : List c.Entry} → Waited 0 h
    one_more : {n : ℕ} {h : List c.Entry} {e : c.Entry} {r : Reading} → c.what h e ≡ some (sample r) → holds_after h r ≡ true → on (e ∷ h) ≡ on h → Waited n h
        → Waited (suc n) (e ∷ h)
    between : {n : ℕ} {h : List c.Entry} {e : c.Entry} → idle (setpoint_after c first h) (c.what h e) ≡ true → on (e ∷ h) ≡ on h → Waited (suc n) h
        → Waited (suc n) (e ∷ h)

  -- the condition held at each of the last n samples, of which e behind h is the newest, with no earlier change of state, reset or new
  -- setpoint since the first of them
  pub record Window (n : ℕ) (h : List c.Entry) (e : c.Entry) : Type 0 where
    pub reading : Reading
    pub sampled : c.what h e ≡ some (sample reading)
    pub holds : holds_after h reading ≡ true
    pub earlier : ℕ
    pub waited : Waited earlier h
    pub together : suc earlier ≡ n

  pub record Said : Type 0 where
    -- off at power-up
    pub powered_up : on [] ≡ false
    -- unlatched: it changes at a sample exactly where the condition held at each of the last samples, as many as the delay of its state
    -- counts, with no earlier change of state, reset or new setpoint since the first of them
    pub changes : s.latched ≡ false → (h : List c.Entry) (e : c.Entry) (r : Reading) → c.what h e ≡ some (sample r)
        → (on (e ∷ h) ≢ on h) ↔ Window (count s (on h)) h e
    -- latched or not, it goes on so
    pub goes_on : (h : List c.Entry) (e : c.Entry) (r : Reading) → c.what h e ≡ some (sample r) → on h ≡ false
        → (on (e ∷ h) ≡ true) ↔ Window (count s false) h e
    -- latched: on, it goes off only by a reset
    pub latched : s.latched ≡ true → (h : List c.Entry) (e : c.Entry) → on h ≡ true → on (e ∷ h) ≡ false → c.what h e ≡ some reset_key
    -- a reset makes it off, whichever state it was in
    pub reset : (h : List c.Entry) (e : c.Entry) → c.what h e ≡ some reset_key → on (e ∷ h) ≡ false
    -- it changes at nothing else: at no setpoint, present or new, and at nothing that is nothing to it
    pub setpoint_leaves : (h : List c.Entry) (e : c.Entry) (z : ℤ) → c.what h e ≡ some (setpoint z) → on (e ∷ h) ≡ on h
    pub nothing_leaves : (h : List c.Entry) (e : c.Entry) → c.what h e ≡ none → on (e ∷ h) ≡ on h
