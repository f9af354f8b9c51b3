-- Worked excursions: what comes to an alarm, and the excursions that it makes.
use Rattle.std.specs.Prelude.{Bool, true, false, List, [], ◌∷◌, ℕ, ℤ, pos}
use Rattle.reading.specs.declared.Reading.TheVariants.{Number}
use Rattle.alarm.specs.declared.Settings.{Settings}
use Rattle.alarm.specs.History.{Event, sample, reset_key, setpoint, after_all, own}
use Rattle.alarm.specs.Excursions.{Excursion, excursion, still_on, at_sample, by_reset, excursions}

-- settings, the setpoint at power-up, the events with the newest first, and the excursions with the newest first
pub record ExcursionCase : Type 0 where
  pub settings : Settings
  pub first : ℤ
  pub events : List Event
  pub excursions : List Excursion

-- high acting, hysteresis 10, and as many tenths of a second for each delay
abbrev delayed : ℕ → Bool → Settings
delayed tenths latched =
    record { hysteresis = pos 10; on_delay = pos tenths; off_delay = pos tenths; low_acting = false; latched = latched }

abbrev at : ℕ → Event
at v = sample (Number (pos v))

unfoldable pub excursion_cases : List ExcursionCase
excursion_cases =
    -- two samples for each delay; the setpoint is 50, so that it goes on above 50 and off at 40 and below
    -- 60, 60: on at the second; 40, the present setpoint written again, 40: off at the fourth
    record {
      settings = delayed 1 false;
      first = pos 50;
      events = at 40 ∷ setpoint (pos 50) ∷ at 40 ∷ at 60 ∷ at 60 ∷ [];
      excursions = excursion 2 2 (at_sample 4) ∷ [];
    }
    -- then 60, 90: on at the sixth; 40, a new setpoint, 40, 40: off at the ninth, a sample later than without it; 60, 60 and a reset
    ∷ record {
      settings = delayed 1 false;
      first = pos 50;
      events =
          reset_key ∷ at 60 ∷ at 60 ∷ at 40 ∷ at 40 ∷ setpoint (pos 55) ∷ at 40 ∷ at 90 ∷ at 60 ∷ at 40 ∷ setpoint (pos 50) ∷ at 40 ∷ at 60 ∷ at 60 ∷ [];
      excursions = excursion 11 1 (by_reset 11) ∷ excursion 6 3 (at_sample 9) ∷ excursion 2 2 (at_sample 4) ∷ [];
    }
    -- latched: on through readings of 40 until its reset
    ∷ record {
      settings = delayed 0 true;
      first = pos 80;
      events = reset_key ∷ at 40 ∷ at 60 ∷ at 40 ∷ at 90 ∷ at 60 ∷ [];
      excursions = excursion 2 4 (by_reset 5) ∷ [];
    }
    -- a reset begins the delay anew while the alarm is off; then it stays on
    ∷ record {
      settings = delayed 1 false;
      first = pos 50;
      events = at 60 ∷ at 60 ∷ reset_key ∷ at 60 ∷ [];
      excursions = excursion 3 1 still_on ∷ [];
    }
    -- one sample off its condition begins the off delay anew
    ∷ record {
      settings = delayed 1 false;
      first = pos 50;
      events = at 40 ∷ at 40 ∷ at 41 ∷ at 40 ∷ at 60 ∷ at 60 ∷ [];
      excursions = excursion 2 4 (at_sample 6) ∷ [];
    }
    ∷ []

-- what a case comes to
abbrev pub excursed : ExcursionCase → List Excursion
excursed k = excursions own (λ es. (after_all k.settings k.first es).on) k.events
