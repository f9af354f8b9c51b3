-- What an extract may say, sentence by sentence: for every accepted configuration, from any history since power-up. No sum, remainder or run
-- occurs in it.
use Rattle.std.specs.Prelude.{◌≡◌, Bool, true, false, List, ◌∷◌, ◌≢◌, ℕ, ◌+◌, ◌<◌}
use Rattle.std.proofs.Math.Option.{none}
use Rattle.course.specs.Course.{events}
use Rattle.reading.specs.declared.Reading.{Reading}
use Rattle.reading.specs.declared.Reading.TheVariants.{Number}
use Rattle.total.specs.Said as totals
use Rattle.alarm.specs.Said as alarms
use Rattle.alarm.specs.Excursions.{Excursion, samples_in, excursions, Lasting}
use Rattle.alarms.specs.Alarms.{settings_at}
use Rattle.register.specs.Registers.{at}
use Rattle.config.specs.Config.{judged}
use Rattle.config.specs.declared.Config.{Config}
use Rattle.config.specs.Verdict.{Accepted}
use Rattle.instrument.specs.Shown.{shown_at}
use Rattle.looking.specs.History.{Event, History, meter_after}
use Rattle.looking.specs.Kept.{kept}
use Rattle.looking.specs.Inserted.{Inserted}
use Rattle.extracts.specs.Events.{total_course, shown_total, alarm_course, first_of, is_on}
use Rattle.extracts.specs.Told.{ResetsAlarm, CanChange, Told}
use Rattle.extracts.specs.Again.{Again}

-- ---- 1. the total

pub record OfTotal (c : Config) : Type 0 where
  -- what an event contributes
  pub contributions : totals.Contributions c.working.totalizer
  -- what the total shows: the cut quotient of what has contributed since its last reset or power-up, while it has not gone Over or Under
  pub said : totals.Said c.working.totalizer (total_course c) (shown_total c)
  -- this leaves nothing open: whatever it holds of is the total that is shown
  pub alone : (shown : History → Reading) → totals.Said c.working.totalizer (total_course c) shown → (h : History) → shown h ≡ shown_total c h

-- ---- 2. and 3. alarm k

abbrev pub SaidOf : Config → ℕ → (History → Bool) → Type 0
SaidOf c k on = alarms.Said (settings_at c.working.alarms k) (alarm_course c k) (first_of c k) on

pub record OfAlarm (c : Config) (k : ℕ) : Type 0 where
  -- when it changes, unlatched and latched
  pub said : SaidOf c k (is_on c k)
  -- the setpoint of which this speaks is the one that T of its register shows
  pub setpoint : (h : History) → shown_at c.working (meter_after c h).instrument (at "E" + k) ≡ Number (alarms.setpoint_after (alarm_course c k) (first_of c k) h)
  -- it changes at a sample or by a reset alone
  pub changes_at : (h : History) (e : Event) → is_on c k (e ∷ h) ≢ is_on c k h → CanChange c h k e
  -- latched, it is cleared only by a reset: RE to RH of its own, key 5, VJ with bit 4 clear and its bit 0
  pub cleared : (settings_at c.working.alarms k).latched ≡ true → (h : History) (e : Event) → is_on c k h ≡ true → is_on c k (e ∷ h) ≡ false → ResetsAlarm c h k e
  -- this leaves nothing open: whatever it holds of is the alarm's state
  pub alone : (on : History → Bool) → SaidOf c k on → (h : History) → on h ≡ is_on c k h

-- ---- 5. excursions of alarm k

-- newest first
abbrev pub excursions_of : Config → ℕ → History → List Excursion
excursions_of c k h = excursions (alarm_course c k) (is_on c k) h

pub record Excursions (c : Config) (k : ℕ) : Type 0 where
  -- an excursion lasts from the sample at which the alarm went on to the sample or the reset at which it went off, or is still open
  pub lasting : (h : History) → Lasting (is_on c k h) (samples_in (alarm_course c k) h) (excursions_of c k h)
  -- it depends on samples, resets and setpoints of the alarm alone
  pub by_events : (h₁ h₂ : History) → events (alarm_course c k) h₁ ≡ events (alarm_course c k) h₂ → excursions_of c k h₁ ≡ excursions_of c k h₂
  -- so it is the same wherever the kept lists are
  pub by_kept : (h₁ h₂ : History) → kept c h₁ ≡ kept c h₂ → excursions_of c k h₁ ≡ excursions_of c k h₂
  -- no read, refused string or string for another node, put in where no string is half received, moves either end
  pub unmoved : (h g : History) → Inserted c h g none → excursions_of c k g ≡ excursions_of c k h

-- ---- all of them

pub record Sentences (c : Config) : Type 0 where
  -- what comes to the total and to the alarms
  pub told : (h : History) → Told c h
  -- 1. the total
  pub total : OfTotal c
  -- 2. and 3. each of the four alarms, unlatched and latched
  pub alarm : (k : ℕ) → k < 4 → OfAlarm c k
  -- 4. looking again
  pub again : Again c
  -- 5. excursions
  pub excursions : (k : ℕ) → k < 4 → Excursions c k

abbrev pub Extracts : Type 0
Extracts = (c : Config) → judged c ≡ Accepted → Sentences c
