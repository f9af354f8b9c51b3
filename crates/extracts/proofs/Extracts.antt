-- What an extract may say, with nothing left to assume.
use mathlib.Core.Path.{◌≡◌, refl, ap, ◌∙◌}
use mathlib.Core.List.{◌∷◌}
use mathlib.Core.Logic.{◌≢◌}
use mathlib.Core.Option.{Option, none, some}
use Prim.Native.Nat.{ℕ, ◌+◌, ◌<◌}
use native.Mathlib.Omega.{arith}
use borrow.Author.Tests.{ne_eqb}
use lib.IntN.{ℤ}
use Rattle.reading.specs.declared.Reading.TheVariants.{Number}
use Rattle.total.specs.Said as totals
use Rattle.total.proofs.Said as total_laws
use Rattle.total.proofs.Unique.{alone as total_alone}
use Rattle.alarm.specs.History as alarms
use Rattle.alarm.specs.Said.{setpoint_after}
use Rattle.alarm.proofs.Said as alarm_laws
use Rattle.alarm.proofs.Unique.{alone as alarm_alone}
use Rattle.alarms.specs.Alarms.{alarm_at, settings_at, setpoint_of}
use Rattle.register.specs.Registers.{at}
use Rattle.config.specs.Config.{judged}
use Rattle.config.specs.declared.Config.{Config}
use Rattle.config.specs.Verdict.{Accepted}
use Rattle.instrument.specs.Instrument.{alarm_of}
use Rattle.instrument.specs.Shown.{shown_at}
use Rattle.instrument.specs.declared.Instrument.{Instrument}
use Rattle.looking.specs.History.{Event, History, meter_after}
use Rattle.extracts.specs.Events.{total_course, shown_total, alarm_event, alarm_course, first_of, is_on}
use Rattle.extracts.specs.Told.{CanChange, by_sample, by_reset}
use Rattle.extracts.specs.Extracts.{OfTotal, SaidOf, OfAlarm, Extracts}
use Rattle.extracts.proofs.Follows.{total_follows, alarm_follows}
use Rattle.extracts.proofs.Told.{are_told}
use Rattle.extracts.proofs.Again.{again}
use Rattle.extracts.proofs.Excursions.{are_excursions}

module _ (c : Config) (accepted : judged c ≡ Accepted) where
  -- ---- the total

  -- what T of TOT shows is what the total shows
  total_said : totals.Said c.working.totalizer (total_course c) (shown_total c)
  unfolding shown_at
  total_said = total_laws.said c.working.totalizer (total_course c) (λ h. (meter_after c h).instrument.measured.total) (total_follows c accepted)

  of_total : OfTotal c
  of_total =
      record {
        contributions = total_laws.contributions c.working.totalizer;
        said = total_said;
        alone = λ shown s. total_alone c.working.totalizer (total_course c) shown (shown_total c) s total_said;
      }

  -- ---- an alarm

  module _ (k : ℕ) (four : k < 4) where
    alarm_said : SaidOf c k (is_on c k)
    alarm_said =
        alarm_laws.said (settings_at c.working.alarms k) (alarm_course c k) (first_of c k) (λ h. alarm_at (meter_after c h).instrument.alarms k) (alarm_follows c accepted k four)

    -- register E and k more shows the setpoint of alarm k
    setpoint_shown : (i : Instrument) → shown_at c.working i (at "E" + k) ≡ Number (setpoint_of i.alarms k)
    unfolding shown_at
    setpoint_shown i =
        rw (
          ne_eqb (at "E" + k) (at "A") (λ e. omega arith),
          ne_eqb (at "E" + k) (at "B") (λ e. omega arith),
          ne_eqb (at "E" + k) (at "C") (λ e. omega arith),
          ne_eqb (at "E" + k) (at "D") (λ e. omega arith),
          ne_eqb (at "E" + k) (at "I") (λ e. omega arith),
          ne_eqb (at "E" + k) (at "J") (λ e. omega arith),
          own,
        )
      where
        own : alarm_of (at "E" + k) ≡ k
        own = omega arith

    setpoint : (h : History) → shown_at c.working (meter_after c h).instrument (at "E" + k) ≡ Number (setpoint_after (alarm_course c k) (first_of c k) h)
    setpoint h =
        setpoint_shown (meter_after c h).instrument
        ∙ ap (λ (z : ℤ). Number z)
        (alarm_laws.setpoint_is (settings_at c.working.alarms k) (alarm_course c k) (first_of c k) (λ g. alarm_at (meter_after c g).instrument.alarms k) (alarm_follows c accepted k four) h)

    changes_at : (h : History) (e : Event) → is_on c k (e ∷ h) ≢ is_on c k h → CanChange c h k e
    changes_at h e n = go (alarm_event c k h e) refl
      where
        go : (o : Option alarms.Event) → alarm_event c k h e ≡ o → CanChange c h k e
        go none q = absurd (n (alarm_said.nothing_leaves h e q))
        go (some (alarms.sample r)) q = by_sample r (((are_told c h).alarm_sampled k e r).0 q)
        go (some alarms.reset_key) q = by_reset (((are_told c h).alarm_reset k e).0 q)
        go (some (alarms.setpoint z)) q = absurd (n (alarm_said.setpoint_leaves h e z q))

    of_alarm : OfAlarm c k
    of_alarm =
        record {
          said = alarm_said;
          setpoint = setpoint;
          changes_at = changes_at;
          cleared = λ l h e before after. ((are_told c h).alarm_reset k e).0 (alarm_said.latched l h e before after);
          alone = λ on s. alarm_alone (settings_at c.working.alarms k) (alarm_course c k) (first_of c k) on (is_on c k) s alarm_said;
        }

pub extracts : Extracts
extracts c accepted =
    record {
      told = are_told c;
      total = of_total c accepted;
      alarm = of_alarm c accepted;
      again = again c accepted;
      excursions = are_excursions c accepted;
    }
