-- Total and alarms of a meter follow their courses: each event steps them by what it is to them. Assumes nothing.
use mathlib.Core.Path.{◌≡◌, refl, ◌∙◌}
use mathlib.Core.List.{List, [], ◌∷◌}
use mathlib.Core.Option.{Option, none, some}
use Prim.Native.Nat.{ℕ, ◌<◌}
use lib.ListN.{length}
use Rattle.course.specs.Course.{stepped, Follows}
use Rattle.total.specs.Total.{reset}
use Rattle.total.specs.History as totals
use Rattle.alarm.specs.Alarm.{off}
use Rattle.alarm.specs.History as alarm
use Rattle.alarms.specs.Alarms.{alarm_at, settings_at}
use Rattle.alarms.proofs.Four.{each_of_four}
use Rattle.config.specs.Config.{judged}
use Rattle.config.specs.declared.Config.{Config}
use Rattle.config.specs.Verdict.{Accepted}
use Rattle.looking.specs.History.{meter_after, half}
use Rattle.looking.specs.Kept.{Entry, measured, pressed, told, keeps, add, kept}
use Rattle.looking.specs.Given.{given}
use Rattle.looking.specs.Captured.{present}
use Rattle.looking.proofs.State.{holds}
use Rattle.extracts.specs.Events.{through, to_total, total_course, to_alarm, alarm_course, first_of}
use Rattle.extracts.proofs.Goes.{goes}

module _ (c : Config) where
  -- ---- what a kept list gives

  four : (ks : List Entry) → length (given c ks).alarms ≡ 4
  four [] = refl
  four (x ∷ ks) = (goes c (given c ks) (four ks) x).four

  -- the present reading is that of the last sample
  present_is : (ks : List Entry) → (given c ks).measured.reading ≡ present c ks
  present_is [] = refl
  present_is (measured x ∷ ks) = refl
  present_is (pressed n ∷ ks) = (goes c (given c ks) (four ks) (pressed n)).reading ∙ present_is ks
  present_is (told s ∷ ks) = (goes c (given c ks) (four ks) (told s)).reading ∙ present_is ks

  total_goes : (o : Option Entry) (ks : List Entry)
      → (given c (add o ks)).measured.total ≡ stepped (totals.step c.working.totalizer) (given c ks).measured.total (through (to_total c (present c ks)) o)
  total_goes none ks = refl
  total_goes (some x) ks = rw (← present_is ks) (goes c (given c ks) (four ks) x).total

  module _ (k : ℕ) (h : k < 4) where
    alarm_goes : (o : Option Entry) (ks : List Entry)
        → alarm_at (given c (add o ks)).alarms k ≡ stepped (alarm.step (settings_at c.working.alarms k)) (alarm_at (given c ks).alarms k) (through (to_alarm c k) o)
    alarm_goes none ks = refl
    alarm_goes (some x) ks = (goes c (given c ks) (four ks) x).each k h

    alarm_starts : alarm_at (given c []).alarms k ≡ off (first_of c k)
    alarm_starts = each_of_four (λ j. alarm_at (given c []).alarms j ≡ off (first_of c j)) refl refl refl refl k h

-- ---- a meter after any history

module _ (c : Config) (accepted : judged c ≡ Accepted) where
  pub total_follows : Follows (totals.step c.working.totalizer) reset (total_course c) (λ h. (meter_after c h).instrument.measured.total)
  total_follows =
      record {
        starts = rw (holds c accepted []);
        goes = λ h e. rw (holds c accepted (e ∷ h), holds c accepted h) (total_goes c (keeps c (half h) e) (kept c h));
      }

  pub alarm_follows : (k : ℕ) → k < 4
      → Follows (alarm.step (settings_at c.working.alarms k)) (off (first_of c k)) (alarm_course c k) (λ h. alarm_at (meter_after c h).instrument.alarms k)
  alarm_follows k h =
      record {
        starts = rw (holds c accepted []) (alarm_starts c k h);
        goes = λ g e. rw (holds c accepted (e ∷ g), holds c accepted g) (alarm_goes c k h (keeps c (half g) e) (kept c g));
      }
