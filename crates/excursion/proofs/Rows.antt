-- The printed rows for any number of polls. This core's are the same by demand 3; the old core's are followed poll by poll. Assumes nothing.
use mathlib.Core.Path.{◌≡◌, refl, sym, ap, ◌∙◌}
use mathlib.Core.Bool.{true, false}
use mathlib.Core.List.{List, [], ◌∷◌, ◌++◌}
use Prim.Native.Nat.{ℕ, zero, suc, ◌≤◌, ◌-◌}
use native.Mathlib.Omega.{arith}
use lib.IntN.{ℤ, pos}
use lib.ListN.{replicate}
use Rattle.exact.specs.Exact.{half_up, nearest, to_step}
use Rattle.reading.specs.Reading as readings
use Rattle.run.specs.Run.{samples, counted}
use Rattle.alarm.specs.Alarm as one_alarm
use Rattle.alarm.specs.Alarm.{alarm}
use Rattle.alarm.specs.declared.Alarm.{Alarm}
use Rattle.alarms.specs.Alarms as alarms
use Rattle.alarms.specs.Alarms.{alarm_at}
use Rattle.command.specs.declared.Asked.TheVariants.{Read}
use Rattle.config.specs.Bench.{high}
use Rattle.register.specs.Registers.{at}
use Rattle.instrument.specs.Instrument.{read}
use Rattle.instrument.specs.declared.Instrument.{Instrument}
use Rattle.looking.specs.History.{History, sample}
use Rattle.looking.specs.Kept.{kept}
use Rattle.looking.specs.Given.{given}
use Rattle.looking.specs.Polls.{poll, polls, polled, bench, asking, excursion, lit}
use Rattle.looking.proofs.OffDelay.{accepted, reads}
use Rattle.looking.proofs.Demand.{demand_3}
use Rattle.excursion.specs.Old.{old_alarm, old_lit}
use Rattle.excursion.specs.Rows.{Rows}

-- the samples of the example, newest first
abbrev inputs : ℕ → List ℤ
inputs k = replicate k (pos 40) ++ pos 60 ∷ []

-- ── this core ──

same : (n k : ℕ) → lit n k ≡ lit 0 k
same n k = ap (λ (i : Instrument). (alarm_at i.alarms 0).on) (demand_3.polls bench accepted asking (Read (at "E")) reads n (inputs k))

-- ── the old core where nobody looks ──

-- its alarm is this core's
alarm_given : (xs : List ℤ) → old_alarm (polled asking 0 xs) ≡ alarm_at (given bench (kept bench (polled asking 0 xs))).alarms 0
unfolding alarms.all_sampled
alarm_given [] = refl
alarm_given (x ∷ xs) = rw (alarm_given xs)

unlooked : (k : ℕ) → old_lit 0 k ≡ lit 0 k
unlooked k =
    ap (λ (a : Alarm). a.on) (alarm_given (inputs k))
    ∙ ap (λ (i : Instrument). (alarm_at i.alarms 0).on) (sym ((demand_3.looking bench accepted).holds (excursion 0 k)))

-- ── samples, computed ──

-- every definition that a sample of one alarm is computed by
unfoldable pub opened : Unit {0}
unfolding readings.reading_of readings.displayed readings.judged readings.on_line readings.segment readings.first_from half_up nearest to_step samples counted one_alarm.sampled one_alarm.moved one_alarm.awaited one_alarm.delay one_alarm.on_condition one_alarm.off_condition one_alarm.above one_alarm.at_most
opened = tt

abbrev sampled : Alarm → ℤ → Alarm
sampled a x = one_alarm.sampled (high (pos 0) (pos 2)) a (read bench.scale x)

abbrev on : ℕ → Alarm
on r = alarm (pos 100) true r

abbrev off : Alarm
off = alarm (pos 100) false 0

goes_on : sampled off (pos 60) ≡ on 0
unfolding opened
goes_on = refl

counts : sampled (on 0) (pos 40) ≡ on 1
unfolding opened
counts = refl

goes_off : old_alarm (excursion 0 4) ≡ off
unfolding opened
goes_off = refl

stays_off : sampled off (pos 40) ≡ off
unfolding opened
stays_off = refl

-- ── off from the fourth sample below on ──

past_fourth : (d : ℕ) → old_alarm (excursion 0 (suc (suc (suc (suc d))))) ≡ off
past_fourth zero = goes_off
past_fourth (suc d) = ap (λ (a : Alarm). sampled a (pos 40)) (past_fourth d) ∙ stays_off

off_past : (d k : ℕ) → k ≡ suc (suc (suc (suc d))) → old_lit 0 k ≡ false
off_past d k e = rw e (ap (λ (a : Alarm). a.on) (past_fourth d))

off_from : (n k : ℕ) → 4 ≤ k → lit n k ≡ false
off_from n k h = same n k ∙ sym (unlooked k) ∙ off_past (k - 4) k (omega arith)

-- ── the old core where somebody looks ──

-- a poll of it while it is on makes its run 0
poll_on : (r : ℕ) (h : History) → old_alarm h ≡ on r → old_alarm (poll asking h) ≡ on 0
poll_on r h e = rw e

polls_on : (r n : ℕ) (h : History) → old_alarm h ≡ on r → old_alarm (polls asking (suc n) h) ≡ on 0
polls_on r zero h e = poll_on r h e
polls_on r (suc n) h e = poll_on 0 (polls asking (suc n) h) (polls_on r n h e)

-- so the run that a sample below begins never gets to its second
still_on : (n k : ℕ) → old_alarm (excursion (suc n) k) ≡ on 0
still_on n zero = polls_on 0 n (sample (pos 60) ∷ []) goes_on
still_on n (suc k) = polls_on 1 n (sample (pos 40) ∷ excursion (suc n) k) (ap (λ (a : Alarm). sampled a (pos 40)) (still_on n k) ∙ counts)

looked : (n k : ℕ) → old_lit (suc n) k ≡ true
looked n k = ap (λ (a : Alarm). a.on) (still_on n k)

pub rows : Rows
rows = record { same = same; off = off_from; unlooked = unlooked; looked = looked }
