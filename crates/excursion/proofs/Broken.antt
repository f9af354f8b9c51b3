-- The old core breaks what may be said of an alarm: computed. Assumes nothing.
use mathlib.Core.Path.{◌≡◌, refl, sym, ◌∙◌}
use mathlib.Core.Bool.{Bool, true, false}
use mathlib.Core.List.{◌∷◌}
use Prim.Native.Nat.{ℕ, suc}
use lib.IntN.{ℤ, pos}
use Rattle.alarm.specs.Said.{count, idle, holds_after, Waited, begins, one_more, between, Window}
use Rattle.alarm.specs.declared.Settings.{Settings}
use Rattle.alarms.specs.Alarms.{settings_at}
use Rattle.command.specs.Parse as commands
use Rattle.form.specs.Change.{change}
use Rattle.instrument.specs.Instrument.{read}
use Rattle.receiver.specs.Since.{since}
use Rattle.register.specs.Bytes.{byte as char}
use Rattle.register.specs.Registers.{entry, index}
use Rattle.looking.specs.History.{byte, History, half, node_of}
use Rattle.looking.specs.Sent.{sending}
use Rattle.looking.specs.Polls.{lent, poll, bench, asking, excursion}
use Rattle.extracts.specs.Events.{alarm_event, alarm_course, first_of}
use Rattle.extracts.specs.Extracts.{SaidOf}
use Rattle.excursion.specs.Broken.{old_on, polled_thrice, fourth, Broken}
use Rattle.excursion.proofs.Rows.{opened}

abbrev settings : Settings
settings = settings_at bench.working.alarms 0

-- so many samples have waited, by the old core's states
abbrev OldWaited : ℕ → History → Type 0
OldWaited n h = Waited settings (alarm_course bench 0) (first_of bench 0) old_on n h

-- and every definition that a string is read by
strings_opened : Unit {0}
unfolding opened since change commands.parse commands.first_digit commands.second_digit commands.body commands.reading commands.sole index entry
strings_opened = tt

-- the alarm is on after the third sample, and after the fourth
was_on : old_on polled_thrice ≡ true
unfolding strings_opened
was_on = refl

stays_on : old_on (fourth ∷ polled_thrice) ≡ true
unfolding strings_opened
stays_on = refl

four : count settings true ≡ 4
unfolding strings_opened
four = refl

-- the off-condition holds at a reading of 80
abbrev holds : History → Bool
holds h = holds_after settings (alarm_course bench 0) (first_of bench 0) old_on h (read bench.scale (pos 40))

-- the star of a string that changes nothing is nothing to an alarm
star_idle : (z : ℤ) (h : History) → change (node_of bench) (half h) ≡ false → idle z (alarm_event bench 0 h (byte (char "*") 0 lent)) ≡ true
star_idle z h e = rw e

-- one sample more below the setpoint, and the poll behind it, which changes nothing
one_below : (n : ℕ) (h : History) → holds h ≡ true → old_on (fourth ∷ h) ≡ old_on h → change (node_of bench) (half (sending 0 lent asking (fourth ∷ h))) ≡ false → OldWaited n h
    → OldWaited (suc n) (poll asking (fourth ∷ h))
one_below n h q stays e w =
    between (star_idle _ (sending 0 lent asking (fourth ∷ h)) e) refl
    (between refl refl (between refl refl (between refl refl (between refl refl (one_more refl q stays w)))))

waited : OldWaited 3 polled_thrice
unfolding strings_opened
waited = one_below 2 (excursion 1 2) refl refl refl (one_below 1 (excursion 1 1) refl refl refl (one_below 0 (excursion 1 0) refl refl refl begins))

window : Window settings (alarm_course bench 0) (first_of bench 0) old_on 4 polled_thrice fourth
unfolding strings_opened
window = record { reading = read bench.scale (pos 40); sampled = refl; holds = refl; earlier = 3; waited = waited; together = refl }

-- where it held, the alarm would have changed
breaks : SaidOf bench 0 old_on → ⊥
breaks s =
    (s.changes refl polled_thrice fourth (read bench.scale (pos 40)) refl).1
    (rw (was_on, four) window)
    (stays_on ∙ sym was_on)

pub broken : Broken
broken = record { four = four; window = window; was_on = was_on; stays_on = stays_on; breaks = breaks }
