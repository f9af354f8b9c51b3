-- The status that a meter has stored is the one that is gathered, after any history. Assumes nothing.
use mathlib.Core.Path.{◌≡◌, refl, sym, ap, subst}
use mathlib.Core.List.{List, [], ◌∷◌}
use Prim.Native.Nat.{ℕ}
use lib.IntN.{pos}
use Rattle.register.specs.Registers.{at}
use Rattle.reading.specs.declared.Reading.TheVariants.{Number}
use Rattle.config.specs.Config.{judged}
use Rattle.config.specs.declared.Config.{Config}
use Rattle.config.specs.declared.Working.{Working}
use Rattle.config.specs.Verdict.{Accepted}
use Rattle.command.specs.Parse.{parse}
use Rattle.line.specs.Line.{line}
use Rattle.instrument.specs.Meaning.{StatusKept}
use Rattle.instrument.specs.Shown.{shown_at, places_at}
use Rattle.instrument.specs.declared.Instrument.{Instrument}
use Rattle.instrument.proofs.Status.{powered_up_kept, sampled_kept, batched_kept, reset_register_kept, reset_alarms_kept, write_register_kept, write_status_kept, kept_is}
use Rattle.effect.specs.Effect.{Effect, leaves}
use Rattle.effect.specs.Reply.{style, read_reply}
use Rattle.promises.proofs.Effects.{Changed, by_batch, by_reset, by_alarms, by_write, by_status, Upon, done, refused, reply, pressed_upon, addressed_upon}
use Rattle.looking.specs.Kept.{Entry, measured, pressed, told, kept}
use Rattle.looking.specs.Given.{given}
use Rattle.looking.specs.Status.{StatusTrue, StatusStored}
use Rattle.looking.proofs.State.{holds}

-- ---- what an effect leaves

changed_kept : {w : Working} {i : Instrument} → StatusKept i → {j : Instrument} → Changed w i j → StatusKept j
changed_kept {w} {i} p by_batch = batched_kept w i p
changed_kept {w} {i} p (by_reset r top) = reset_register_kept w i p r
changed_kept {w} {i} p by_alarms = reset_alarms_kept w i p
changed_kept {w} {i} p (by_write r z low top held) = write_register_kept w i p r z
changed_kept {w} {i} p (by_status b) = write_status_kept w i p b

left_kept : {w : Working} {i : Instrument} {Refusal : ℕ → Type 0} {e : Effect} → StatusKept i → Upon w i Refusal e → StatusKept (leaves e)
left_kept p (done c) = changed_kept p c
left_kept p (refused a r) = p
left_kept p (reply text) = p

-- ---- what a kept list gives

given_kept : (c : Config) (ks : List Entry) → StatusKept (given c ks)
given_kept c [] = powered_up_kept c.setpoints
given_kept c (measured x ∷ ks) = sampled_kept c.working (given c ks) (given_kept c ks) _
given_kept c (pressed k ∷ ks) = left_kept (given_kept c ks) (pressed_upon c.talking c.working (given c ks) k)
given_kept c (told s ∷ ks) = left_kept (given_kept c ks) (addressed_upon c.talking c.working (given c ks) s (parse s) refl)

-- ---- so after a history

status_true : (c : Config) (i : Instrument) → StatusKept i → StatusTrue c i
unfolding read_reply shown_at places_at
status_true c i p =
    record {
      gathered = p.stored;
      bits = kept_is i p;
      shown = ap (λ (n : ℕ). line (style c.talking) (at "J") 0 (Number (pos n))) p.stored;
    }

pub status_stored : (c : Config) → judged c ≡ Accepted → StatusStored c
status_stored c accepted h = status_true c _ (subst StatusKept (sym (holds c accepted h)) (given_kept c (kept c h)))
