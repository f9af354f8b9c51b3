-- The first line and an input, over plain values. Assumes nothing.
use Rattle.std.proofs.Common.{◌≡◌, ◌∙◌, refl, sym, ap, List, ℤ, length, Option, Some, None}
use Rattle.record.specs.Record.{word_count, event_heard, read_heard, stored}
use Rattle.record.specs.Configuration.{config_of}
use Rattle.record.specs.declared.Event.{Event}
use Rattle.record.specs.declared.Event.TheVariants.{Configuration, Sample, Key, Byte}
use Rattle.record.proofs.Meaning.{stored_size, configured}
use Rattle.config.specs.declared.Config.{Config}
use Rattle.text.specs.Line.{Heard}
use Rattle.rescaling.specs.Rescaling.{unconfigured, start_by, start_of}
use Rattle.rescaling.specs.Held.{opened_as, opened}

-- a configuration is that of the line's own settings, whatever the array held before
pub settled : (h : Heard) (old : List ℤ) → Some Configuration ≡ event_heard h → length (stored 0 old (read_heard h)) ≡ word_count
    → stored 0 old (read_heard h) ≡ read_heard h
settled h old e n = configured h old e (sym (stored_size 0 old (read_heard h)) ∙ n)

-- what a line is judged to be opens the program
pub opens : (h : Heard) (e : Option Event) → e ≡ event_heard h → opened_as (start_by (config_of (read_heard h)) e) ≡ opened h
unfolding opened start_of
opens h e p = ap (λ (x : Option Event). opened_as (start_by (config_of (read_heard h)) x)) p

-- whatever is no configuration leaves it unconfigured
pub other : (c : Config) (e : Option Event) → (e ≡ Some Configuration → ⊥) → unconfigured ≡ start_by c e
other c (Some Configuration) n = absurd (n refl)
other c (Some (Sample z)) n = refl
other c (Some (Key z place)) n = refl
other c (Some (Byte b place)) n = refl
other c None n = refl
