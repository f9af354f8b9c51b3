-- What the code holds of the first line tells every later one what the definition by its configuration does. Assumes nothing.
use mathlib.Core.Path.{◌≡◌, refl, ap}
use mathlib.Core.Bool.{true, false}
use Rattle.config.specs.Config.{judged}
use Rattle.config.specs.declared.Config.{Config}
use Rattle.config.specs.Verdict.{Verdict}
use Rattle.config.specs.Verdict.{Accepted, Broken}
use Rattle.config.proofs.Acceptance.{scale_accepted}
use Rattle.source.specs.Source.{reading_by}
use Rattle.record.specs.Record.{event_heard, read_heard}
use Rattle.record.specs.Configuration.{config_of}
use Rattle.record.specs.declared.Event.{Event}
use Rattle.record.specs.declared.Event.TheVariants.{Configuration, Sample, Key, Byte}
use Rattle.segments.specs.Segments.{segments_of, read}
use Rattle.segments.proofs.ByPoints.{reads, passes}
use Rattle.text.specs.Line.{Heard}
use Rattle.std.specs.Prelude.{Option, Some, None}
use lib.IntN.{ℤ}
use Rattle.rescaling.specs.Rescaling.{Start, by_verdict, start_by, start_of, first_told, input_heard, read_by, later_told}
use Rattle.rescaling.specs.Held.{opened_as, opened, awaits, said_by, sound}
use Rattle.rescaling.specs.Meaning.{Agrees}
use Rattle.rescaling.specs.declared.Said.TheVariants.{Read}

-- what is claimed of the first line, of what it makes of the program
record Holds (start : Start) : Type 0 where
  told : (opened_as start).said ≡ first_told start
  later : (h : Heard) → said_by (opened_as start).mode h ≡ later_told start h
  once : awaits (opened_as start).mode ≡ false
  reads : sound (opened_as start).mode ≡ true

-- an accepted scale reads as it is held as by its source
same_reading : (c : Config) → judged c ≡ Accepted → (n : Option ℤ) → read_by (read (segments_of c.scale)) n ≡ read_by (reading_by c.scale) n
same_reading c a (Some x) = ap Read (reads c.scale (scale_accepted c a) x)
same_reading c a None = refl

by_verdict_lem : (c : Config) (v : Verdict) → judged c ≡ v → Holds (by_verdict c.scale v)
by_verdict_lem c Accepted a =
    record { told = refl; later = λ h. same_reading c a (input_heard h); once = refl; reads = passes c.scale (scale_accepted c a) }
by_verdict_lem c (Broken rule) a = record { told = refl; later = λ h. refl; once = refl; reads = refl }

by_event : (c : Config) (e : Option Event) → Holds (start_by c e)
by_event c (Some Configuration) = by_verdict_lem c (judged c) refl
by_event c (Some (Sample n)) = record { told = refl; later = λ h. refl; once = refl; reads = refl }
by_event c (Some (Key n place)) = record { told = refl; later = λ h. refl; once = refl; reads = refl }
by_event c (Some (Byte b place)) = record { told = refl; later = λ h. refl; once = refl; reads = refl }
by_event c None = record { told = refl; later = λ h. refl; once = refl; reads = refl }

pub agrees : (first : Heard) → Agrees first
unfolding opened start_of
agrees first =
    let a = by_event (config_of (read_heard first)) (event_heard first) in
    record { told = a.told; later = a.later; once = a.once; reads = a.reads }
