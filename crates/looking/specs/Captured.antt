-- Max and min of a meter, over its whole history: what comes to them is the samples, each with its reading, and their own resets.
use Rattle.std.specs.Prelude.{◌≡◌, Bool, false, cond, ◌&&◌, List, [], ◌∷◌, ℕ, eqb, ℤ, pos, None, Some}
use Rattle.exact.specs.Sign.{eq_z}
use Rattle.reading.specs.declared.Reading.{Reading}
use Rattle.reading.specs.declared.Reading.TheVariants.{Nothing}
use Rattle.extremes.specs.History.{Event, sample, reset_key, held}
use Rattle.extremes.specs.Takes.{Takes}
use Rattle.extremes.specs.declared.Side.TheVariants.{Max, Min}
use Rattle.register.specs.Registers.{at}
use Rattle.config.specs.declared.Config.{Config}
use Rattle.command.specs.Parse.{parse}
use Rattle.command.specs.declared.Asked.{Asked}
use Rattle.command.specs.declared.Asked.TheVariants.{Read, Print, Reset, Write, Status, BadForm}
use Rattle.command.specs.Parse.{Parsed}
use Rattle.instrument.specs.Instrument.{read}
use Rattle.looking.specs.History.{History, meter_after, node_of}
use Rattle.looking.specs.Kept.{Entry, measured, pressed, told, kept}

-- the present reading is that of the last sample
abbrev pub present : Config → List Entry → Reading
present c [] = Nothing
present c (measured x ∷ ks) = read c.scale x
present c (pressed k ∷ ks) = present c ks
present c (told s ∷ ks) = present c ks

-- R of a register
abbrev pub is_reset : ℕ → Asked → Bool
is_reset r (Read q) = false
is_reset r Print = false
is_reset r (Reset q) = eqb q r
is_reset r (Write q z) = false
is_reset r (Status b) = false
is_reset r BadForm = false

-- sent to a node
abbrev pub reset_to : ℕ → ℕ → Parsed → Bool
reset_to node r None = false
reset_to node r (Some (n, a)) = eqb n node && is_reset r a

-- a reset, where there is one, with the present reading
abbrev pub resetting : Bool → Reading → List Event → List Event
resetting t reading h = cond t (reset_key reading ∷ h) h

-- what comes to the one of the two that a key and the R of a register reset
abbrev pub comes : Config → ℤ → ℕ → List Entry → List Event
comes c key r [] = []
comes c key r (measured x ∷ ks) = sample (read c.scale x) ∷ comes c key r ks
comes c key r (pressed k ∷ ks) = resetting (eq_z k key) (present c ks) (comes c key r ks)
comes c key r (told s ∷ ks) = resetting (reset_to (node_of c) r (parse s)) (present c ks) (comes c key r ks)

-- key 3 and RC are max's, key 4 and RD min's
abbrev pub to_max : Config → List Entry → List Event
to_max c ks = comes c (pos 3) (at "C") ks

abbrev pub to_min : Config → List Entry → List Event
to_min c ks = comes c (pos 4) (at "D") ks

pub record Captured (c : Config) (h : History) : Type 0 where
  pub max : (meter_after c h).instrument.measured.max ≡ held Max c.working.capture (to_max c (kept c h))
  pub min : (meter_after c h).instrument.measured.min ≡ held Min c.working.capture (to_min c (kept c h))
  -- so that what a completed run gives them is the closest of its readings
  pub max_takes : Takes Max c.working.capture (to_max c (kept c h))
  pub min_takes : Takes Min c.working.capture (to_min c (kept c h))
