-- Looking again: what is kept of a history, with what the meter shows behind each entry.
use Rattle.std.specs.Prelude.{◌≡◌, Bool, List, [], ◌∷◌, ℕ}
use Rattle.std.proofs.Math.Option.{Option, none, some}
use Rattle.reading.specs.declared.Reading.{Reading}
use Rattle.config.specs.declared.Config.{Config}
use Rattle.instrument.specs.declared.Instrument.{Instrument}
use Rattle.looking.specs.History.{Event, History, meter_after, half}
use Rattle.looking.specs.Kept.{Entry, keeps, kept}
use Rattle.extracts.specs.Events.{shown_total, alarm_on, is_on}

-- an entry, and behind it the total that is shown and whether each alarm is on
pub record Row : Type 0 where
  pub entry : Entry
  pub total : Reading
  pub on : List Bool

abbrev pub states : Instrument → List Bool
states i = alarm_on 0 i ∷ alarm_on 1 i ∷ alarm_on 2 i ∷ alarm_on 3 i ∷ []

abbrev pub add_row : Option Entry → Reading → List Bool → List Row → List Row
add_row none total on rows = rows
add_row (some k) total on rows = record { entry = k; total = total; on = on } ∷ rows

-- newest first
abbrev pub rows : Config → History → List Row
rows c [] = []
rows c (e ∷ h) = add_row (keeps c (half h) e) (shown_total c (e ∷ h)) (states (meter_after c (e ∷ h)).instrument) (rows c h)

pub record Again (c : Config) : Type 0 where
  -- two histories with equal kept lists have the same rows: the same changes at the same entries
  pub same : (h₁ h₂ : History) → kept c h₁ ≡ kept c h₂ → rows c h₁ ≡ rows c h₂
  -- and where nothing is kept nothing changes
  pub total_stays : (h : History) (e : Event) → keeps c (half h) e ≡ none → shown_total c (e ∷ h) ≡ shown_total c h
  pub alarm_stays : (h : History) (e : Event) (k : ℕ) → keeps c (half h) e ≡ none → is_on c k (e ∷ h) ≡ is_on c k h
