-- The history that entries make, as `carry_out` of the meter is given them, and what is claimed of it.
use Rattle.std.specs.Prelude.{◌≡◌, cond, ◌&&◌, List, [], ◌∷◌, ℕ, eqb, ℤ, nat_abs}
use Rattle.std.proofs.Math.Option.{Option, none, some}
use Rattle.config.specs.Config.{judged}
use Rattle.config.specs.declared.Config.{Config}
use Rattle.config.specs.Verdict.{Accepted}
use Rattle.meter.specs.Meter.{Step}
use Rattle.meter.specs.Slices.{is_byte, carried_one, carried_out}
use Rattle.looking.specs.History.{Event, sample, key, byte, History, last_outcome}
use Rattle.looking.specs.Kept.{kept}
use Rattle.looking.specs.Given.{given}

-- the event of an entry, with the buffer as it stands when the entry's turn has come
abbrev pub encoded : List ℕ → ℕ → ℤ → ℕ → Option Event
encoded buffer kind value place =
    cond (eqb kind 0) (some (sample value))
    (cond (eqb kind 1) (some (key value place buffer))
    (cond (eqb kind 2 && is_byte value) (some (byte (nat_abs value) place buffer))
    none))

abbrev pub behind : Option Event → History → History
behind none h = h
behind (some e) h = e ∷ h

-- h and then the events of the entries
unfoldable pub history_of : History → Step → List ℕ → List ℤ → List ℕ → History
history_of h o [] values places = h
history_of h o (kind ∷ kinds) [] places = h
history_of h o (kind ∷ kinds) (value ∷ values) [] = h
history_of h o (kind ∷ kinds) (value ∷ values) (place ∷ places) =
    history_of (behind (encoded o.buffer kind value place) h) (carried_one o kind value place) kinds values places

-- ── what is claimed ──

pub record CarriesOut (c : Config) : Type 0 where
  -- entries carried out after h give back what the history's last call gives back, and so leave the history's meter
  pub as_history : (h : History) (o : Step) (kinds : List ℕ) (values : List ℤ) (places : List ℕ) → o.outcome ≡ last_outcome c h
      → (carried_out o kinds values places).outcome ≡ last_outcome c (history_of h o kinds values places)
  -- so under an accepted configuration the instrument is what is kept of that history gives
  pub holds : judged c ≡ Accepted → (h : History) (o : Step) (kinds : List ℕ) (values : List ℤ) (places : List ℕ) → o.outcome ≡ last_outcome c h
      → (carried_out o kinds values places).outcome.meter.instrument ≡ given c (kept c (history_of h o kinds values places))
