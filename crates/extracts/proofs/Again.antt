-- What is shown behind the kept entries is what they give. Assumes nothing.
use mathlib.Core.Path.{◌≡◌, refl, sym, ap, ◌∙◌}
use mathlib.Core.List.{List, [], ◌∷◌}
use mathlib.Core.Option.{Option, none, some}
use Rattle.config.specs.Config.{judged}
use Rattle.config.specs.declared.Config.{Config}
use Rattle.config.specs.Verdict.{Accepted}
use Rattle.instrument.specs.declared.Instrument.{Instrument}
use Rattle.looking.specs.History.{Event, History, meter_after, half}
use Rattle.looking.specs.Kept.{Entry, keeps, add, kept}
use Rattle.looking.specs.Given.{given}
use Rattle.looking.proofs.State.{holds}
use Rattle.extracts.specs.Events.{total_shown, alarm_on}
use Rattle.extracts.specs.Again.{Row, states, add_row, rows, Again}

module _ (c : Config) where
  -- the rows of a kept list
  abbrev rows_of : List Entry → List Row
  rows_of [] = []
  rows_of (x ∷ ks) = record { entry = x; total = total_shown c (given c (x ∷ ks)); on = states (given c (x ∷ ks)) } ∷ rows_of ks

  one_row : (o : Option Entry) (ks : List Entry) → add_row o (total_shown c (given c (add o ks))) (states (given c (add o ks))) (rows_of ks) ≡ rows_of (add o ks)
  one_row none ks = refl
  one_row (some x) ks = refl

module _ (c : Config) (accepted : judged c ≡ Accepted) where
  rows_are : (h : History) → rows c h ≡ rows_of c (kept c h)
  rows_are [] = refl
  rows_are (e ∷ h) =
      let o = keeps c (half h) e in
      ap (λ (i : Instrument). add_row o (total_shown c i) (states i) (rows c h)) (holds c accepted (e ∷ h))
      ∙ ap (add_row o (total_shown c (given c (kept c (e ∷ h)))) (states (given c (kept c (e ∷ h))))) (rows_are h)
      ∙ one_row c o (kept c h)

  -- where nothing is kept the instrument stays
  stands : (h : History) (e : Event) → keeps c (half h) e ≡ none → (meter_after c (e ∷ h)).instrument ≡ (meter_after c h).instrument
  stands h e q = holds c accepted (e ∷ h) ∙ ap (λ (o : Option Entry). given c (add o (kept c h))) q ∙ sym (holds c accepted h)

  pub again : Again c
  again =
      record {
        same = λ h₁ h₂ q. rows_are h₁ ∙ ap (rows_of c) q ∙ sym (rows_are h₂);
        total_stays = λ h e q. ap (total_shown c) (stands h e q);
        alarm_stays = λ h e k q. ap (alarm_on k) (stands h e q);
      }
