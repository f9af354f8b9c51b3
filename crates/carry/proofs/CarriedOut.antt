-- Entries carried out one after another give back what the history that they make gives back.
use mathlib.Core.Path.{◌≡◌, refl, ap, ◌∙◌}
use mathlib.Core.Bool.{Bool, true, false, cond, ◌&&◌}
use mathlib.Core.List.{List, [], ◌∷◌}
use mathlib.Core.Option.{none, some}
use Prim.Native.Nat.{ℕ}
use lib.Dec.{eqb}
use lib.IntN.{ℤ, nat_abs}
use Rattle.config.specs.declared.Config.{Config}
use Rattle.meter.specs.Meter.{Step, sampled, keyed, received}
use Rattle.meter.specs.declared.Outcome.{Outcome}
use Rattle.looking.specs.History.{sample, key, byte, History, outcome_of, last_outcome}
use Rattle.looking.proofs.Demand.{demand_3}
use Rattle.meter.specs.Slices.{is_byte, carried_one, carried_out}
use Rattle.carry.specs.CarriedOut.{encoded, behind, history_of, CarriesOut}

module _ (c : Config) where
  one_by : (h : History) (o : Step) (value : ℤ) (place : ℕ) (t u v : Bool) → o.outcome ≡ last_outcome c h
      → (cond t (record { outcome = sampled o.outcome.meter value; buffer = o.buffer })
      (cond u (keyed o.outcome.meter value o.buffer place)
      (cond v (received o.outcome.meter (nat_abs value) o.buffer place)
      o))).outcome
      ≡ last_outcome c
      (behind
      (cond t (some (sample value)) (cond u (some (key value place o.buffer)) (cond v (some (byte (nat_abs value) place o.buffer)) none)))
      h)
  one_by h o value place true u v e = ap (λ (p : Outcome). outcome_of p.meter (sample value)) e
  one_by h o value place false true v e = ap (λ (p : Outcome). outcome_of p.meter (key value place o.buffer)) e
  one_by h o value place false false true e = ap (λ (p : Outcome). outcome_of p.meter (byte (nat_abs value) place o.buffer)) e
  one_by h o value place false false false e = e

  one : (h : History) (o : Step) (kind : ℕ) (value : ℤ) (place : ℕ) → o.outcome ≡ last_outcome c h
      → (carried_one o kind value place).outcome ≡ last_outcome c (behind (encoded o.buffer kind value place) h)
  unfolding carried_one
  one h o kind value place e = one_by h o value place (eqb kind 0) (eqb kind 1) (eqb kind 2 && is_byte value) e

  as_history : (h : History) (o : Step) (kinds : List ℕ) (values : List ℤ) (places : List ℕ) → o.outcome ≡ last_outcome c h
      → (carried_out o kinds values places).outcome ≡ last_outcome c (history_of h o kinds values places)
  unfolding carried_out history_of
  as_history h o [] values places e = e
  as_history h o (kind ∷ kinds) [] places e = e
  as_history h o (kind ∷ kinds) (value ∷ values) [] e = e
  as_history h o (kind ∷ kinds) (value ∷ values) (place ∷ places) e =
      as_history (behind (encoded o.buffer kind value place) h) (carried_one o kind value place) kinds values places (one h o kind value place e)

  pub carries_out : CarriesOut c
  carries_out =
      record {
        as_history = as_history;
        holds =
            λ a h o kinds values places e.
            ap (λ (p : Outcome). p.meter.instrument) (as_history h o kinds values places e) ∙ (demand_3.looking c a).holds (history_of h o kinds values places);
      }
