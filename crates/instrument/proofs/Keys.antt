-- Keys 2 to 5 are the R strings. Assumes nothing.
use native.Mathlib.Omega.{arith}
use mathlib.Core.Path.{◌≡◌, refl, ap}
use mathlib.Core.List.{List, [], ◌∷◌, map}
use lib.ListN.{length}
use Rattle.alarm.specs.Alarm.{reset}
use Rattle.alarm.specs.declared.Alarm.{Alarm}
use Rattle.alarms.specs.Alarms.{all_reset}
use Rattle.config.specs.declared.Working.{Working}
use Rattle.instrument.specs.Instrument.{with_reset, reset_alarms, reset_register}
use Rattle.instrument.specs.Meaning.{Keys}
use Rattle.instrument.specs.declared.Instrument.{Instrument}

module _ (w : Working) (i : Instrument) where
  -- key 2 is RB, key 3 RC, key 4 RD, and key 5 RE, RF, RG and RH in turn
  pub keys : Keys w i
  unfolding reset_register
  keys = record { total = refl; max = refl; min = refl; alarms = refl }

  -- key 5 resets each of the four alarms, and the outputs are driven by what is left
  pub resets_each : length i.alarms ≡ 4 → reset_alarms w i ≡ with_reset i (map reset i.alarms)
  resets_each four = ap (with_reset i) (go i.alarms four)
    where
      go : (l : List Alarm) → length l ≡ 4 → all_reset l ≡ map reset l
      go [] e = absurd (omega arith)
      go (a ∷ []) e = absurd (omega arith)
      go (a ∷ b ∷ []) e = absurd (omega arith)
      go (a ∷ b ∷ c ∷ []) e = absurd (omega arith)
      go (a ∷ b ∷ c ∷ d ∷ []) e = refl
      go (a ∷ b ∷ c ∷ d ∷ x ∷ l) e = absurd (omega arith)
