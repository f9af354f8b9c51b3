-- Demand 1 as a whole: every configuration, sample, key and byte has one of the numbered answers.
use Rattle.std.specs.Prelude.{◌≡◌, true, List, ◌≢◌, ℕ}
use Rattle.config.specs.declared.Config.{Config}
use Rattle.meter.specs.Meter.{Step}
use Rattle.meter.specs.declared.Meter.{Meter}
use Rattle.promises.specs.Calls.{Call, lent, place_of, result, Allows, answered, possible}
use Rattle.promises.specs.Rows.{EventRows, PowerUpRows}
use Rattle.promises.specs.Exactly.{Exactly}
use Rattle.promises.specs.Leaves.{Buffer, Leaves}
use Rattle.promises.specs.Started.{Shut, StaysSound, Reached, Never12, Places}

pub record Demand1 : Type 0 where
  -- any two outcomes that a contract allows are equal
  pub one_outcome : (k : Call) (s t : Step) → Allows k s → Allows k t → s ≡ t
  -- each call gives one of its answers, and no other
  pub numbered : (k : Call) → possible k (answered k) ≡ true
  -- 7, by which a number outside its range was refused, is withdrawn
  pub never_7 : (k : Call) → answered k ≢ 7
  -- the table of answers, row by row
  pub power_up_rows : (c : Config) → PowerUpRows c
  pub event_rows : (m : Meter) (buffer : List ℕ) (place : ℕ) → EventRows m buffer place
  -- and backwards: the rows cover every call and exclude each other, so each answer comes exactly where its row says
  pub exactly : Exactly
  -- what is left as it was
  pub buffer : (k : Call) → Buffer (lent k) (place_of k) (result k)
  pub leaves : (m : Meter) → Leaves m
  -- every event to a value that was not started is answered 12
  pub shut : (m : Meter) → Shut m
  -- no event of any history after an accepted power-up is answered 12
  pub stays_sound : StaysSound
  pub never_12 : (m : Meter) → Reached m → Never12 m
  -- and its receiver has the 32 places that row 1 speaks of
  pub places : (m : Meter) → Reached m → Places m
