-- Excursions: from the sample at which an alarm went on to the sample or the reset at which it went off. Samples are counted from
-- power-up, the first is sample 1.
use Rattle.std.specs.Prelude.{◌≡◌, Bool, true, false, cond, List, [], ◌∷◌, ℕ, suc, ◌+◌}
use Rattle.std.proofs.Math.Option.{Option, none, some}
use Rattle.course.specs.Course.{Course}
use Rattle.alarm.specs.History.{Event, sample, reset_key, setpoint}

-- how an excursion ended: not yet, at a sample, or by a reset behind so many samples
pub data Ending : Type 0 where
  still_on : Ending
  at_sample : (number : ℕ) → Ending
  by_reset : (behind : ℕ) → Ending

-- the sample at which the alarm went on, how many samples it was on after, and the end
pub record Excursion : Type 0 where
  pub from : ℕ
  pub long : ℕ
  pub ending : Ending

abbrev pub excursion : ℕ → ℕ → Ending → Excursion
excursion from long ending = record { from = from; long = long; ending = ending }

abbrev pub is_sample : Option Event → Bool
is_sample none = false
is_sample (some (sample r)) = true
is_sample (some reset_key) = false
is_sample (some (setpoint z)) = false

-- the newest excursion, after one more sample or something else; and at its end, by a sample or something else
abbrev pub goes_on : Bool → List Excursion → List Excursion
goes_on sampled [] = []
goes_on sampled (x ∷ xs) = excursion x.from (cond sampled (suc x.long) x.long) x.ending ∷ xs

abbrev pub ends : Bool → ℕ → List Excursion → List Excursion
ends sampled n [] = []
ends sampled n (x ∷ xs) = excursion x.from x.long (cond sampled (at_sample n) (by_reset n)) ∷ xs

-- excursions after an event: whether it is a sample, how many samples there were with it, and whether the alarm was on before and after it
abbrev pub noted : Bool → ℕ → Bool → Bool → List Excursion → List Excursion
noted sampled n false false xs = xs
noted sampled n false true xs = excursion n 1 still_on ∷ xs
noted sampled n true true xs = goes_on sampled xs
noted sampled n true false xs = ends sampled n xs

module _ (c : Course Event) where
  -- how many samples a history has
  abbrev pub samples_in : List c.Entry → ℕ
  samples_in [] = 0
  samples_in (e ∷ h) = cond (is_sample (c.what h e)) (suc (samples_in h)) (samples_in h)

  -- the excursions of a history, newest first, of an alarm that is on as said
  abbrev pub excursions : (List c.Entry → Bool) → List c.Entry → List Excursion
  excursions on [] = []
  excursions on (e ∷ h) = noted (is_sample (c.what h e)) (samples_in (e ∷ h)) (on h) (on (e ∷ h)) (excursions on h)

-- ---- what a length comes to

-- an excursion that ended at a sample has lasted from its first sample to the one before that; one that a reset ended, to the last sample
-- before the reset
abbrev pub Ended : ℕ → ℕ → Ending → Type 0
Ended from long still_on = ⊥
Ended from long (at_sample n) = from + long ≡ n
Ended from long (by_reset n) = from + long ≡ suc n

abbrev pub AllEnded : List Excursion → Type 0
AllEnded [] = Unit {0}
AllEnded (x ∷ xs) = Ended x.from x.long x.ending × AllEnded xs

-- after n samples: while the alarm is on its newest excursion is open, and has lasted from its first sample to the last one there was; every
-- other has ended
abbrev pub Lasting : Bool → ℕ → List Excursion → Type 0
Lasting false n xs = AllEnded xs
Lasting true n [] = ⊥
Lasting true n (x ∷ xs) = (x.ending ≡ still_on) × (x.from + x.long ≡ suc n) × AllEnded xs
