-- Polls: the same samples with a read sent whole behind each of them, any number of times, and the example of an off delay.
use Rattle.std.specs.Prelude.{◌≡◌, Bool, true, false, List, [], ◌∷◌, ◌++◌, ℕ, zero, suc, ℤ, pos, replicate}
use Rattle.config.specs.Bench.{high, meter_of}
use Rattle.config.specs.declared.Config.{Config}
use Rattle.register.specs.Bytes.{byte as char, ascii}
use Rattle.command.specs.declared.Asked.{Asked}
use Rattle.alarms.specs.Alarms.{alarm_at}
use Rattle.answer.specs.Answer.{number}
use Rattle.looking.specs.History.{sample, byte, History, last_outcome, meter_after, node_of}
use Rattle.looking.specs.Sent.{sending, Reads}

-- the lent buffer of the bench
abbrev pub lent : List ℕ
lent = replicate 163 0

-- the string s with its star, sent whole after h
abbrev pub poll : List ℕ → History → History
poll s h = byte (char "*") 0 lent ∷ sending 0 lent s h

abbrev pub polls : List ℕ → ℕ → History → History
polls s zero h = h
polls s (suc n) h = poll s (polls s n h)

-- samples, newest first, with n polls behind each
abbrev pub polled : List ℕ → ℕ → List ℤ → History
polled s n [] = []
polled s n (x ∷ xs) = polls s n (sample x ∷ polled s n xs)

-- polls by a read leave the instrument as the samples alone do, whatever their number
abbrev pub Unmoved : Config → Type 0
Unmoved c = (s : List ℕ) (a : Asked) → Reads s (node_of c) a → (n : ℕ) (xs : List ℤ) → (meter_after c (polled s n xs)).instrument ≡ (meter_after c (polled s 0 xs)).instrument

-- ── an off delay ──

-- the bench meter, with an off delay of 2 tenths, which is 4 samples, on its first alarm
abbrev pub bench : Config
bench = meter_of 5 1 (0, 0) (1000, 2000) (high (pos 0) (pos 2))

-- the first setpoint is asked for
abbrev pub asking : List ℕ
asking = ascii "N5TE"

-- one sample that reads 120, above the setpoint of 100, and then k that read 80, with n polls behind each
abbrev pub excursion : ℕ → ℕ → History
excursion n k = polled asking n (replicate k (pos 40) ++ pos 60 ∷ [])

-- whether the first alarm is on then
abbrev pub lit : ℕ → ℕ → Bool
lit n k = (alarm_at (meter_after bench (excursion n k)).instrument.alarms 0).on

-- with n polls behind each sample: on through the third sample below, off at the fourth
pub record InTime (n : ℕ) : Type 0 where
  pub at_once : lit n 0 ≡ true
  pub first : lit n 1 ≡ true
  pub second : lit n 2 ≡ true
  pub third : lit n 3 ≡ true
  pub fourth : lit n 4 ≡ false

pub record OffDelay : Type 0 where
  -- the polls are answered by 2
  pub answered : number (last_outcome bench (excursion 1 3)).answer ≡ 2
  -- computed with no poll, and with ten behind each sample
  pub unpolled : InTime 0
  pub ten : InTime 10
  -- and so it is with any number of them
  pub always : (n : ℕ) → InTime n
