-- Document 01's bench sheet: every case marked ●, in its order, in one table with one claim. A case powers a meter up, gives it samples
-- or strings, and says the last answer and what T then shows. The meter is that of the definitions that the public calls' contracts cite.
use Rattle.std.specs.Prelude.{◌≡◌, List, [], ◌∷◌, map, ℕ, zero, suc, ℤ, pos, replicate}
use Prim.Native.String.{String}
use Rattle.answer.specs.Answer.{number}
use Rattle.exact.specs.Sign.{minus}
use Rattle.reading.specs.declared.Reading.{Reading}
use Rattle.reading.specs.declared.Reading.TheVariants.{Number, Over}
use Rattle.config.specs.Bench.{high, undelayed, meter_of}
use Rattle.config.specs.declared.Config.{Config}
use Rattle.register.specs.Bytes.{ascii}
use Rattle.register.specs.Registers.{at}
use Rattle.instrument.specs.Shown.{shown_at}
use Rattle.meter.specs.Meter.{powered_up, sampled, received}
use Rattle.meter.specs.declared.Meter.{Meter}
use Rattle.meter.specs.declared.Outcome.{Outcome}

-- ---- the meters of the sheet

-- each is the bench meter with some settings as a line of the sheet says. Where the line does not say otherwise, the node is 5, the
-- step 1, no alarm has a delay, and a reading is its input
abbrev scale : ℕ → ℕ × ℕ → ℕ × ℕ → Config
scale s first second = meter_of 5 s first second undelayed

abbrev points : ℕ × ℕ → ℕ × ℕ → Config
points first second = scale 1 first second

abbrev step : ℕ → Config
step s = scale s (0, 0) (1000, 1000)

abbrev on_delay : ℕ → Config
on_delay tenths = meter_of 5 1 (0, 0) (1000, 1000) (high (pos tenths) (pos 0))

abbrev node : ℕ → Config
node k = meter_of k 1 (0, 0) (1000, 1000) undelayed

-- ---- what happens to a meter

-- so many samples of one input, or the bytes of a string
pub data Act : Type 0 where
  samples : (count : ℕ) (input : ℤ) → Act
  bytes : List ℕ → Act

abbrev sample : ℤ → Act
sample input = samples 1 input

abbrev string : String → Act
string s = bytes (ascii s)

-- what the last public call gives back: its answer, and the meter that it leaves
unfoldable pub after_samples : Outcome → ℕ → ℤ → Outcome
after_samples o zero input = o
after_samples o (suc k) input = after_samples (sampled o.meter input) k input

-- a byte names place 0 of a lent buffer of 163 bytes
abbrev lent : List ℕ
lent = replicate 163 0

unfoldable pub after_bytes : Outcome → List ℕ → Outcome
after_bytes o [] = o
after_bytes o (b ∷ s) = after_bytes (received o.meter b lent 0).outcome s

abbrev pub after_act : Outcome → Act → Outcome
after_act o (samples count input) = after_samples o count input
after_act o (bytes s) = after_bytes o s

-- acts one after the other, the first one first
unfoldable pub after : Outcome → List Act → Outcome
after o [] = o
after o (a ∷ acts) = after (after_act o a) acts

-- ---- a case

-- a register, by its place in the list of registers, and what T shows of it
pub record Shown : Type 0 where
  pub register : ℕ
  pub reading : Reading

abbrev INP : Reading → Shown
INP r = record { register = at "A"; reading = r }

abbrev TOT : Reading → Shown
TOT r = record { register = at "B"; reading = r }

abbrev SP1 : Reading → Shown
SP1 r = record { register = at "E"; reading = r }

abbrev CSR : Reading → Shown
CSR r = record { register = at "J"; reading = r }

-- a meter's configuration, the acts since power-up, the number of the last event's answer, and what is shown after it
pub record Case : Type 0 where
  pub config : Config
  pub acts : List Act
  pub answer : ℕ
  pub shown : List Shown

abbrev n : ℕ → Reading
n v = Number (pos v)

unfoldable pub cases : List Case
cases =
    -- step 5: 121 gives 120, 124 gives 125
    record { config = step 5; acts = sample (pos 121) ∷ []; answer = 0; shown = INP (n 120) ∷ [] }
    ∷ record { config = step 5; acts = sample (pos 124) ∷ []; answer = 0; shown = INP (n 125) ∷ [] }
    -- points (0,0),(3,10): input 1 gives 3, -1 gives -3
    ∷ record { config = points (0, 0) (3, 10); acts = sample (pos 1) ∷ []; answer = 0; shown = INP (n 3) ∷ [] }
    ∷ record { config = points (0, 0) (3, 10); acts = sample (minus 1) ∷ []; answer = 0; shown = INP (Number (minus 3)) ∷ [] }
    -- points (0,0),(2,1): input -1 gives -1
    ∷ record { config = points (0, 0) (2, 1); acts = sample (minus 1) ∷ []; answer = 0; shown = INP (Number (minus 1)) ∷ [] }
    -- points (0,0),(10,6), step 2: input 1 gives 2
    ∷ record { config = scale 2 (0, 0) (10, 6); acts = sample (pos 1) ∷ []; answer = 0; shown = INP (n 2) ∷ [] }
    -- display 99,999, step 100: Over
    ∷ record { config = step 100; acts = sample (pos 99999) ∷ []; answer = 0; shown = INP Over ∷ [] }
    -- reading 100, factor 1000, base 60: total 1 after 20 samples, 100 after 1,200
    ∷ record { config = step 1; acts = samples 20 (pos 100) ∷ []; answer = 0; shown = INP (n 100) ∷ TOT (n 1) ∷ [] }
    ∷ record { config = step 1; acts = samples 1200 (pos 100) ∷ []; answer = 0; shown = INP (n 100) ∷ TOT (n 100) ∷ [] }
    -- high, setpoint 100, delay 2 tenths: readings of 101 turn it on at the fourth; 101,101,101,100,101 don't. CSR has 1 where it is on
    ∷ record { config = on_delay 2; acts = samples 3 (pos 101) ∷ []; answer = 0; shown = SP1 (n 100) ∷ INP (n 101) ∷ CSR (n 0) ∷ [] }
    ∷ record { config = on_delay 2; acts = samples 4 (pos 101) ∷ []; answer = 0; shown = SP1 (n 100) ∷ INP (n 101) ∷ CSR (n 1) ∷ [] }
    ∷ record {
      config = on_delay 2;
      acts = samples 3 (pos 101) ∷ sample (pos 100) ∷ sample (pos 101) ∷ [];
      answer = 0;
      shown = SP1 (n 100) ∷ INP (n 101) ∷ CSR (n 0) ∷ [];
    }
    -- `N17VE350$`: node 17 sets SP1 to 350; node 5 answers 3, and its SP1 stays
    ∷ record { config = node 17; acts = string "N17VE350$" ∷ []; answer = 0; shown = SP1 (n 350) ∷ [] }
    ∷ record { config = node 5; acts = string "N17VE350$" ∷ []; answer = 3; shown = SP1 (n 100) ∷ [] }
    -- node 0: `VE123456*` sets 23,456; `VE-120000*` is -20,000, past the limit, and sets -19,999, which document 02 puts for the sheet's 7
    ∷ record { config = node 0; acts = string "VE123456*" ∷ []; answer = 0; shown = SP1 (n 23456) ∷ [] }
    ∷ record { config = node 0; acts = string "VE-120000*" ∷ []; answer = 0; shown = SP1 (Number (minus 19999)) ∷ [] }
    -- VE with 30 digits is judged, and the last five are written; with 31 answers 6, and SP1 stays
    ∷ record { config = node 0; acts = string "VE123456789012345678901234567890*" ∷ []; answer = 0; shown = SP1 (n 67890) ∷ [] }
    ∷ record { config = node 0; acts = string "VE1234567890123456789012345678901*" ∷ []; answer = 6; shown = SP1 (n 100) ∷ [] }
    -- `VJ5*` drives outputs 1 and 3, 16 + 5; `VJ@*` resets all, after a sample that turns all four on
    ∷ record { config = node 0; acts = string "VJ5*" ∷ []; answer = 0; shown = CSR (n 21) ∷ [] }
    ∷ record { config = node 0; acts = sample (pos 500) ∷ []; answer = 0; shown = CSR (n 15) ∷ [] }
    ∷ record { config = node 0; acts = sample (pos 500) ∷ string "VJ@*" ∷ []; answer = 0; shown = CSR (n 0) ∷ [] }
    ∷ []

-- ---- the claim

-- what a case comes to: document 01's numbers of power-up's answer and of the last event's, and what is shown
pub record Result : Type 0 where
  pub power_up : ℕ
  pub answer : ℕ
  pub shown : List Reading

abbrev shown_by : Meter → List Shown → List Reading
shown_by m l = map (λ (s : Shown). shown_at m.config.working m.instrument s.register) l

-- as the meter has it
abbrev pub found : Case → Result
found c =
    let started = powered_up c.config in
    let last = after started c.acts in
    record { power_up = number started.answer; answer = number last.answer; shown = shown_by last.meter c.shown }

-- as the sheet has it; every configuration is accepted
abbrev pub expected : Case → Result
expected c = record { power_up = 0; answer = c.answer; shown = map (λ (s : Shown). s.reading) c.shown }

abbrev pub Holds : Type 0
Holds = map found cases ≡ map expected cases
