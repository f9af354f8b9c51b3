-- Worked cases of the instrument: what happens to it, and what it then shows.
use Rattle.std.specs.Prelude.{false, List, [], ◌∷◌, map, ℕ, ℤ, pos}
use Prim.Native.Char.{Char}
use Rattle.exact.specs.Sign.{minus}
use Rattle.reading.specs.declared.Reading.{Reading}
use Rattle.reading.specs.declared.Reading.TheVariants.{Nothing, Under, Number, Over}
use Rattle.register.specs.Registers.{at}
use Rattle.alarms.specs.Alarms.{on_bits}
use Rattle.config.specs.Bench.{undelayed}
use Rattle.config.specs.declared.Working.{Working}
use Rattle.instrument.specs.Instrument.{powered_up, sampled, reset_alarms, reset_register, batched, write_register, write_status}
use Rattle.instrument.specs.Shown.{shown_at}
use Rattle.instrument.specs.declared.Instrument.{Instrument}

-- what changes an instrument: a sample's reading, key 1, key 5, R of a register, V of a register, VJ
pub data Change : Type 0 where
  sample : Reading → Change
  batch : Change
  alarms_reset : Change
  reset : Char → Change
  write : Char → ℤ → Change
  write_csr : ℕ → Change

-- the settings of the cases: factor 1,000 and time base 1, no capture time, four high acting alarms of hysteresis 1 without
-- delays at 100, 200, 300 and 400, and the analog code from 0 to 10,000
abbrev pub working : Working
working =
    record {
      totalizer = record { batch = false; low_cut = minus 19999; factor = pos 1000; time_base = pos 1 };
      capture = pos 0;
      alarms = undelayed ∷ undelayed ∷ undelayed ∷ undelayed ∷ [];
      analog = record { low = pos 0; high = pos 10000 };
    }

abbrev pub started : Instrument
started = powered_up (pos 100 ∷ pos 200 ∷ pos 300 ∷ pos 400 ∷ [])

unfoldable pub changed : Instrument → Change → Instrument
changed i (sample r) = sampled working i r
changed i batch = batched working i
changed i alarms_reset = reset_alarms working i
changed i (reset letter) = reset_register working i (at letter)
changed i (write letter z) = write_register working i (at letter) z
changed i (write_csr b) = write_status working i b

-- changes one after the other, the first one first
unfoldable pub after : Instrument → List Change → Instrument
after i [] = i
after i (c ∷ cs) = after (changed i c) cs

-- the changes since power-up, what the ten registers show then, and the alarms that are on, hidden or not, as bits
pub record Case : Type 0 where
  pub changes : List Change
  pub shown : List Reading
  pub alarms : ℕ

abbrev n : ℕ → Reading
n v = Number (pos v)

-- INP, TOT, MAX, MIN, AOR and CSR as given, with the setpoints as configured
abbrev pub shows : Reading → ℕ → Reading → Reading → ℕ → ℕ → List Reading
shows inp tot max min aor csr = inp ∷ n tot ∷ max ∷ min ∷ n 100 ∷ n 200 ∷ n 300 ∷ n 400 ∷ n aor ∷ n csr ∷ []

-- after samples of 500: total, max and min, and all alarms on
abbrev pub at500 : ℕ → ℕ → ℕ → List Reading
at500 tot aor csr = shows (n 500) tot (n 500) (n 500) aor csr

abbrev pub untouched : ℕ → ℕ → List Reading
untouched aor csr = shows Nothing 0 Nothing Nothing aor csr

unfoldable pub cases : List Case
cases =
    -- power-up
    record { changes = []; shown = untouched 0 0; alarms = 0 }
    -- `VJ5` (0x35) drives outputs 1 and 3, 16 + 5; bits 5 to 7 make no difference; `VJ?` (0x3F) drives all
    ∷ record { changes = write_csr 53 ∷ []; shown = untouched 0 21; alarms = 0 }
    ∷ record { changes = write_csr 21 ∷ []; shown = untouched 0 21; alarms = 0 }
    ∷ record { changes = write_csr 63 ∷ []; shown = untouched 0 31; alarms = 0 }
    -- a sample of 500: all alarms on, code 4,095 × 500 / 10,000
    ∷ record { changes = sample (n 500) ∷ []; shown = at500 25 204 15; alarms = 15 }
    -- `VJ@` (0x40) resets all; `VJ.` (0x2E) resets alarm 1 and leaves the others; `VJ/` (0x2F) resets none
    ∷ record { changes = sample (n 500) ∷ write_csr 64 ∷ []; shown = at500 25 204 0; alarms = 0 }
    ∷ record { changes = sample (n 500) ∷ write_csr 46 ∷ []; shown = at500 25 204 14; alarms = 14 }
    ∷ record { changes = sample (n 500) ∷ write_csr 47 ∷ []; shown = at500 25 204 15; alarms = 15 }
    -- to manual: the alarms stay, unseen
    ∷ record { changes = sample (n 500) ∷ write_csr 53 ∷ []; shown = at500 25 204 21; alarms = 15 }
    -- RE in manual mode resets the hidden alarm and leaves the manual bits; key 5 resets all
    ∷ record { changes = sample (n 500) ∷ write_csr 53 ∷ reset "E" ∷ []; shown = at500 25 204 21; alarms = 14 }
    ∷ record { changes = sample (n 500) ∷ write_csr 53 ∷ alarms_reset ∷ []; shown = at500 25 204 21; alarms = 0 }
    -- a sample in manual mode leaves the code and works the alarms
    ∷ record { changes = write_csr 53 ∷ sample (n 500) ∷ []; shown = at500 25 0 21; alarms = 15 }
    -- a written code stands until the return to automatic, which works it out at once from the present reading
    ∷ record { changes = write_csr 53 ∷ write "I" (pos 1000) ∷ sample (n 500) ∷ []; shown = at500 25 1000 21; alarms = 15 }
    ∷ record { changes = write_csr 53 ∷ write "I" (pos 1000) ∷ sample (n 500) ∷ write_csr 47 ∷ []; shown = at500 25 204 15; alarms = 15 }
    -- and gives 0 before any sample, whatever was written
    ∷ record { changes = write_csr 53 ∷ write "I" (pos 1000) ∷ []; shown = untouched 1000 21; alarms = 0 }
    ∷ record { changes = write_csr 53 ∷ write "I" (pos 1000) ∷ write_csr 47 ∷ []; shown = untouched 0 0; alarms = 0 }
    -- from manual to manual the four bits are taken anew
    ∷ record { changes = write_csr 53 ∷ write_csr 58 ∷ []; shown = untouched 0 26; alarms = 0 }
    -- Over drives all alarms and the code 4,095, ends no total and is no max
    ∷ record { changes = sample Over ∷ []; shown = shows Over 0 Nothing Nothing 4095 15; alarms = 15 }
    ∷ record { changes = sample (n 500) ∷ sample Under ∷ []; shown = shows Under 25 (n 500) (n 500) 0 0; alarms = 0 }
    -- RB, RC and RD each act on their own; at 300 alarm 3 stays on by its hysteresis
    ∷ record { changes = sample (n 500) ∷ sample (n 300) ∷ []; shown = shows (n 300) 40 (n 500) (n 300) 122 7; alarms = 7 }
    ∷ record { changes = sample (n 500) ∷ sample (n 300) ∷ reset "B" ∷ []; shown = shows (n 300) 0 (n 500) (n 300) 122 7; alarms = 7 }
    ∷ record { changes = sample (n 500) ∷ sample (n 300) ∷ reset "C" ∷ []; shown = shows (n 300) 40 (n 300) (n 300) 122 7; alarms = 7 }
    ∷ record { changes = sample (n 300) ∷ sample (n 500) ∷ reset "D" ∷ []; shown = shows (n 500) 40 (n 500) (n 500) 204 15; alarms = 15 }
    -- a reset with no number to take leaves none
    ∷ record { changes = sample (n 500) ∷ sample Over ∷ reset "C" ∷ []; shown = shows Over 25 Nothing (n 500) 4095 15; alarms = 15 }
    -- a new setpoint is shown, and leaves the state of its alarm and the other setpoints
    ∷ record {
      changes = sample (n 500) ∷ write "F" (pos 600) ∷ [];
      shown = n 500 ∷ n 25 ∷ n 500 ∷ n 500 ∷ n 100 ∷ n 600 ∷ n 300 ∷ n 400 ∷ n 204 ∷ n 15 ∷ [];
      alarms = 15;
    }
    ∷ record {
      changes = write "H" (minus 5) ∷ [];
      shown = Nothing ∷ n 0 ∷ Nothing ∷ Nothing ∷ n 100 ∷ n 200 ∷ n 300 ∷ Number (minus 5) ∷ n 0 ∷ n 0 ∷ [];
      alarms = 0;
    }
    -- key 1 adds the reading itself
    ∷ record { changes = sample (n 500) ∷ batch ∷ []; shown = at500 525 204 15; alarms = 15 }
    ∷ []

-- what a case comes to
abbrev pub outcome : Case → List Reading × ℕ
outcome k =
    let i = after started k.changes in
    (map (λ (letter : Char). shown_at working i (at letter)) ("A" ∷ "B" ∷ "C" ∷ "D" ∷ "E" ∷ "F" ∷ "G" ∷ "H" ∷ "I" ∷ "J" ∷ []), on_bits i.alarms)

abbrev pub expected : Case → List Reading × ℕ
expected k = (k.shown, k.alarms)
