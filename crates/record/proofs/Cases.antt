-- Lines and what they say, with how many settings are read of each, in one table with one claim; and a whole configuration.
-- Assumes nothing.
use mathlib.Core.Path.{◌≡◌, refl}
use mathlib.Core.List.{List, [], ◌∷◌, ◌++◌, map}
use Prim.Native.Nat.{ℕ}
use Rattle.std.specs.Prelude.{Option, Some, None}
use lib.IntN.{pos}
use lib.ListN.{length}
use Rattle.exact.specs.Sign.{minus}
use Rattle.register.specs.Bytes.{ascii}
use Rattle.text.specs.Number.{digits, value, natural_of, signed_of, number_of, flag_of}
use Rattle.config.specs.Bench.{bench_meter}
use Rattle.config.specs.declared.Config.{Config}
use Rattle.config.specs.declared.Source.TheVariants.{Platinum}
use Rattle.record.specs.Record.{words, same, one_word, two_words, kinds, settings_of, configuration_said, short_said, event_of, read_of}
use Rattle.record.specs.Configuration.{in_turn, config_of}
use Rattle.record.specs.declared.Event.{Event}
use Rattle.record.specs.declared.Event.TheVariants.{Configuration, Sample, Key, Byte}

pub record Row : Type 0 where
  pub line : List ℕ
  pub says : Option Event
  pub read : ℕ

abbrev row : List ℕ → Option Event → ℕ → Row
row l e n = record { line = l; says = e; read = n }

-- document 01's bench meter, as a line without the sensor, and without the last word before it
abbrev short_line : List ℕ
short_line =
    ascii "CFG 5 1 0 1 2 0 0 1000 2000 0 0 0 0 0 0 0 0 0 0 0 0 0 0 0 0 0 0 0 0 0 0 0 0 0 0 0 0"
    ++ ascii " 1000 60 -19999 100 1 0 0 0 0 200 1 0 0 0 0 300 1 0 0 0 0 400 1 0 0 0 0 0 0 10000 0 0 0 0 0"

abbrev bench_line : List ℕ
bench_line = short_line ++ ascii " 0"

-- the fifth word of its first alarm is a yes or no
abbrev two_line : List ℕ
two_line =
    ascii "CFG 5 1 0 1 2 0 0 1000 2000 0 0 0 0 0 0 0 0 0 0 0 0 0 0 0 0 0 0 0 0 0 0 0 0 0 0 0 0"
    ++ ascii " 1000 60 -19999 100 1 0 0 2 0 200 1 0 0 0 0 300 1 0 0 0 0 400 1 0 0 0 0 0 0 10000 0 0 0 0 0 0"

abbrev pub rows : List Row
rows =
    row (ascii "S 437") (Some (Sample (pos 437))) 0
    ∷ row (ascii "S -1") (Some (Sample (minus 1))) 0
    ∷ row (ascii "S 0000000437") (Some (Sample (pos 437))) 0
    ∷ row (ascii "S 00000000437") None 0
    ∷ row (ascii "S 2147483647") (Some (Sample (pos 2147483647))) 0
    ∷ row (ascii "S 2147483648") None 0
    ∷ row (ascii "S -2147483648") (Some (Sample (minus 2147483648))) 0
    ∷ row (ascii "S +1") None 0
    ∷ row (ascii "S 1 2") None 0
    ∷ row (ascii "S  1") None 0
    ∷ row (ascii "S 1 ") None 0
    ∷ row (ascii "S") None 0
    ∷ row (ascii "S ") None 0
    ∷ row (ascii " S 1") None 0
    ∷ row (ascii "s 1") None 0
    ∷ row (ascii "SS 1") None 0
    ∷ row (ascii "S 1" ++ (13 ∷ [])) None 0
    ∷ row (ascii "K 6 0") (Some (Key (pos 6) 0)) 0
    ∷ row (ascii "K -6 18446744073709551615") (Some (Key (minus 6) 18446744073709551615)) 0
    ∷ row (ascii "K 6 18446744073709551616") None 0
    ∷ row (ascii "K 6") None 0
    ∷ row (ascii "K 6 -1") None 0
    ∷ row (ascii "K 6 0 0") None 0
    ∷ row (ascii "K  6 0") None 0
    ∷ row (ascii "K 6  0") None 0
    ∷ row (ascii "B 255 3") (Some (Byte 255 3)) 0
    ∷ row (ascii "B 065 0") (Some (Byte 65 0)) 0
    ∷ row (ascii "B 256 0") None 0
    ∷ row (ascii "B 0065 0") None 0
    ∷ row (ascii "B -1 0") None 0
    ∷ row (ascii "B 65 0 ") None 0
    ∷ row (ascii "") None 0
    ∷ row (ascii "X 1") None 0
    ∷ row (ascii "CFG") None 0
    ∷ row (ascii "CFG ") None 0
    ∷ row (ascii "CFG 1") None 1
    ∷ row (ascii "CFG 1 2  3") None 2
    ∷ row (ascii "CFG 1 x 3") None 1
    ∷ row (ascii "CFG 1" ++ (13 ∷ [])) None 0
    ∷ row short_line None 72
    ∷ row bench_line (Some Configuration) 74
    ∷ row (bench_line ++ ascii " 0") (Some Configuration) 74
    ∷ row (bench_line ++ ascii " 1") (Some Configuration) 74
    ∷ row (bench_line ++ ascii " 2") None 73
    ∷ row (bench_line ++ ascii " 01") None 73
    ∷ row (bench_line ++ ascii " ") None 73
    ∷ row (bench_line ++ ascii " 0 0") None 74
    ∷ row (bench_line ++ ascii " 1 ") None 74
    ∷ row (bench_line ++ ascii "1") None 72
    ∷ row two_line None 44
    ∷ row (two_line ++ ascii " 1") None 44
    ∷ []

pub cases : map (λ (r : Row). row r.line (event_of r.line) (length (read_of r.line))) rows ≡ rows
unfolding event_of read_of words same one_word two_words kinds settings_of configuration_said short_said number_of signed_of natural_of digits value flag_of
cases = refl

-- the line of the bench meter makes it, and a sensor of 1 makes it one of platinum
abbrev platinum_meter : Config
platinum_meter =
    let s = bench_meter.scale in
    record {
      scale = record { source = Platinum; step = s.step; count = s.count; inputs = s.inputs; displays = s.displays };
      working = bench_meter.working;
      talking = bench_meter.talking;
      setpoints = bench_meter.setpoints;
    }

pub bench_meter_lem : map (λ (end : List ℕ). config_of (read_of (bench_line ++ end))) ([] ∷ ascii " 0" ∷ ascii " 1" ∷ []) ≡ bench_meter ∷ bench_meter ∷ platinum_meter ∷ []
unfolding config_of in_turn read_of words same kinds settings_of number_of signed_of natural_of digits value flag_of
bench_meter_lem = refl
