-- Two configurations that programs and examples start from and change a field of: the one with nothing in it, and document 01's bench
-- meter.
use Rattle.std.specs.Prelude.{false, [], ◌∷◌, ℕ, ℤ, pos, replicate}
use Rattle.exact.specs.Sign.{minus}
use Rattle.alarm.specs.Alarm.{no_settings}
use Rattle.alarm.specs.declared.Settings.{Settings}
use Rattle.register.specs.declared.Print.{Print}
use Rattle.config.specs.declared.Config.{Config}
use Rattle.config.specs.declared.Source.TheVariants.{Points}

-- nothing is printed
abbrev no_print : Print
no_print = record { input = false; extremes = false; total = false; setpoints = false }

-- the configuration with nothing in it: it has no points to scale by, and breaks rule 3
abbrev pub nothing : Config
nothing =
    record {
      scale = record { source = Points; step = pos 0; count = pos 0; inputs = replicate 16 (pos 0); displays = replicate 16 (pos 0) };
      working =
          record {
            totalizer = record { batch = false; low_cut = pos 0; factor = pos 0; time_base = pos 0 };
            capture = pos 0;
            alarms = replicate 4 no_settings;
            analog = record { low = pos 0; high = pos 0 };
          };
      talking = record { node = pos 0; places = record { input = pos 0; total = pos 0 }; abbreviated = false; print = no_print };
      setpoints = replicate 4 (pos 0);
    }

-- high acting, hysteresis 1, with delays in tenths of a second
abbrev pub high : (on off : ℤ) → Settings
high on off = record { hysteresis = pos 1; on_delay = on; off_delay = off; low_acting = false; latched = false }

abbrev pub undelayed : Settings
undelayed = high (pos 0) (pos 0)

-- one place for input and none for total, factor 1,000, base 60, low cut -19,999, setpoints 100, 200, 300 and 400, no capture time,
-- analog 0 to 10,000, every yes/no setting no. Node, step, the two points in use and the settings of alarm 1 are as given, and the
-- other alarms have no delay
abbrev pub meter_of : (node step : ℕ) (first second : ℕ × ℕ) (first_alarm : Settings) → Config
meter_of node step first second first_alarm =
    record {
      scale =
          record {
            source = Points;
            step = pos step;
            count = pos 2;
            inputs = pos first.0 ∷ pos second.0 ∷ replicate 14 (pos 0);
            displays = pos first.1 ∷ pos second.1 ∷ replicate 14 (pos 0);
          };
      working =
          record {
            totalizer = record { batch = false; low_cut = minus 19999; factor = pos 1000; time_base = pos 60 };
            capture = pos 0;
            alarms = first_alarm ∷ undelayed ∷ undelayed ∷ undelayed ∷ [];
            analog = record { low = pos 0; high = pos 10000 };
          };
      talking = record { node = pos node; places = record { input = pos 1; total = pos 0 }; abbreviated = false; print = no_print };
      setpoints = pos 100 ∷ pos 200 ∷ pos 300 ∷ pos 400 ∷ [];
    }

-- the meter of the bench program: node 5, step 1, points (0,0) and (1000,2000), no delay
abbrev pub bench_meter : Config
bench_meter = meter_of 5 1 (0, 0) (1000, 2000) undelayed
