-- The configuration that the settings of a line make, in the order of their words.
use Rattle.std.specs.Prelude.{ℕ, zero, suc, ◌+◌, Bool, cond, List, [], ◌∷◌, ◌++◌, get_or, ℤ, pos}
use Rattle.exact.specs.Sign.{eq_z}
use Rattle.alarm.specs.declared.Settings.{Settings}
use Rattle.total.specs.declared.Totalizer.{Totalizer}
use Rattle.config.specs.declared.Config.{Config}
use Rattle.config.specs.declared.Scale.{Scale}
use Rattle.config.specs.declared.Source.{Source}
use Rattle.config.specs.declared.Source.TheVariants.{Points, Platinum}
use Rattle.config.specs.declared.Talking.{Talking}
use Rattle.config.specs.declared.Working.{Working}
use Rattle.register.specs.declared.Print.{Print}
use Rattle.record.specs.Record.{sensor_at}

-- ---- from settings to a configuration

abbrev pub number : List ℤ → ℕ → ℤ
number s i = get_or s i (pos 0)

-- 1 is a yes
abbrev pub yes : List ℤ → ℕ → Bool
yes s i = eq_z (number s i) (pos 1)

-- every second setting from a place on, so many of them
unfoldable pub in_turn : ℕ → List ℤ → ℕ → List ℤ
in_turn zero s i = []
in_turn (suc n) s i = number s i ∷ in_turn n s (i + 2)

-- the sensor, a yes where it is a platinum one
abbrev pub source_of : List ℤ → Source
source_of s = cond (yes s sensor_at) Platinum Points

-- rounding and number of points, then x0 y0 .. x15 y15; the sensor stands last of all
abbrev pub scale_of : List ℤ → Scale
scale_of s =
    record { source = source_of s; step = number s 3; count = number s 4; inputs = in_turn 16 s 5; displays = in_turn 16 s 6 }

-- factor, base, low cut; batch stands among the last seven
abbrev pub totalizer_of : List ℤ → Totalizer
totalizer_of s = record { batch = yes s 67; low_cut = number s 39; factor = number s 37; time_base = number s 38 }

-- an alarm's words from a place on: setpoint, hysteresis, on, off, low, latched
abbrev pub alarm_of : List ℤ → ℕ → Settings
alarm_of s i =
    record {
      hysteresis = number s (i + 1);
      on_delay = number s (i + 2);
      off_delay = number s (i + 3);
      low_acting = yes s (i + 4);
      latched = yes s (i + 5);
    }

-- capture and analog stand behind the four alarms
abbrev pub working_of : List ℤ → Working
working_of s =
    record {
      totalizer = totalizer_of s;
      capture = number s 64;
      alarms = alarm_of s 40 ∷ alarm_of s 46 ∷ alarm_of s 52 ∷ alarm_of s 58 ∷ [];
      analog = record { low = number s 65; high = number s 66 };
    }

abbrev pub print_of : List ℤ → Print
print_of s = record { input = yes s 69; extremes = yes s 70; total = yes s 71; setpoints = yes s 72 }

-- node and places stand first, the rest before the sensor
abbrev pub talking_of : List ℤ → Talking
talking_of s =
    record { node = number s 0; places = record { input = number s 1; total = number s 2 }; abbreviated = yes s 68; print = print_of s }

unfoldable pub config_of : List ℤ → Config
config_of s =
    record {
      scale = scale_of s;
      working = working_of s;
      talking = talking_of s;
      setpoints = number s 40 ∷ number s 46 ∷ number s 52 ∷ number s 58 ∷ [];
    }

-- ---- and back: the settings of a configuration, one after another as they are written

abbrev pub digit : Bool → ℤ
digit b = cond b (pos 1) (pos 0)

unfoldable pub points_in : List ℤ → List ℤ → List ℤ
points_in [] ys = []
points_in (x ∷ xs) [] = []
points_in (x ∷ xs) (y ∷ ys) = x ∷ y ∷ points_in xs ys

abbrev pub alarm_in : ℤ → Settings → List ℤ
alarm_in setpoint a = setpoint ∷ a.hysteresis ∷ a.on_delay ∷ a.off_delay ∷ digit a.low_acting ∷ digit a.latched ∷ []

unfoldable pub alarms_in : List ℤ → List Settings → List ℤ
alarms_in [] ss = []
alarms_in (x ∷ xs) [] = []
alarms_in (x ∷ xs) (a ∷ ss) = alarm_in x a ++ alarms_in xs ss

abbrev pub print_in : Print → List ℤ
print_in p = digit p.input ∷ digit p.extremes ∷ digit p.total ∷ digit p.setpoints ∷ []

abbrev pub sensor_in : Source → ℤ
sensor_in Points = pos 0
sensor_in Platinum = pos 1

unfoldable pub settings_in : Config → List ℤ
settings_in c =
    (c.talking.node ∷ c.talking.places.input ∷ c.talking.places.total ∷ c.scale.step ∷ c.scale.count ∷ [])
    ++ (points_in c.scale.inputs c.scale.displays
    ++ ((c.working.totalizer.factor ∷ c.working.totalizer.time_base ∷ c.working.totalizer.low_cut ∷ [])
    ++ (alarms_in c.setpoints c.working.alarms
    ++ ((c.working.capture ∷ c.working.analog.low ∷ c.working.analog.high ∷ digit c.working.totalizer.batch ∷ digit c.talking.abbreviated ∷ [])
    ++ (print_in c.talking.print ++ (sensor_in c.scale.source ∷ []))))))
