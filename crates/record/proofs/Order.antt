-- The order of the settings: what is written of a configuration makes that configuration again. Assumes nothing.
use mathlib.Core.Path.{◌≡◌, refl}
use mathlib.Core.Bool.{Bool, true, false, cond}
use mathlib.Core.List.{[], ◌∷◌}
use lib.IntN.{ℤ, pos}
use lib.ListN.{length}
use Rattle.exact.specs.Sign.{eq_z}
use Rattle.alarm.specs.declared.Settings.{Settings}
use Rattle.config.specs.declared.Config.{Config}
use Rattle.config.specs.declared.Source.{Source}
use Rattle.config.specs.declared.Source.TheVariants.{Points, Platinum}
use Rattle.register.specs.declared.Print.{Print}
use Rattle.record.specs.Record.{word_count}
use Rattle.record.specs.Configuration.{in_turn, config_of, digit, points_in, alarms_in, sensor_in, settings_in}

digit_yes : (b : Bool) → eq_z (digit b) (pos 1) ≡ b
digit_yes true = refl
digit_yes false = refl

sensor_again : (source : Source) → cond (eq_z (sensor_in source) (pos 1)) Platinum Points ≡ source
sensor_again Points = refl
sensor_again Platinum = refl

module _ (node ip tp rounding count factor base cut a b c d capture low high : ℤ)
    (x0 x1 x2 x3 x4 x5 x6 x7 x8 x9 x10 x11 x12 x13 x14 x15 y0 y1 y2 y3 y4 y5 y6 y7 y8 y9 y10 y11 y12 y13 y14 y15 : ℤ)
    (e f g h : Settings) (batch abbreviated : Bool) (print : Print) (source : Source) where
  -- any configuration of 16 points and four alarms
  abbrev config : Config
  config =
      record {
        scale = record {
          source = source;
          step = rounding;
          count = count;
          inputs = x0 ∷ x1 ∷ x2 ∷ x3 ∷ x4 ∷ x5 ∷ x6 ∷ x7 ∷ x8 ∷ x9 ∷ x10 ∷ x11 ∷ x12 ∷ x13 ∷ x14 ∷ x15 ∷ [];
          displays = y0 ∷ y1 ∷ y2 ∷ y3 ∷ y4 ∷ y5 ∷ y6 ∷ y7 ∷ y8 ∷ y9 ∷ y10 ∷ y11 ∷ y12 ∷ y13 ∷ y14 ∷ y15 ∷ [];
        };
        working = record {
          totalizer = record { batch = batch; low_cut = cut; factor = factor; time_base = base };
          capture = capture;
          alarms = e ∷ f ∷ g ∷ h ∷ [];
          analog = record { low = low; high = high };
        };
        talking = record { node = node; places = record { input = ip; total = tp }; abbreviated = abbreviated; print = print };
        setpoints = a ∷ b ∷ c ∷ d ∷ [];
      }

  pub all_settings : length (settings_in config) ≡ word_count
  unfolding settings_in points_in alarms_in
  all_settings = refl

  pub made_again : config_of (settings_in config) ≡ config
  unfolding config_of in_turn settings_in points_in alarms_in
  made_again = simp (digit_yes, sensor_again)
