-- The ten rules of a configuration, in document 01's order.
use Rattle.std.specs.Prelude.{Bool, true, cond, not, ◌&&◌, List, [], ◌∷◌, ℕ, suc, ℤ, pos, nat_abs, get_or}
use Rattle.exact.specs.Sign.{eq_z, within}
use Rattle.exact.specs.Tables.{steps, among}
use Rattle.reading.specs.Reading.{in_display, points_in}
use Rattle.total.specs.declared.Totalizer.{Totalizer}
use Rattle.alarm.specs.Alarm.{no_settings}
use Rattle.alarm.specs.declared.Settings.{Settings}
use Rattle.config.specs.declared.Places.{Places}
use Rattle.config.specs.declared.Source.{Source}
use Rattle.config.specs.declared.Source.TheVariants.{Points, Platinum}
use Rattle.config.specs.declared.Scale.{Scale}
use Rattle.config.specs.declared.Analog.{Analog}
use Rattle.config.specs.declared.Config.{Config}
use Rattle.config.specs.Verdict.{Verdict, Accepted, Broken}

-- ---- the rules

-- 1: node 0 to 99
abbrev pub node_rule : ℤ → Bool
node_rule node = within (pos 0) (pos 99) node

-- 2: decimal places of input and of total each 0 to 4
abbrev pub places_rule : Places → Bool
places_rule p = within (pos 0) (pos 4) p.input && within (pos 0) (pos 4) p.total

-- and those of the input 1 where it is a platinum sensor, whose readings are tenths of a degree
abbrev pub input_places : Source → ℤ → Bool
input_places Points places = true
input_places Platinum places = within (pos 1) (pos 1) places

abbrev pub places_rule_by : Source → Places → Bool
places_rule_by source p = places_rule p && input_places source p.input

-- 3: rounding 1, 2, 5, 10, 20, 50 or 100
abbrev pub step_rule : Scale → Bool
step_rule s = among s.step steps

-- a rule that is judged where the reading comes from points, and not of a platinum sensor
abbrev pub of_points : Source → Bool → Bool
of_points Points kept = kept
of_points Platinum kept = true

-- 4: 2 to 16 scaling points
abbrev pub point_count : Source → ℤ → Bool
point_count source count = of_points source (within (pos 2) (pos 16) count)

abbrev pub count_rule : Scale → Bool
count_rule s = point_count s.source s.count

-- 5: of the points in use, inputs -99,999 to 99,999, strictly rising, displays -19,999 to 99,999
abbrev pub points_rule : Scale → Bool
points_rule s = of_points s.source (points_in s.inputs s.displays (nat_abs s.count))

-- 6: scale factor 1 to 65,000 thousandths, time base 1, 60, 3,600 or 86,400
abbrev pub time_bases : List ℤ
time_bases = pos 1 ∷ pos 60 ∷ pos 3600 ∷ pos 86400 ∷ []

abbrev pub total_rule : Totalizer → Bool
total_rule t = within (pos 1) (pos 65000) t.factor && among t.time_base time_bases

-- 7: low cut -19,999 to 99,999
abbrev pub low_cut_rule : Totalizer → Bool
low_cut_rule t = in_display t.low_cut

-- 8: per alarm, setpoint -19,999 to 99,999, hysteresis 1 to 9,999, on delay and off delay each 0 to 32,750 tenths of a second
abbrev pub delay_in : ℤ → Bool
delay_in tenths = within (pos 0) (pos 32750) tenths

unfoldable pub alarm_rule : ℤ → Settings → Bool
alarm_rule setpoint s =
    in_display setpoint && within (pos 1) (pos 9999) s.hysteresis && delay_in s.on_delay && delay_in s.off_delay

abbrev pub alarm_rule_at : List ℤ → List Settings → ℕ → Bool
alarm_rule_at setpoints alarms i = alarm_rule (get_or setpoints i (pos 0)) (get_or alarms i no_settings)

unfoldable pub alarms_rule : List ℤ → List Settings → Bool
alarms_rule setpoints alarms =
    alarm_rule_at setpoints alarms 0 && alarm_rule_at setpoints alarms 1 && alarm_rule_at setpoints alarms 2 && alarm_rule_at setpoints alarms 3

-- 9: capture time 0 to 32,750 tenths
abbrev pub capture_rule : ℤ → Bool
capture_rule tenths = delay_in tenths

-- 10: analog low and high displays in the display range and unequal
abbrev pub analog_rule : Analog → Bool
analog_rule a = in_display a.low && in_display a.high && not (eq_z a.low a.high)

-- ---- the verdict

unfoldable pub rules : Config → List Bool
rules c =
    node_rule c.talking.node
    ∷ places_rule_by c.scale.source c.talking.places
    ∷ step_rule c.scale
    ∷ count_rule c.scale
    ∷ points_rule c.scale
    ∷ total_rule c.working.totalizer
    ∷ low_cut_rule c.working.totalizer
    ∷ alarms_rule c.setpoints c.working.alarms
    ∷ capture_rule c.working.capture
    ∷ analog_rule c.working.analog
    ∷ []

-- of rules that count from n the first that is broken is reported
unfoldable pub first_broken : ℕ → List Bool → Verdict
first_broken n [] = Accepted
first_broken n (kept ∷ rest) = cond kept (first_broken (suc n) rest) (Broken n)

unfoldable pub judged : Config → Verdict
judged c = first_broken 1 (rules c)
