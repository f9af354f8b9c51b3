-- The limits of the ten rules once more, as numbers in a table: configurations at a limit and past it, and what each is judged. So a
-- limit that is wrong in definition and code alike is found here.
use Rattle.std.specs.Prelude.{◌≡◌, false, List, [], ◌∷◌, ◌++◌, map, ℕ, suc, ◌*◌, ℤ, pos, ◌+ℤ◌, ◌-ℤ◌, set, take, drop}
use Rattle.exact.specs.Sign.{minus}
use Rattle.total.specs.declared.Totalizer.{Totalizer}
use Rattle.alarm.specs.declared.Settings.{Settings}
use Rattle.config.specs.Bench.{bench_meter}
use Rattle.config.specs.Config.{judged}
use Rattle.config.specs.Verdict.{Verdict, Accepted, Broken, rule_number}
use Rattle.config.specs.declared.Rule.TheVariants.{Node, Places, RoundingStep, PointCount, Points, Total, LowCut, Alarms, Capture, Analog}
use Rattle.config.specs.declared.Scale.{Scale}
use Rattle.config.specs.declared.Source.TheVariants.{Platinum}
use Rattle.config.specs.declared.Working.{Working}
use Rattle.config.specs.declared.Talking.{Talking}
use Rattle.config.specs.declared.Config.{Config}

-- ---- what is changed in a configuration

abbrev Change : Type 0
Change = Config → Config

abbrev scale : (Scale → Scale) → Change
scale f c = record { scale = f c.scale; working = c.working; talking = c.talking; setpoints = c.setpoints }

abbrev working : (Working → Working) → Change
working f c = record { scale = c.scale; working = f c.working; talking = c.talking; setpoints = c.setpoints }

abbrev talking : (Talking → Talking) → Change
talking f c = record { scale = c.scale; working = c.working; talking = f c.talking; setpoints = c.setpoints }

abbrev node : ℤ → Change
node z = talking (λ t. record { node = z; places = t.places; abbreviated = t.abbreviated; print = t.print })

abbrev places : (input total : ℤ) → Change
places i o = talking (λ t. record { node = t.node; places = record { input = i; total = o }; abbreviated = t.abbreviated; print = t.print })

abbrev platinum : Change
platinum = scale (λ s. record { source = Platinum; step = s.step; count = s.count; inputs = s.inputs; displays = s.displays })

abbrev step : ℤ → Change
step z = scale (λ s. record { source = s.source; step = z; count = s.count; inputs = s.inputs; displays = s.displays })

abbrev count : ℤ → Change
count z = scale (λ s. record { source = s.source; step = s.step; count = z; inputs = s.inputs; displays = s.displays })

-- point k and alarm k, counted from 0
abbrev input : ℕ → ℤ → Change
input k z = scale (λ s. record { source = s.source; step = s.step; count = s.count; inputs = set s.inputs k z; displays = s.displays })

abbrev display : ℕ → ℤ → Change
display k z = scale (λ s. record { source = s.source; step = s.step; count = s.count; inputs = s.inputs; displays = set s.displays k z })

abbrev totalizer : (Totalizer → Totalizer) → Change
totalizer f = working (λ w. record { totalizer = f w.totalizer; capture = w.capture; alarms = w.alarms; analog = w.analog })

abbrev factor : ℤ → Change
factor z = totalizer (λ t. record { batch = t.batch; low_cut = t.low_cut; factor = z; time_base = t.time_base })

abbrev time_base : ℤ → Change
time_base z = totalizer (λ t. record { batch = t.batch; low_cut = t.low_cut; factor = t.factor; time_base = z })

abbrev low_cut : ℤ → Change
low_cut z = totalizer (λ t. record { batch = t.batch; low_cut = z; factor = t.factor; time_base = t.time_base })

abbrev capture : ℤ → Change
capture z = working (λ w. record { totalizer = w.totalizer; capture = z; alarms = w.alarms; analog = w.analog })

abbrev alarm : (k : ℕ) (hysteresis on off : ℤ) → Change
alarm k h n f =
    let settings : Settings = record { hysteresis = h; on_delay = n; off_delay = f; low_acting = false; latched = false } in
    working (λ w. record { totalizer = w.totalizer; capture = w.capture; alarms = set w.alarms k settings; analog = w.analog })

abbrev analog : (low high : ℤ) → Change
analog l h = working (λ w. record { totalizer = w.totalizer; capture = w.capture; alarms = w.alarms; analog = record { low = l; high = h } })

abbrev setpoint : ℕ → ℤ → Change
setpoint k z c = record { scale = c.scale; working = c.working; talking = c.talking; setpoints = set c.setpoints k z }

-- ---- a row

-- a change of the good configuration, and what is judged then
pub record Row : Type 0 where
  pub change : Change
  pub verdict : Verdict

abbrev accepts : Change → Row
accepts c = record { change = c; verdict = Accepted }

abbrev refuses : ℕ → Change → Row
refuses rule c = record { change = c; verdict = Broken rule }

-- a rule that a number is lo to hi: both limits are accepted, and one past each is refused
abbrev between : ℕ → (ℤ → Change) → ℤ → ℤ → List Row
between rule c lo hi = accepts (c lo) ∷ accepts (c hi) ∷ refuses rule (c (lo -ℤ pos 1)) ∷ refuses rule (c (hi +ℤ pos 1)) ∷ []

-- a rule that a number is one of these: each is accepted, and some others are refused
abbrev one_of : ℕ → (ℤ → Change) → List ℕ → List ℕ → List Row
one_of rule c these others = map (λ n. accepts (c (pos n))) these ++ map (λ n. refuses rule (c (pos n))) others

-- every two of some changes, each of which breaks one of the rules from n on: the first is reported
unfoldable pub pairs : ℕ → List Change → List Row
pairs n [] = []
pairs n (first ∷ rest) = map (λ (second : Change). refuses n (λ c. first (second c))) rest ++ pairs (suc n) rest

-- ---- the table

-- the bench meter, with fourteen points behind the two in use
abbrev pub good : Config
good =
    let sixteen : List ℕ = 0 ∷ 1 ∷ 2 ∷ 3 ∷ 4 ∷ 5 ∷ 6 ∷ 7 ∷ 8 ∷ 9 ∷ 10 ∷ 11 ∷ 12 ∷ 13 ∷ 14 ∷ 15 ∷ [] in
    scale
    (λ s. record {
      source = s.source;
      step = s.step;
      count = s.count;
      inputs = map (λ k. pos (1000 * k)) sixteen;
      displays = map (λ k. pos (2000 * k)) sixteen;
    })
    bench_meter

abbrev alarm_rows : ℕ → List Row
alarm_rows k =
    between 8 (setpoint k) (minus 19999) (pos 99999)
    ++ between 8 (λ h. alarm k h (pos 0) (pos 0)) (pos 1) (pos 9999)
    ++ between 8 (λ on. alarm k (pos 1) on (pos 0)) (pos 0) (pos 32750)
    ++ between 8 (λ off. alarm k (pos 1) (pos 0) off) (pos 0) (pos 32750)

-- for each rule a change that breaks it, and that leaves what the others change
abbrev breaks : List Change
breaks =
    node (pos 100)
    ∷ places (pos 5) (pos 0)
    ∷ step (pos 3)
    ∷ count (pos 17)
    ∷ input 1 (pos 0)
    ∷ time_base (pos 2)
    ∷ low_cut (pos 100000)
    ∷ setpoint 3 (pos 100000)
    ∷ capture (pos 32751)
    ∷ analog (pos 100) (pos 100)
    ∷ []

-- the rules that do not ask for the source; of the places those of the total
abbrev alike : List Row
alike =
    between 1 node (pos 0) (pos 99)
    ++ between 2 (λ z. places (pos 1) z) (pos 0) (pos 4)
    ++ one_of 3 step (1 ∷ 2 ∷ 5 ∷ 10 ∷ 20 ∷ 50 ∷ 100 ∷ []) (0 ∷ 3 ∷ 25 ∷ 101 ∷ [])
    ++ between 6 factor (pos 1) (pos 65000)
    ++ one_of 6 time_base (1 ∷ 60 ∷ 3600 ∷ 86400 ∷ []) (0 ∷ 2 ∷ 86401 ∷ [])
    ++ between 7 low_cut (minus 19999) (pos 99999)
    ++ alarm_rows 0
    ++ alarm_rows 1
    ++ alarm_rows 2
    ++ alarm_rows 3
    ++ between 9 capture (pos 0) (pos 32750)
    ++ between 10 (λ z. analog z (pos 10000)) (minus 19999) (pos 99999)
    ++ between 10 (λ z. analog (pos 0) z) (minus 19999) (pos 99999)
    ++ refuses 10 (analog (pos 100) (pos 100))
    ∷ []

-- of points
abbrev by_points : List Row
by_points =
    between 2 (λ z. places z (pos 0)) (pos 0) (pos 4)
    ++ between 4 count (pos 2) (pos 16)
    -- inputs rise, so that the first point alone reaches the low limit and the last one in use the high one
    ++ accepts (input 0 (minus 99999))
    ∷ refuses 5 (input 0 (minus 100000))
    ∷ accepts (input 1 (pos 99999))
    ∷ refuses 5 (input 1 (pos 100000))
    ∷ accepts (input 1 (pos 1))
    ∷ refuses 5 (input 1 (pos 0))
    ∷ between 5 (display 0) (minus 19999) (pos 99999)
    ++ between 5 (display 1) (minus 19999) (pos 99999)
    -- a point that is not in use may be anything; the last of sixteen may not
    ++ accepts (input 2 (pos 100000))
    ∷ accepts (display 2 (pos 100000))
    ∷ refuses 5 (λ c. count (pos 16) (input 15 (pos 100000) c))
    ∷ refuses 5 (λ c. count (pos 16) (input 15 (pos 14000) c))
    ∷ refuses 5 (λ c. count (pos 16) (display 15 (pos 100000) c))
    ∷ pairs 1 breaks

-- of a platinum sensor: its places are 1, and neither the points nor their number are judged
abbrev by_platinum : List Row
by_platinum =
    one_of 2 (λ z. places z (pos 0)) (1 ∷ []) (0 ∷ 2 ∷ 3 ∷ 4 ∷ 5 ∷ [])
    ++ refuses 2 (places (minus 1) (pos 0))
    ∷ map (λ z. accepts (count z)) (minus 1 ∷ pos 0 ∷ pos 1 ∷ pos 2 ∷ pos 16 ∷ pos 17 ∷ [])
    ++ accepts (input 0 (minus 100000))
    ∷ accepts (input 1 (pos 0))
    ∷ accepts (display 0 (minus 20000))
    ∷ accepts (display 1 (pos 100000))
    ∷ []

-- every two of which the first breaks one of the rules from n on, and the second a later one
unfoldable pub across : ℕ → List Change → List Change → List Row
across n [] later = []
across n (first ∷ rest) later = map (λ (second : Change). refuses n (λ c. first (second c))) later ++ across (suc n) rest later

-- the rules that are judged there keep their order, whatever rules 4 and 5 would have found
abbrev by_both : List Row
by_both = pairs 1 (take 3 breaks) ++ across 1 (take 3 breaks) (drop 5 breaks) ++ pairs 6 (drop 5 breaks)

-- the same row of a meter with a sensor
abbrev sensed : Change → Row → Row
sensed before r = record { change = λ c. r.change (platinum (before c)); verdict = r.verdict }

unfoldable pub rows : List Row
rows =
    alike
    ++ by_points
    ++ map (sensed (λ c. c)) (alike ++ by_platinum)
    ++ map (sensed (λ c. count (pos 17) (input 1 (pos 0) c))) by_both

-- ---- the claims

-- the rules are numbered in document 01's order
abbrev pub NumbersHold : Type 0
NumbersHold =
    map rule_number (Node ∷ Places ∷ RoundingStep ∷ PointCount ∷ Points ∷ Total ∷ LowCut ∷ Alarms ∷ Capture ∷ Analog ∷ [])
    ≡ 1 ∷ 2 ∷ 3 ∷ 4 ∷ 5 ∷ 6 ∷ 7 ∷ 8 ∷ 9 ∷ 10 ∷ []

abbrev pub LimitsHold : Type 0
LimitsHold = map (λ (r : Row). judged (r.change good)) rows ≡ map (λ (r : Row). r.verdict) rows
