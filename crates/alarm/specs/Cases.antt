-- Worked cases of one alarm.
use Rattle.std.specs.Prelude.{Bool, true, false, List, [], ◌∷◌, ℕ, pos}
use Rattle.reading.specs.declared.Reading.{Reading}
use Rattle.reading.specs.declared.Reading.TheVariants.{Nothing, Under, Number, Over}
use Rattle.alarm.specs.declared.Settings.{Settings}
use Rattle.alarm.specs.declared.Alarm.{Alarm}
use Rattle.alarm.specs.Alarm.{alarm, sampled}

-- samples one after the other, the first one first
unfoldable pub after : Settings → Alarm → List Reading → Alarm
after s a [] = a
after s a (r ∷ rs) = after s (sampled s a r) rs

-- settings, the alarm at first, the readings, and the alarm then
pub record Case : Type 0 where
  pub settings : Settings
  pub first : Alarm
  pub readings : List Reading
  pub last : Alarm

abbrev n : ℕ → Reading
n v = Number (pos v)

-- hysteresis 10, an on delay of 2 tenths, an off delay of 1
abbrev acting : Bool → Bool → Settings
acting low latched =
    record { hysteresis = pos 10; on_delay = pos 2; off_delay = pos 1; low_acting = low; latched = latched }

abbrev high : Settings
high = acting false false

abbrev low : Settings
low = acting true false

abbrev latched_high : Settings
latched_high = acting false true

-- an alarm at setpoint 100
abbrev off : ℕ → Alarm
off run = alarm (pos 100) false run

abbrev on : ℕ → Alarm
on run = alarm (pos 100) true run

unfoldable pub cases : List Case
cases =
    -- the bench sheet: high, setpoint 100, delay 2 tenths; readings of 101 turn it on at the fourth
    record { settings = high; first = off 0; readings = n 101 ∷ n 101 ∷ n 101 ∷ []; last = off 3 }
    ∷ record { settings = high; first = off 0; readings = n 101 ∷ n 101 ∷ n 101 ∷ n 101 ∷ []; last = on 0 }
    -- 101, 101, 101, 100, 101 do not: a reading at the setpoint is not above it
    ∷ record { settings = high; first = off 0; readings = n 101 ∷ n 101 ∷ n 101 ∷ n 100 ∷ n 101 ∷ []; last = off 1 }
    -- Over lies above every number; Under and nothing end the run
    ∷ record { settings = high; first = off 0; readings = Over ∷ Over ∷ n 101 ∷ Over ∷ []; last = on 0 }
    ∷ record { settings = high; first = off 3; readings = Under ∷ []; last = off 0 }
    ∷ record { settings = high; first = off 3; readings = Nothing ∷ []; last = off 0 }
    -- while on, the off delay counts: 90 is at setpoint - hysteresis, 91 is not
    ∷ record { settings = high; first = on 0; readings = n 90 ∷ n 91 ∷ n 90 ∷ []; last = on 1 }
    ∷ record { settings = high; first = on 0; readings = n 90 ∷ Under ∷ []; last = off 0 }
    -- the sample that changes the state is not judged for the other direction
    ∷ record { settings = high; first = off 3; readings = n 101 ∷ n 90 ∷ []; last = on 1 }
    -- latched, it stays on with run 0
    ∷ record { settings = latched_high; first = on 0; readings = n 90 ∷ Under ∷ Under ∷ []; last = on 0 }
    -- low acting: on below the setpoint, off at setpoint + hysteresis
    ∷ record { settings = low; first = off 0; readings = n 99 ∷ n 99 ∷ Under ∷ n 99 ∷ []; last = on 0 }
    ∷ record { settings = low; first = off 0; readings = n 99 ∷ n 99 ∷ n 99 ∷ n 100 ∷ []; last = off 0 }
    ∷ record { settings = low; first = on 0; readings = n 110 ∷ n 109 ∷ n 110 ∷ []; last = on 1 }
    ∷ record { settings = low; first = on 0; readings = n 110 ∷ Over ∷ []; last = off 0 }
    ∷ []

-- what a case comes to
abbrev pub outcome : Case → Alarm
outcome k = after k.settings k.first k.readings
