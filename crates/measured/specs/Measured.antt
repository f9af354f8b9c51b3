-- What is measured: the reading, and the total, max and min that are made of it. A sample works in this order.
use Rattle.std.specs.Prelude.{Bool, ◌&&◌}
use Rattle.reading.specs.Reading.{displayable}
use Rattle.reading.specs.declared.Reading.{Reading}
use Rattle.reading.specs.declared.Reading.TheVariants.{Nothing}
use Rattle.total.specs.Total as totals
use Rattle.total.specs.declared.Total.{Total}
use Rattle.extremes.specs.Extremes as extremes
use Rattle.extremes.specs.declared.Extreme.{Extreme}
use Rattle.extremes.specs.declared.Side.TheVariants.{Max, Min}
use Rattle.config.specs.declared.Working.{Working}
use Rattle.measured.specs.declared.Measured.{Measured}

-- power-up: no reading, a sum of 0, nothing kept
abbrev pub powered_up : Measured
powered_up = record { reading = Nothing; total = totals.reset; max = extremes.reset Nothing; min = extremes.reset Nothing }

-- a sample
abbrev pub sampled : Working → Measured → Reading → Measured
sampled w m r =
    record {
      reading = r;
      total = totals.sampled w.totalizer m.total r;
      max = extremes.sampled Max w.capture m.max r;
      min = extremes.sampled Min w.capture m.min r;
    }

-- ---- one part changed

abbrev pub with_total : Measured → Total → Measured
with_total m t = record { reading = m.reading; total = t; max = m.max; min = m.min }

abbrev pub with_max : Measured → Extreme → Measured
with_max m e = record { reading = m.reading; total = m.total; max = e; min = m.min }

abbrev pub with_min : Measured → Extreme → Measured
with_min m e = record { reading = m.reading; total = m.total; max = m.max; min = e }

-- sum and total become 0
abbrev pub reset_total : Measured → Measured
reset_total m = with_total m totals.reset

-- max or min takes the present reading if it is a number, else none, and its run is cleared
abbrev pub reset_max : Measured → Measured
reset_max m = with_max m (extremes.reset m.reading)

abbrev pub reset_min : Measured → Measured
reset_min m = with_min m (extremes.reset m.reading)

-- key 1 in a meter set for batch
abbrev pub batched : Working → Measured → Measured
batched w m = with_total m (totals.batched w.totalizer m.total m.reading)

-- ---- what counting and showing lean on: the reading, max and min and what their runs remember can be displayed, and the total is in its range

unfoldable pub sound : Working → Measured → Bool
sound w m =
    displayable m.reading
    && extremes.sound m.max
    && extremes.sound m.min
    && totals.in_range w.totalizer m.total
