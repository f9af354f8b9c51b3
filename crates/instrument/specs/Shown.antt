-- What T and P show of the instrument.
use Rattle.std.specs.Prelude.{cond, ◌||◌, ℕ, eqb, pos, nat_abs}
use Rattle.register.specs.Registers.{at}
use Rattle.reading.specs.declared.Reading.{Reading}
use Rattle.reading.specs.declared.Reading.TheVariants.{Number}
use Rattle.total.specs.Total as totals
use Rattle.extremes.specs.Extremes as extremes
use Rattle.alarms.specs.Alarms.{setpoint_of}
use Rattle.config.specs.declared.Places.{Places}
use Rattle.config.specs.declared.Working.{Working}
use Rattle.instrument.specs.Instrument.{alarm_of}
use Rattle.instrument.specs.declared.Instrument.{Instrument}

-- what a register shows: INP, TOT, MAX, MIN, AOR, CSR as it is stored, and from E to H the setpoints
unfoldable pub shown_at : Working → Instrument → ℕ → Reading
shown_at w i r =
    cond (eqb r (at "A")) i.measured.reading
    (cond (eqb r (at "B")) (totals.shown w.totalizer i.measured.total)
    (cond (eqb r (at "C")) (extremes.shown i.measured.max)
    (cond (eqb r (at "D")) (extremes.shown i.measured.min)
    (cond (eqb r (at "I")) (Number i.outputs.code)
    (cond (eqb r (at "J")) (Number (pos i.outputs.status))
    (Number (setpoint_of i.alarms (alarm_of r))))))))

-- the total shows with its own places, the analog register and the status with none, all else with the input's
unfoldable pub places_at : Places → ℕ → ℕ
places_at p r = cond (eqb r (at "B")) (nat_abs p.total) (cond (eqb r (at "I") || eqb r (at "J")) 0 (nat_abs p.input))
