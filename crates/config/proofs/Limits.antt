-- The numbers and the limits hold: both columns are computed. Assumes nothing.
use mathlib.Core.Path.{refl}
use Rattle.exact.specs.Tables.{among}
use Rattle.reading.specs.Reading.{points_in, up_to}
use Rattle.config.specs.Config.{alarm_rule, alarms_rule, rules, first_broken, judged}
use Rattle.config.specs.Limits.{pairs, across, rows, NumbersHold, LimitsHold}

pub numbers_hold : NumbersHold
numbers_hold = refl

pub limits_hold : LimitsHold
unfolding judged first_broken rules alarms_rule alarm_rule among points_in up_to pairs across rows
limits_hold = refl
