-- `alarm::off_condition` meets its contract: at least a number is above the one before it, and at most a number is below the next. Assumes nothing.
use Rattle.std.proofs.Common.{◌+ℤ◌, ◌-ℤ◌, rules}
use Rattle.alarm.specs.Alarm.{off_condition}
use Rattle.alarm.proofs.Laws.{at_most_below, at_least_above}
use Rattle.alarm.proofs.off_condition.Goals as goal

pub returns-then-s : goal.returns-then-s
unfolding off_condition
returns-then-s c =
    let s = c.args in
    rw (c.if-s.true, at_least_above s.reading (s.a.setpoint +ℤ s.s.hysteresis)) (search rules)

pub returns-else-s : goal.returns-else-s
unfolding off_condition
returns-else-s c =
    let s = c.args in
    rw (c.if-s.false, at_most_below s.reading (s.a.setpoint -ℤ s.s.hysteresis)) (search rules)
