-- `alarms::setpoints` meets its contract: the setpoint of each of the four alarms. Assumes nothing.
use Rattle.std.proofs.Common.{◌≡◌, ℕ, ◌<◌, pos, rules, arith}
use Rattle.std.proofs.Math.Seq.{ext_get_or}
use Rattle.std.proofs.Math.ListN.{get_or}
use Rattle.alarm.specs.Alarm.{off}
use Rattle.alarms.specs.Alarms.{setpoint_of, setpoints}
use Rattle.alarms.proofs.Four.{each_of_four}
use Rattle.alarms.proofs.setpoints.Goals as goal

pub returns : goal.returns
returns c =
    let l = c.args.alarms in
    let items = c.map.ensures.items in
    let at : (k : ℕ) → k < 4 → get_or c.map.result k (pos 0) ≡ setpoint_of l k = λ k h. let called = (items.at k (off (pos 0)) (pos 0) h).2 in search rules in
    ext_get_or (pos 0) c.map.result (setpoints l) items.long
    (λ k h. each_of_four (λ (k : ℕ). get_or c.map.result k (pos 0) ≡ get_or (setpoints l) k (pos 0))
    (at 0 (omega arith)) (at 1 (omega arith)) (at 2 (omega arith)) (at 3 (omega arith)) k (omega (arith, items.long)))
