-- `config::alarm_rule` meets its contract: the four tests, each of the number that is given. Assumes nothing.
use Rattle.std.proofs.Common.{rules, ◌≡◌, sym, ◌&&◌, pos}
use Rattle.exact.specs.Sign.{within}
use Rattle.reading.specs.Reading.{in_display}
use Rattle.config.specs.Config.{delay_in, alarm_rule}
use Rattle.config.proofs.alarm_rule.Goals as goal
use Rattle.config.proofs.alarm_rule.Goals.{then-is_within, else-is_within, then-is_within-2, else-is_within-2}

pub returns-then-is_within-3 : goal.returns-then-is_within-3
unfolding alarm_rule
returns-then-is_within-3 c =
    let s = c.args.s in
    let one : c.if-is_within.value ≡ (in_display c.args.setpoint && within (pos 1) (pos 9999) s.hysteresis) =
    elim c.if-is_within.branch [ then-is_within w ↦ search rules | else-is_within w ↦ search rules ]
    in
    let two : c.if-is_within-2.value ≡ (c.if-is_within.value && delay_in s.on_delay) =
    elim c.if-is_within-2.branch [ then-is_within-2 w ↦ search rules | else-is_within-2 w ↦ search rules ]
    in
    let three : c.is_within-then-is_within-3.result ≡ delay_in s.off_delay = search rules in
    rw (sym one, sym two, c.if-is_within-3.true, three)

pub returns-else-is_within-3 : goal.returns-else-is_within-3
unfolding alarm_rule
returns-else-is_within-3 c =
    let s = c.args.s in
    let one : c.if-is_within.value ≡ (in_display c.args.setpoint && within (pos 1) (pos 9999) s.hysteresis) =
    elim c.if-is_within.branch [ then-is_within w ↦ search rules | else-is_within w ↦ search rules ]
    in
    let two : c.if-is_within-2.value ≡ (c.if-is_within.value && delay_in s.on_delay) =
    elim c.if-is_within-2.branch [ then-is_within-2 w ↦ search rules | else-is_within-2 w ↦ search rules ]
    in
    rw (sym one, sym two, c.if-is_within-3.false)
