-- `config::alarms_rule` meets its contract: what the walk over both lists tests is the rule of each of the four. Assumes nothing.
use Rattle.std.proofs.Common.{rules, ◌≡◌, ◌∙◌, refl, Bool, true, false, ◌&&◌, List, [], ℕ, ◌+◌, ◌<◌, length, drop, ℤ, pos, arith}
use Rattle.std.proofs.lemmas.Iterator.{YieldsList-from_slice, YieldsList-from_zip}
use Rattle.std.proofs.lemmas.Iterator.Search.{all_from_yields_List}
use Rattle.std.proofs.Math.ListN.{drop_of_length-le}
use Rattle.std.proofs.lemmas.List.{drop_more}
use Rattle.std.specs.List.{list_all, zip}
use Rattle.alarm.specs.Alarm.{no_settings}
use Rattle.alarm.specs.declared.Settings.{Settings}
use Rattle.config.specs.Config.{alarm_rule, alarm_rule_at, alarms_rule}
use Rattle.config.proofs.alarms_rule.Goals as goal

abbrev kept_from : List ℤ → List Settings → ℕ → Bool
kept_from setpoints alarms k = list_all (λ (p : ℤ × Settings). alarm_rule p.0 p.1) (zip (drop k setpoints) (drop k alarms))

one : (setpoints : List ℤ) (alarms : List Settings) (k : ℕ) → k < length setpoints → k < length alarms
    → kept_from setpoints alarms k ≡ (alarm_rule_at setpoints alarms k && kept_from setpoints alarms (k + 1))
one setpoints alarms k s a = rw (drop_more setpoints k (pos 0) s, drop_more alarms k no_settings a) refl

none : (setpoints : List ℤ) (alarms : List Settings) (k : ℕ) → length setpoints ≡ k → kept_from setpoints alarms k ≡ true
none setpoints alarms k s = let e : drop k setpoints ≡ [] = drop_of_length-le setpoints (omega arith) in rw e

regrouped : (a b c d : Bool) → (a && (b && (c && (d && true)))) ≡ (a && b && c && d)
regrouped true true true true = refl
regrouped true true true false = refl
regrouped true true false d = refl
regrouped true false c d = refl
regrouped false b c d = refl

four : (setpoints : List ℤ) (alarms : List Settings) → length setpoints ≡ 4 → length alarms ≡ 4
    → kept_from setpoints alarms 0 ≡ alarms_rule setpoints alarms
unfolding alarms_rule
four setpoints alarms e f =
    let a = one setpoints alarms 0 (omega arith) (omega arith) in
    let b = one setpoints alarms 1 (omega arith) (omega arith) in
    let c = one setpoints alarms 2 (omega arith) (omega arith) in
    let d = one setpoints alarms 3 (omega arith) (omega arith) in
    let e : kept_from setpoints alarms 4 ≡ true = none setpoints alarms 4 (omega arith) in
    rw (a, b, c, d, e)
    (regrouped (alarm_rule_at setpoints alarms 0) (alarm_rule_at setpoints alarms 1) (alarm_rule_at setpoints alarms 2) (alarm_rule_at setpoints alarms 3))

pub returns : goal.returns
returns c =
    all_from_yields_List (λ (p : ℤ × Settings). alarm_rule p.0 p.1) c.all.new.self _ _ c.all.ensures.ran
    (YieldsList-from_zip (YieldsList-from_slice c.args.setpoints.now (cc)) (YieldsList-from_slice c.args.alarms.now (cc)))
    (λ x b q k. search rules)
    ∙ four c.args.setpoints.now c.args.alarms.now (search rules) (search rules)
