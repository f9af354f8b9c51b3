-- What a configuration is judged to be, and what that is in the code: nothing where it is accepted, and the first broken rule where not.
use Rattle.std.specs.Prelude.{Bool, cond, ℕ, Result, Ok, Err}
use Rattle.config.specs.declared.Rule.{Rule}
use Rattle.config.specs.declared.Rule.TheVariants.{Node, Places, RoundingStep, PointCount, Points, Total, LowCut, Alarms, Capture, Analog}

-- accepted, or the number of the first rule that is broken
pub data Verdict : Type 0 where
  Accepted : Verdict
  Broken : ℕ → Verdict

-- document 01's numbers
abbrev pub rule_number : Rule → ℕ
rule_number Node = 1
rule_number Places = 2
rule_number RoundingStep = 3
rule_number PointCount = 4
rule_number Points = 5
rule_number Total = 6
rule_number LowCut = 7
rule_number Alarms = 8
rule_number Capture = 9
rule_number Analog = 10

-- nothing is told of a rule that is kept
abbrev pub unless : Rule → Bool → Result (Unit {0}) Rule
unless rule kept = cond kept (Ok tt) (Err rule)

abbrev pub verdict_of : Result (Unit {0}) Rule → Verdict
verdict_of (Ok kept) = Accepted
verdict_of (Err rule) = Broken (rule_number rule)
