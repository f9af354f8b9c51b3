-- What acceptance gives: the facts that the lower crates lean on. Assumes nothing.
use mathlib.Core.Path.{◌≡◌, refl}
use mathlib.Core.Bool.{true, false, not, ◌&&◌}
use Prim.Native.Nat.{ℕ, ◌<◌}
use native.Mathlib.Omega.{arith}
use lib.IntN.{pos, nat_abs}
use lib.ListN.{get_or}
use Rattle.exact.specs.Sign.{eq_z, within}
use Rattle.exact.specs.Tables.{steps, among}
use Rattle.exact.proofs.Z.{both, from_to, turned_true}
use Rattle.exact.proofs.Table.{among_rule}
use Rattle.reading.specs.Reading.{in_display}
use Rattle.reading.proofs.Scale as scale
use Rattle.config.specs.Config.{node_rule, places_rule, input_places, step_rule, count_rule, points_rule, total_rule, time_bases, analog_rule, rules, judged}
use Rattle.config.specs.Accepted.{Measurable}
use Rattle.config.specs.declared.Config.{Config}
use Rattle.config.specs.declared.Source.TheVariants.{Points}
use Rattle.config.specs.Verdict.{Accepted}
use Rattle.config.proofs.Verdicts.{accepted}

-- ---- rule by rule

module _ (c : Config) (a : judged c ≡ Accepted) where
  rule : (k : ℕ) → k < 10 → get_or (rules c) k true ≡ true
  unfolding rules
  rule k h = ((accepted c).0 a).kept k h

  pub node_in : node_rule c.talking.node ≡ true
  unfolding rules
  node_in = rule 0 (omega arith)

  pub places_in : places_rule c.talking.places ≡ true
  unfolding rules
  places_in = (both (places_rule c.talking.places) (input_places c.scale.source c.talking.places.input) (rule 1 (omega arith))).0

  pub step_in : step_rule c.scale ≡ true
  unfolding rules
  step_in = rule 2 (omega arith)

  count_in : count_rule c.scale ≡ true
  unfolding rules
  count_in = rule 3 (omega arith)

  pub points_in : points_rule c.scale ≡ true
  unfolding rules
  points_in = rule 4 (omega arith)

  pub total_in : total_rule c.working.totalizer ≡ true
  unfolding rules
  total_in = rule 5 (omega arith)

  pub analog_in : analog_rule c.working.analog ≡ true
  unfolding rules
  analog_in = rule 9 (omega arith)

  -- the scale is one that an input can be read on
  step_small : within (pos 1) (pos 100) c.scale.step ≡ true
  step_small = among_rule (within (pos 1) (pos 100)) c.scale.step steps 0 refl step_in

  -- there are 2 to 16 points where the reading comes from them
  counted : c.scale.source ≡ Points → within (pos 2) (pos 16) c.scale.count ≡ true
  counted e = rw e at count_in

  pub scale_accepted : Measurable c.scale
  scale_accepted =
      let s = c.scale in
      record {
        step_in = step_small;
        counted = λ e. (from_to s.count 2 16 (counted e)).0;
        scalable =
            λ e.
            let count = (from_to s.count 2 16 (counted e)).1 in
            scale.accepted s.inputs s.displays (nat_abs s.count) s.step count.0 count.1 (rw e at points_in) step_small;
      }

  -- the factor is 1 to 65,000 and the time base 1 to 86,400
  pub factor_in : within (pos 1) (pos 65000) c.working.totalizer.factor ≡ true
  factor_in = (both (within (pos 1) (pos 65000) c.working.totalizer.factor) (among c.working.totalizer.time_base time_bases) total_in).0

  pub time_base_in : within (pos 1) (pos 86400) c.working.totalizer.time_base ≡ true
  time_base_in =
      among_rule (within (pos 1) (pos 86400)) c.working.totalizer.time_base time_bases 0 refl
      (both (within (pos 1) (pos 65000) c.working.totalizer.factor) (among c.working.totalizer.time_base time_bases) total_in).1

  -- the analog displays differ
  pub analog_differs : eq_z c.working.analog.low c.working.analog.high ≡ false
  analog_differs =
      turned_true (eq_z c.working.analog.low c.working.analog.high)
      (both (in_display c.working.analog.low && in_display c.working.analog.high) (not (eq_z c.working.analog.low c.working.analog.high)) analog_in).1
