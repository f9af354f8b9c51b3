-- What the line is judged to be opens the program, and a configuration is that of the line's own settings.
use Rattle.std.proofs.Common.{◌∙◌, sym, ap, length, Some, None, rules}
use Rattle.config.specs.Config.{judged}
use Rattle.config.specs.declared.Config.{Config}
use Rattle.record.specs.Record.{read_heard}
use Rattle.record.specs.Configuration.{config_of}
use Rattle.record.specs.declared.Event.TheVariants.{Configuration}
use Rattle.text.specs.Line.{heard}
use Rattle.rescaling.specs.Rescaling.{by_verdict}
use Rattle.rescaling.specs.Held.{opened_as}
use Rattle.rescaling.proofs.Starts.{settled, opens, other}
use Rattle.rescaling.proofs.first.Goals.{in_default-via-in-Some+in_default, in_default-via-in_default}
use Rattle.rescaling.proofs.first.Goals as goal

pub returns-in-Some-Configuration : goal.returns-in-Some-Configuration
returns-in-Some-Configuration c =
    let h = heard c.args.line.now in
    let j = c.judge.ensures in
    let y = ap Some (sym c.in-Some-Configuration.field-0-is) ∙ sym c.in-Some-Configuration.is ∙ j.value in
    let u = c.config_of.ensures in
    let p = j.settings_after ∙ settled h c.args.settings.now y (ap length (sym j.settings_after) ∙ u.s_len) in
    c.configured.ensures ∙ ap (λ (k : Config). opened_as (by_verdict k.scale (judged k))) (u.value ∙ ap config_of p) ∙ opens h (Some Configuration) y

pub returns-in_default : goal.returns-in_default
returns-in_default c =
    let h = heard c.args.line.now in
    elim c.in_default.branch [
      | in_default-via-in-Some+in_default w ↦
          let e = Some w.in_default.field-0 in
          c.unconfigured.ensures ∙ ap opened_as (other (config_of (read_heard h)) e (λ p. search rules)) ∙ opens h e (sym w.in_default.is ∙ c.judge.ensures.value)
      | in_default-via-in_default w ↦ c.unconfigured.ensures ∙ opens h None (sym w.in_default.is ∙ c.judge.ensures.value)
    ]
