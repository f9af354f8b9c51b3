-- `excursion::MeterCore::heard` meets its contract: the buffer lent is the definition's, and the call is the meter's own. Assumes nothing.
use Rattle.std.proofs.Common.{ap, ◌∙◌}
use Rattle.meter.specs.Meter.{received}
use Rattle.meter.specs.declared.Meter.{Meter}
use Rattle.meter.specs.declared.Outcome.{Outcome}
use Rattle.looking.specs.Polls.{lent}
use Rattle.excursion.proofs.MeterCore.heard.Goals as goal

pub returns : goal.returns
returns c =
    let b = c.args.b in
    λ h e. ap (λ (o : Outcome). o.meter) c.byte.ensures.value ∙ ap (λ (m : Meter). (received m b lent 0).outcome.meter) e
