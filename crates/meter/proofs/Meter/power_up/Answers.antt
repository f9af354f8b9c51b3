-- `meter::Meter::power_up` meets its contract: the verdict decides. Assumes nothing.
use Rattle.std.proofs.Common.{sym, ap, ◌∙◌}
use Rattle.config.specs.Verdict.{verdict_of}
use Rattle.config.proofs.Acceptance.{scale_accepted}
use Rattle.segments.proofs.ByPoints.{none_is}
use Rattle.meter.proofs.Meter.power_up.Goals as goal

pub made-requires : goal.made-requires
made-requires c = scale_accepted c.args.config (sym c.judged.ensures ∙ ap verdict_of c.in-Ok.is)

pub returns-in-Ok : goal.returns-in-Ok
returns-in-Ok c = rw (sym c.judged.ensures ∙ ap verdict_of c.in-Ok.is, c.fresh.ensures, c.made.ensures)

pub returns-in-Err : goal.returns-in-Err
returns-in-Err c =
    rw (sym c.judged.ensures ∙ ap verdict_of c.in-Err.is, c.number.ensures, c.fresh-in-Err.ensures, c.nothing.ensures, c.none.ensures, none_is)
