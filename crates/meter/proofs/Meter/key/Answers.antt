-- `meter::Meter::key` meets its contract: a meter that passes the test at the door has what keys lean on. Assumes nothing.
use Rattle.std.proofs.Common.{rules, ◌≡◌, true}
use Rattle.meter.proofs.Started.{passed}
use Rattle.meter.proofs.Meter.key.Goals as goal

pub press-settled-requires : goal.press-settled-requires
press-settled-requires c =
    let holds : c.is_sound.result ≡ true = search rules in
    (passed c.args.self _ c.is_sound.ensures holds).able
