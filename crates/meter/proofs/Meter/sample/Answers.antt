-- `meter::Meter::sample` meets its contract: a meter that passes the test at the door has what scaling and counting lean on. Assumes nothing.
use Rattle.std.proofs.Common.{rules, ◌≡◌, true}
use Rattle.meter.proofs.Started.{passed}
use Rattle.meter.proofs.Meter.sample.Goals as goal

pub read-reading-requires : goal.read-reading-requires
read-reading-requires c =
    let holds : c.is_sound.result ≡ true = search rules in
    (passed c.args.self _ c.is_sound.ensures holds).scale

pub sampled-self-requires : goal.sampled-self-requires
sampled-self-requires c =
    let holds : c.is_sound.result ≡ true = search rules in
    let a = (passed c.args.self _ c.is_sound.ensures holds).able in
    record { timed = a.timed; ranged = a.instrument.measured.total; differ = a.differ }
