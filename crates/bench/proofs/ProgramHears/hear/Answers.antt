-- What is printed leaves the meter and the reply as the event left them.
use Rattle.text.specs.Line.{heard}
use Rattle.bench.proofs.Stream.{told_stand}
use Rattle.bench.proofs.ProgramHears.hear.Goals as goal

pub returns : goal.returns
returns c =
    told_stand c.args.self.now c.event-said.new.self (heard c.args.line.now) _ _ c.event-said.ensures.value c.event-said.ensures.program_after c.put_said.ensures
