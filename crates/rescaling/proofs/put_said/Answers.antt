-- The arm says what the line is told.
use Rattle.std.proofs.Common.{refl, sym, ap}
use Rattle.text.specs.Output.{waiting, puts}
use Rattle.text.proofs.Pieces.{one, alike}
use Rattle.rescaling.specs.Show.{shown_of}
use Rattle.rescaling.proofs.put_said.Goals as goal

pub returns-in-Configured : goal.returns-in-Configured
unfolding shown_of
returns-in-Configured c = alike _ _ _ _ (ap shown_of (sym c.in-Configured.is)) c.put_answer.ensures

pub returns-in-Read : goal.returns-in-Read
unfolding shown_of
returns-in-Read c = alike _ _ _ _ (ap shown_of (sym c.in-Read.is)) c.put_reading.ensures

pub returns-in-Unknown : goal.returns-in-Unknown
unfolding shown_of
returns-in-Unknown c = alike _ _ _ _ (ap shown_of (sym c.in-Unknown.is)) (one _ _ _ c.put.ensures)

pub returns-in-Silence : goal.returns-in-Silence
unfolding shown_of puts
returns-in-Silence c = alike (waiting c.args.out.now) _ _ _ (ap shown_of (sym c.in-Silence.is)) refl
