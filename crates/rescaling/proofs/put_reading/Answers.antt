-- The arm says what is read.
use Rattle.std.proofs.Common.{◌≡◌, ◌∙◌, sym, ap, w32, to_z, of_z, rules}
use Rattle.text.proofs.Pieces.{one, alike}
use Rattle.rescaling.specs.Show.{number_line, reading_line}
use Rattle.rescaling.proofs.put_reading.Goals as goal

pub returns-in-Nothing : goal.returns-in-Nothing
unfolding reading_line
returns-in-Nothing c = alike _ _ _ _ (ap reading_line (sym c.in-Nothing.is)) (one _ _ _ c.put.ensures)

pub returns-in-Under : goal.returns-in-Under
unfolding reading_line
returns-in-Under c = alike _ _ _ _ (ap reading_line (sym c.in-Under.is)) (one _ _ _ c.put-in-Under.ensures)

pub returns-in-Number : goal.returns-in-Number
unfolding reading_line
returns-in-Number c =
    let v : to_z w32 (of_z w32 c.in-Number.v) ≡ c.in-Number.v = search rules in
    alike _ _ _ _ (ap number_line v ∙ ap reading_line (sym c.in-Number.is)) c.put_number_line.ensures

pub returns-in-Over : goal.returns-in-Over
unfolding reading_line
returns-in-Over c = alike _ _ _ _ (ap reading_line (sym c.in-Over.is)) (one _ _ _ c.put-in-Over.ensures)
