-- `historian_line::put_record` meets its contract: the record is printed where the writer wrote one. Assumes nothing.
use Rattle.std.proofs.Common.{◌≡◌, ℤ, refl, sym, ap, ◌∙◌, to_z-of_z}
use Rattle.text.proofs.Pieces.{alike}
use Rattle.filed.specs.Filed.{written_of, left}
use Rattle.hexadecimal.specs.Hex.{hex}
use Rattle.historian_line.proofs.Ended.{line_end}
use Rattle.historian_line.proofs.Records.{zeros, record_shown, nothing_shown}
use Rattle.historian_line.proofs.put_record.Goals as goal
use Rattle.historian_line.proofs.put_record.Goals.{After-write}

-- what the writer answers, and what it leaves
answer : (c : After-write) → c.write.result ≡ written_of c.args.reading c.args.places zeros 0
answer c = c.write.ensures.value ∙ ap (λ (z : ℤ). written_of c.args.reading z zeros 0) (to_z-of_z c.ranges.places)

leaves : (c : After-write) → c.write.new.buf ≡ left c.args.reading c.args.places zeros 0
leaves c = c.write.ensures.buf_after ∙ ap (λ (z : ℤ). left c.args.reading z zeros 0) (to_z-of_z c.ranges.places)

pub returns-in-Ok : goal.returns-in-Ok
returns-in-Ok c =
    let w = (goal.at.returns-in-Ok c).After-write in
    alike _ _ _ _ (record_shown c.args.reading c.args.places _ (sym c.in-Ok.is ∙ answer w))
    (line_end _ _ _ (hex (left c.args.reading c.args.places zeros 0)) (alike _ _ _ _ (ap hex (leaves w)) c.put_hex.ensures) c.put.ensures)

pub returns-in-Err : goal.returns-in-Err
returns-in-Err c =
    let w = (goal.at.returns-in-Err c).After-write in
    alike _ _ _ _ (nothing_shown c.args.reading c.args.places _ refl (sym c.in-Err.is ∙ answer w)) c.put_unknown.ensures
