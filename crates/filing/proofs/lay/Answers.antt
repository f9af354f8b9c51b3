-- `filing::lay` meets its contract: what is put is the record, which is as long as the room that is asked for. Assumes nothing.
use Rattle.std.proofs.Common.{◌≡◌, ◌∙◌, refl, ap, List, ℕ, ◌++◌, length, take, drop, Bool, true, false, cond, Option, Some, None, Ok, Err, ok_or, rules}
use Rattle.line.specs.Buffer.{over, room}
use Rattle.line.proofs.Over.{whole}
use Rattle.filed.specs.declared.Unwritten.TheVariants.{NoRoom}
use Rattle.filing.proofs.lay.Goals as goal

by_room : (t : Bool) (n : ℕ) → ok_or (cond t (Some n) None) NoRoom ≡ cond t (Ok n) (Err NoRoom)
by_room true n = refl
by_room false n = refl

pub returns-clause-value : goal.returns-clause-value
returns-clause-value c =
    let a = c.args in
    c.ok_or.ensures.value ∙ ap (λ (r : Option ℕ). ok_or r NoRoom) c.write_whole.ensures.value ∙ by_room (room (length a.buf.now) a.place 8) 8

pub returns-clause-buf_after : goal.returns-clause-buf_after
returns-clause-buf_after c =
    let a = c.args in
    let w = c.write_whole in
    let long : 8 ≡ length a.text = search rules in
    (whole a.buf.now a.text _ a.place 8 _ long w.ensures.value
    (λ e.
    let t = w.ensures.written e in
    let q : t.0 ≡ over (drop a.place a.buf.now) a.text = search rules in
    t.2 ∙ ap (λ (tail : List ℕ). take a.place a.buf.now ++ tail) q)
    w.ensures.left).1
