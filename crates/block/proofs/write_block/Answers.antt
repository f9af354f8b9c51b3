-- `block::write_block` meets its contract: what is put is the block, as long as the room that is asked for. Assumes nothing.
use Rattle.std.proofs.Common.{◌≡◌, refl, ◌∙◌, sym, ap, Bool, true, false, cond, List, ℕ, ◌++◌, ◌≤◌, Some, None, length, take, drop, arith, rules}
use Rattle.std.proofs.lemmas.Option.{cond_some, none-some}
use Rattle.line.specs.Buffer.{over}
use Rattle.line.proofs.Over.{whole, refused}
use Rattle.block.specs.Block.{block}
use Rattle.block.specs.Values.{value_line}
use Rattle.block.proofs.Blocks.{block_length_lem, value_length}
use Rattle.block.proofs.write_block.Goals as goal

pub write_whole-requires : goal.write_whole-requires
write_whole-requires c =
    let a = c.args in
    let e = c.block_length-bytes.ensures ∙ sym (block_length_lem a.print _ _ (value_length a.style a.values c.requires)) in
    λ tail h.
    let k : length (block a.print (value_line a.style a.values)) ≤ length tail.now = omega (arith, e, h) in
    search rules

-- no answer says that there was no room
no_room : (had : Bool) (n : ℕ) → cond had (Some n) None ≡ None → had ≡ false
no_room true n e = absurd (none-some n (sym e))
no_room false n e = refl

pub returns-in_err-write_whole : goal.returns-in_err-write_whole
returns-in_err-write_whole c =
    let a = c.args in
    let w = c.write_whole in
    let room = no_room _ _ (sym w.ensures.value ∙ c.in_err-write_whole.was) in
    let r =
    refused a.buf.now (block a.print (value_line a.style a.values)) a.place _
    (c.block_length-bytes.ensures ∙ sym (block_length_lem a.print _ _ (value_length a.style a.values c.requires))) room in
    (c.from_residual.ensures ∙ r.0, w.ensures.left room ∙ r.1)

pub returns : goal.returns
returns c =
    let a = c.args in
    let w = c.write_whole in
    let reply = block a.print (value_line a.style a.values) in
    let room = (cond_some _ _ _ (sym w.ensures.value ∙ c.in_ok-write_whole.was)).0 in
    whole a.buf.now reply _ a.place _ _
    (c.block_length-bytes.ensures ∙ sym (block_length_lem a.print _ _ (value_length a.style a.values c.requires))) (rw room (ap (λ (n : ℕ). Some n) (omega arith)))
    (λ e.
    let t = w.ensures.written e in
    let q : t.0 ≡ over (drop a.place a.buf.now) reply = search rules in
    t.2 ∙ ap (λ (tail : List ℕ). take a.place a.buf.now ++ tail) q)
    w.ensures.left
