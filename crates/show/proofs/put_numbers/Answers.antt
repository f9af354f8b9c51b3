-- Each turn puts one number more.
use Rattle.std.proofs.Common.{rules, ◌≡◌, ◌∙◌, sym, ap, pos, get_or, take, drop, ◌+◌, w64, to_z, of_z}
use Rattle.text.specs.Output.{Waiting, puts}
use Rattle.show.specs.Show.{behind_commas}
use Rattle.show.proofs.Pieces.{puts_next, commas_next}
use Rattle.show.proofs.put_numbers.Goals as goal

pub loop-z-preserved : goal.loop-z-preserved
loop-z-preserved c =
    let l = c.loop-z in
    let rest = take 3 (drop 1 c.args.numbers.now) in
    let z = get_or rest l.z-index (pos 0) in
    let is : to_z w64 (of_z w64 z) ≡ z = search rules in
    l.invariant ∙ ap (puts _) (commas_next rest l.z-index c.loop-z-test.true) ∙ puts_next _ _ _
    ∙ ap (λ (w : Waiting). puts w (behind_commas (drop (l.z-index + 1) rest))) (sym (rw is at c.put_named-in-loop-z.ensures))
