-- Each point is the word at its place.
use Rattle.std.proofs.Common.{◌≡◌, ◌∙◌, refl, ap, ℕ, ◌+◌, ◌*◌, arith, rules}
use Rattle.record.specs.Configuration.{number, in_turn}
use Rattle.record.proofs.Settings.{drawn, turns}
use Rattle.record.proofs.in_turn.Goals as goal

pub returns : goal.returns
returns c =
    let s = c.args.s.now in
    let at = c.args.at in
    let items = c.from_fn.ensures.items in
    let z : at + 2 * 0 ≡ at = omega arith in
    drawn _ (λ p. (p.0.now ≡ s) × (p.1.now ≡ at)) (λ (k : ℕ). number s (at + 2 * k)) 16 (λ p q i y h k w. (search rules, search rules)) _ c.from_fn.result 0 16 items.long refl (refl, refl) items.each
    ∙ turns s at 0 16 ∙ ap (in_turn 16 s) z
