-- A line of one letter has a space behind it.
use Rattle.std.proofs.Common.{◌≡◌, ◌∙◌, ap, ℕ, List, [], ◌∷◌, get_or, rules}
use Rattle.text.proofs.Laws.{rest}
use Rattle.record.specs.Record.{words, short_said}
use Rattle.record.proofs.Said.{too_short, no_space, letter_is}
use Rattle.record.proofs.brief.Goals as goal

pub returns-in-32 : goal.returns-in-32
returns-in-32 c =
    let s = c.args.s.now in
    let e : get_or s 1 0 ≡ 32 = search rules in
    c.short.ensures ∙ ap (λ (l : List ℕ). short_said (get_or s 0 0 ∷ []) (words l)) (rest 2 s)
    ∙ letter_is s c.in-32.len_at_least e

pub returns-in_default : goal.returns-in_default
returns-in_default c = too_short c.args.s.now c.in_default.len_below

pub returns-in_default-2 : goal.returns-in_default-2
returns-in_default-2 c =
    let e : (get_or c.args.s.now 1 0 ≡ 32 → ⊥) = search rules in
    no_space c.args.s.now c.in_default.len_at_least e
