-- `text::word_end` meets its contract: std finds the first space of what is left of the line. Assumes nothing.
use Rattle.std.proofs.Common.{rules, ◌≡◌, sym, ap, ◌∙◌, ℕ, ◌+◌, ◌-◌, cond, ltb, eqb, length, take, drop, not, arith}
use Rattle.std.specs.Prelude.{Some, None}
use Rattle.std.specs.List.{position_or_len}
use Rattle.std.proofs.lemmas.Iterator.{YieldsList-from_slice}
use Rattle.std.proofs.lemmas.Iterator.Search.{position_from_yields_List}
use Rattle.std.proofs.lemmas.List.{length-drop}
use Rattle.std.proofs.lemmas.List.Sums.{prefix_len-le-length}
use Rattle.text.proofs.Laws.{rest, word_is, some_place, no_place}
use Rattle.text.proofs.word_end.Goals as goal
use Rattle.text.proofs.word_end.Goals.{After-position}

abbrev place : (c : After-position) → ℕ
place c = position_or_len (λ (b : ℕ). eqb b 32) (drop c.args.at c.args.s.now)

found : (c : After-position) → c.position.result ≡ cond (ltb (place c) (length (drop c.args.at c.args.s.now))) (Some (place c)) None
found c =
    let s = c.args.s.now in
    let at = c.args.at in
    let left : c.iter.result.rest.now ≡ take (length s - at) (drop at s) = search rules in
    position_from_yields_List (λ (b : ℕ). eqb b 32) c.position.new.self _ _ c.position.ensures.ran
    (YieldsList-from_slice {s = c.iter.result} (drop at s) (left ∙ rest at s)) (λ x b q k. search rules)

pub returns-in-Some-clause-value : goal.returns-in-Some-clause-value
returns-in-Some-clause-value c =
    let p = (goal.at.returns-in-Some-clause-value c).After-position in
    ap (λ (n : ℕ). c.args.at + n) (some_place _ _ c.in-Some.n (sym (found p) ∙ c.in-Some.is)) ∙ sym (word_is c.args.at c.args.s.now)

pub returns-in-None-clause-value : goal.returns-in-None-clause-value
returns-in-None-clause-value c =
    let p = (goal.at.returns-in-None-clause-value c).After-position in
    let left = no_place _ _ (sym (found p) ∙ c.in-None.is) in
    let most = prefix_len-le-length (λ (b : ℕ). not (eqb b 32)) (drop c.args.at c.args.s.now) in
    rw (word_is c.args.at c.args.s.now) (omega (arith, left, most, length-drop c.args.at c.args.s.now, c.requires))
