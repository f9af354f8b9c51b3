-- `command::status` meets its contract: a list of length one is its first byte, and its range is one test. Assumes nothing.
use Rattle.std.proofs.Common.{◌≡◌, refl, sym, ap, ◌∙◌, List, [], ◌∷◌, ℕ, ◌≤◌, ◌<◌, length, get_or, arith, rules}
use borrow.Author.Tests.{le-leb, lt-leb, tests}
use Rattle.command.specs.Parse.{status}
use Rattle.command.specs.declared.Asked.TheVariants.{BadForm}
use Rattle.numeral.proofs.Lists.{one}
use Rattle.command.proofs.status.Goals as goal

other : (s : List ℕ) → (length s ≡ 1 → ⊥) → status s ≡ BadForm
unfolding status
other [] h = refl
other (b ∷ []) h = absurd (h refl)
other (b ∷ c ∷ s) h = refl

pub returns-in-0-to-127 : goal.returns-in-0-to-127
unfolding status
returns-in-0-to-127 c =
    let s = c.args.s.now in
    let low : get_or s 0 0 ≤ 127 = search (rules, tests) in
    sym (ap status (one s (omega (arith, c.in-0-to-127.len_at_least, c.in-0-to-127.len_below))) ∙ rw (le-leb (get_or s 0 0) 127 low))

pub returns-in_default : goal.returns-in_default
returns-in_default c = sym (other c.args.s.now (λ e. omega (arith, c.in_default.len_below)))

pub returns-in_default-2 : goal.returns-in_default-2
unfolding status
returns-in_default-2 c =
    let s = c.args.s.now in
    let high : 127 < get_or s 0 0 = search (rules, tests) in
    sym (ap status (one s (omega (arith, c.in_default.len_at_least, c.in_default.len_below))) ∙ rw (lt-leb (get_or s 0 0) 127 high))

pub returns-in_default-3 : goal.returns-in_default-3
returns-in_default-3 c = sym (other c.args.s.now (λ e. omega (arith, c.in_default.len_at_least)))
