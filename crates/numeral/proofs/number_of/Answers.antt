-- `numeral::number_of` meets its contract: a leading minus is the first byte, and the amount stands behind it. Assumes nothing.
use Rattle.std.proofs.Common.{◌≡◌, sym, ◌∙◌, ◌<◌, ◌≤◌, length, get_or, arith, rules}
use borrow.Author.Tests.{eq-eqb, ne_eqb, tests}
use Rattle.register.specs.Bytes.{byte}
use Rattle.numeral.specs.Number.{amount, number}
use Rattle.numeral.proofs.Lists.{none, split}
use Rattle.numeral.proofs.number_of.Goals as goal
use Rattle.numeral.proofs.number_of.Goals.{in_default-via-then-s-lt1, in_default-via-else-s-lt1+in_default-1}

pub returns-in-45 : goal.returns-in-45
unfolding number
returns-in-45 c =
    let s = c.args.s.now in
    let minus : get_or s 0 0 ≡ byte "-" = search rules in
    c.signed.ensures ∙ sym (split (number c.args.limits) s (omega arith) ∙ rw (eq-eqb (get_or s 0 0) (byte "-") minus))

pub returns-in_default : goal.returns-in_default
unfolding number amount
returns-in_default c =
    let s = c.args.s.now in
    c.signed-in_default.ensures
    ∙ elim c.in_default.branch [
      | in_default-via-then-s-lt1 w ↦ let short : length s < 1 = search (rules, tests) in rw (none s (omega arith))
      | in_default-via-else-s-lt1+in_default-1 w ↦
          let long : 1 ≤ length s = search (rules, tests) in
          let other : get_or s 0 0 ≡ byte "-" → ⊥ = search rules in
          sym (split (number c.args.limits) s (omega arith) ∙ rw (ne_eqb (get_or s 0 0) (byte "-") other, ← split amount s (omega arith)))
    ]
