-- `command::parse` meets its contract: the first byte says whether there is an address. Assumes nothing.
use Rattle.std.proofs.Common.{◌≡◌, sym, ap, ◌∙◌, ◌≤◌, ◌<◌, length, get_or, arith, rules}
use borrow.Author.Tests.{ne_eqb, tests}
use Rattle.register.specs.Bytes.{byte}
use Rattle.command.specs.Parse.{body, parse}
use Rattle.command.specs.declared.Asked.{Asked}
use Rattle.std.specs.Prelude.{Some}
use Rattle.numeral.proofs.Lists.{none, split}
use Rattle.command.proofs.parse.Goals as goal
use Rattle.command.proofs.parse.Goals.{in_default-via-then-s-lt1, in_default-via-else-s-lt1+in_default-1}

pub returns-in-78 : goal.returns-in-78
unfolding parse
returns-in-78 c =
    let s = c.args.s.now in
    let first : get_or s 0 0 ≡ byte "N" = search rules in
    c.first_digit.ensures ∙ sym (split parse s (omega (arith, c.in-78.len_at_least)) ∙ rw first)

pub returns-in_default : goal.returns-in_default
unfolding parse body
returns-in_default c =
    let s = c.args.s.now in
    ap (λ (x : Asked). Some (0, x)) c.body.ensures
    ∙ elim c.in_default.branch [
      | in_default-via-then-s-lt1 w ↦ let short : length s < 1 = search (rules, tests) in rw (none s (omega arith))
      | in_default-via-else-s-lt1+in_default-1 w ↦
          let long : 1 ≤ length s = search (rules, tests) in
          let other : get_or s 0 0 ≡ byte "N" → ⊥ = search rules in
          sym (split parse s (omega arith) ∙ rw (ne_eqb (get_or s 0 0) (byte "N") other, ← split body s (omega arith)))
    ]
