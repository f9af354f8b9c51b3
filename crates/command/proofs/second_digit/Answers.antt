-- `command::second_digit` meets its contract: an arm of a range is two tests, and a byte that is no digit stays for the command. Assumes nothing.
use Rattle.std.proofs.Common.{sym, ap, ◌∙◌, ◌+◌, ◌-◌, ◌*◌, ◌≤◌, ◌<◌, length, get_or, arith, rules}
use borrow.Author.Tests.{tests}
use Rattle.register.specs.Bytes.{byte}
use Rattle.command.specs.Parse.{body, second_digit}
use Rattle.command.specs.declared.Asked.{Asked}
use Rattle.std.specs.Prelude.{Some}
use Rattle.numeral.proofs.Lists.{none, split}
use Rattle.register.proofs.Ranges.{in_range, below_range, above_range}
use Rattle.command.proofs.second_digit.Goals as goal
use Rattle.command.proofs.second_digit.Goals.{in_default-via-then-s-lt1, in_default-via-else-s-lt1+then-s-lt48, in_default-via-else-s-lt1+else-s-lt48+else-s-lt58}

pub returns-in-48-to-57 : goal.returns-in-48-to-57
unfolding second_digit
returns-in-48-to-57 c =
    let d = c.args.d in
    let s = c.args.s.now in
    let b = get_or s 0 0 in
    let low : byte "0" ≤ b = search (rules, tests) in
    let high : b < 58 = search (rules, tests) in
    ap (λ (x : Asked). Some (10 * d + (b - byte "0"), x)) c.body.ensures
    ∙ sym (split (second_digit d) s (omega (arith, c.in-48-to-57.len_at_least)) ∙ rw (in_range (byte "0") (byte "9") b low (omega arith)))

pub returns-in_default : goal.returns-in_default
unfolding second_digit body
returns-in_default c =
    let d = c.args.d in
    let s = c.args.s.now in
    let b = get_or s 0 0 in
    ap (λ (x : Asked). Some (d, x)) c.body-in_default.ensures
    ∙ elim c.in_default.branch [
      | in_default-via-then-s-lt1 w ↦ let short : length s < 1 = search (rules, tests) in rw (none s (omega arith))
      | in_default-via-else-s-lt1+then-s-lt48 w ↦
          let long : 1 ≤ length s = search (rules, tests) in
          let low : b < 48 = search (rules, tests) in
          sym (split (second_digit d) s (omega arith) ∙ rw (below_range (byte "0") (byte "9") b low, ← split body s (omega arith)))
      | in_default-via-else-s-lt1+else-s-lt48+else-s-lt58 w ↦
          let long : 1 ≤ length s = search (rules, tests) in
          let high : 58 ≤ b = search (rules, tests) in
          sym (split (second_digit d) s (omega arith) ∙ rw (above_range (byte "0") (byte "9") b (omega arith), ← split body s (omega arith)))
    ]
