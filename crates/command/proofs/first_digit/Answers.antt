-- `command::first_digit` meets its contract: an arm of a range is two tests, and with no digit there is no node. Assumes nothing.
use Rattle.std.proofs.Common.{sym, ◌∙◌, ◌≤◌, ◌<◌, get_or, arith, rules}
use borrow.Author.Tests.{tests}
use Rattle.register.specs.Bytes.{byte}
use Rattle.command.specs.Parse.{first_digit}
use Rattle.numeral.proofs.Lists.{none, split}
use Rattle.register.proofs.Ranges.{in_range, below_range, above_range}
use Rattle.command.proofs.first_digit.Goals as goal

pub returns-in-48-to-57 : goal.returns-in-48-to-57
unfolding first_digit
returns-in-48-to-57 c =
    let s = c.args.s.now in
    let low : byte "0" ≤ get_or s 0 0 = search (rules, tests) in
    let high : get_or s 0 0 < 58 = search (rules, tests) in
    c.second_digit.ensures ∙ sym (split first_digit s (omega (arith, c.in-48-to-57.len_at_least)) ∙ rw (in_range (byte "0") (byte "9") (get_or s 0 0) low (omega arith)))

pub returns-in_default : goal.returns-in_default
unfolding first_digit
returns-in_default c = rw (none c.args.s.now (omega (arith, c.in_default.len_below)))

pub returns-in_default-2 : goal.returns-in_default-2
unfolding first_digit
returns-in_default-2 c =
    let s = c.args.s.now in
    let low : get_or s 0 0 < 48 = search (rules, tests) in
    sym (split first_digit s (omega (arith, c.in_default.len_at_least)) ∙ rw (below_range (byte "0") (byte "9") (get_or s 0 0) low))

pub returns-in_default-3 : goal.returns-in_default-3
unfolding first_digit
returns-in_default-3 c =
    let s = c.args.s.now in
    let high : 58 ≤ get_or s 0 0 = search (rules, tests) in
    sym (split first_digit s (omega (arith, c.in_default.len_at_least)) ∙ rw (above_range (byte "0") (byte "9") (get_or s 0 0) (omega arith)))
