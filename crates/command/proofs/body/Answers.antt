-- `command::body` meets its contract: the byte of each arm says which test of `body` holds. Assumes nothing.
use Rattle.std.proofs.Common.{◌≡◌, sym, ◌∙◌, get_or, arith, rules}
use borrow.Author.Tests.{ne_eqb}
use Rattle.register.specs.Bytes.{byte}
use Rattle.command.specs.Parse.{body}
use Rattle.numeral.proofs.Lists.{none, split}
use Rattle.command.proofs.body.Goals as goal

pub returns-in-84 : goal.returns-in-84
unfolding body
returns-in-84 c =
    let s = c.args.s.now in
    let first : get_or s 0 0 ≡ byte "T" = search rules in
    c.read.ensures ∙ sym (split body s (omega (arith, c.in-84.len_at_least)) ∙ rw first)

pub returns-in-86 : goal.returns-in-86
unfolding body
returns-in-86 c =
    let s = c.args.s.now in
    let first : get_or s 0 0 ≡ byte "V" = search rules in
    c.write.ensures ∙ sym (split body s (omega (arith, c.in-86.len_at_least)) ∙ rw first)

pub returns-in-82 : goal.returns-in-82
unfolding body
returns-in-82 c =
    let s = c.args.s.now in
    let first : get_or s 0 0 ≡ byte "R" = search rules in
    c.reset.ensures ∙ sym (split body s (omega (arith, c.in-82.len_at_least)) ∙ rw first)

pub returns-in-80 : goal.returns-in-80
unfolding body
returns-in-80 c =
    let s = c.args.s.now in
    let first : get_or s 0 0 ≡ byte "P" = search rules in
    c.print.ensures ∙ sym (split body s (omega (arith, c.in-80.len_at_least)) ∙ rw first)

pub returns-in_default : goal.returns-in_default
unfolding body
returns-in_default c = rw (none c.args.s.now (omega (arith, c.in_default.len_below)))

pub returns-in_default-2 : goal.returns-in_default-2
unfolding body
returns-in_default-2 c =
    let b = get_or c.args.s.now 0 0 in
    let no_t : b ≡ byte "T" → ⊥ = search rules in
    let no_v : b ≡ byte "V" → ⊥ = search rules in
    let no_r : b ≡ byte "R" → ⊥ = search rules in
    let no_p : b ≡ byte "P" → ⊥ = search rules in
    sym
    (split body c.args.s.now (omega (arith, c.in_default.len_at_least))
    ∙ simp (ne_eqb _ _ no_t, ne_eqb _ _ no_v, ne_eqb _ _ no_r, ne_eqb _ _ no_p))
