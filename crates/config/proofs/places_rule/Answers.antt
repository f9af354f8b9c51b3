-- `config::places_rule` meets its contract: the two tests, each of the number that is given. Assumes nothing.
use borrow.Author.Rules.{rules}
use mathlib.Core.Path.{◌≡◌}
use mir.Syntax.{w32}
use mir.Val.{to_z, of_z}
use Rattle.config.proofs.places_rule.Goals as goal

pub returns : goal.returns
returns c =
    let p = c.args.p in
    let e : to_z w32 (of_z w32 p.input) ≡ p.input = search rules in
    let f : to_z w32 (of_z w32 p.total) ≡ p.total = search rules in
    rw (c.is_within.ensures, c.is_within-2.ensures, e, f)
