-- `filing::datum` meets its contract: a reading that is displayed is a number that has a value. Assumes nothing.
use Rattle.std.proofs.Common.{◌≡◌, true, ◌∙◌, ap, subst, rules, w32, to_z, of_z}
use Rattle.reading.specs.Reading.{in_display, displayable}
use Rattle.reading.specs.declared.Reading.{Reading}
use Rattle.filing.proofs.datum.Goals as goal

pub value-requires : goal.value-requires
unfolding displayable
value-requires c =
    let back : to_z w32 (of_z w32 c.in-Number.display) ≡ c.in-Number.display = search rules in
    (ap in_display back ∙ subst (λ (r : Reading). displayable r ≡ true) c.in-Number.is c.requires.0, c.requires.1)
