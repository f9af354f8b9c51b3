-- `dividing::is_given` meets its contract: bits are judged at the one display that they can be of. Assumes nothing.
use Rattle.std.proofs.Common.{◌≡◌, ◌≤◌, ◌&&◌, eqb, leb, ℤ, sym, ap, ◌∙◌, rules, w64, to_z, of_z, le-leb}
use Rattle.exact.proofs.Z.{back64, never}
use Rattle.reading.specs.Reading.{in_display}
use Rattle.binary32.specs.Binary32.{bits, gives, field, display_of}
use Rattle.binary32.proofs.Judge.{zero_given, field_outside, judged_once}
use Rattle.dividing.proofs.is_given.Goals as goal
use Rattle.dividing.proofs.is_given.Goals.{After-contains}

pub returns-then-pattern-eq0 : goal.returns-then-pattern-eq0
returns-then-pattern-eq0 c = sym (ap (gives c.args.places) c.if-pattern-eq0.true ∙ zero_given c.args.places c.requires)

-- what the test says of the field
tested : (c : After-contains) → c.contains.result ≡ (leb 113 (field c.args.pattern) && leb (field c.args.pattern) 143)
tested c = search rules

pub returns-then-contains : goal.returns-then-contains
returns-then-contains c =
    let d = c.display_of.result in
    let e : to_z w64 (of_z w64 d) ≡ display_of c.args.places c.args.pattern = back64 d c.display_of.type_inv ∙ c.display_of.ensures in
    c.has_bits.ensures
    ∙ ap (λ (z : ℤ). in_display z && eqb (bits c.args.places z) c.args.pattern) e
    ∙ sym (judged_once c.args.places c.requires c.args.pattern c.if-pattern-eq0.false)

pub returns-else-contains : goal.returns-else-contains
returns-else-contains c =
    let f = field c.args.pattern in
    let t = tested (goal.at.returns-else-contains c).After-contains in
    let out : (113 ≤ f) × (f ≤ 143) → ⊥ = λ g. never (sym c.if-contains.false ∙ t ∙ rw (le-leb 113 f g.0, le-leb f 143 g.1)) in
    c.if-contains.false ∙ sym (field_outside c.args.places c.requires c.args.pattern c.if-pattern-eq0.false out)
