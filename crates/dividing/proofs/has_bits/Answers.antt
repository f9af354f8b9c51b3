-- `dividing::has_bits` meets its contract: the number is judged as any result is, and of a display the bits are compared. Assumes nothing.
use Rattle.std.proofs.Common.{◌≡◌, sym, ap, ◌∙◌, rules, w32, to_z, of_z, to_z-of_z, inl, inr}
use Rattle.reading.specs.Reading.{in_display, judged}
use Rattle.reading.specs.declared.Reading.{Reading}
use Rattle.reading.specs.declared.Reading.TheVariants.{Number}
use Rattle.dividing.proofs.Shown.{shown_as, number_as}
use Rattle.dividing.proofs.has_bits.Goals as goal
use Rattle.dividing.proofs.has_bits.Goals.{After-judged, In-Number}

-- what the number is judged to read
judged_is : (c : After-judged) (r : Reading) → c.judged.result ≡ r → judged c.args.number ≡ r
judged_is c r is = sym (c.judged.ensures ∙ ap judged (to_z-of_z c.ranges.number)) ∙ is

-- in the arm of a display: it is the number itself
shown : (c : In-Number) → judged c.args.number ≡ Number c.in-Number.display
shown c = judged_is c.before _ c.in-Number.is

number_is : (c : In-Number) → c.in-Number.display ≡ c.args.number
number_is c = number_as c.args.number c.in-Number.display (shown c)

back : (c : In-Number) → to_z w32 (of_z w32 c.in-Number.display) ≡ c.in-Number.display
back c = search rules

pub bits-requires : goal.bits-requires
bits-requires c = (ap in_display (back c ∙ number_is c) ∙ shown_as c.args.number _ (shown c), c.requires)

pub returns-in-Number : goal.returns-in-Number
returns-in-Number c =
    let n = (goal.at.returns-in-Number c).In-Number in
    rw (shown_as c.args.number _ (shown n), c.bits.ensures, back n, number_is n)

pub returns-in-Nothing : goal.returns-in-Nothing
returns-in-Nothing c =
    let p = (goal.at.returns-in-Nothing c).After-judged in
    let none = λ (r : Reading) (is : c.judged.result ≡ r). shown_as c.args.number r (judged_is p r is) in
    elim c.in-Nothing.is [ inl e ↦ rw (none _ e) | inr e ↦ elim e [ inl e ↦ rw (none _ e) | inr e ↦ rw (none _ e) ] ]
