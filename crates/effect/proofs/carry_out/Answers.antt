-- `effect::carry_out` meets its contract: the number that is written is what its bits say. Assumes nothing.
use Rattle.std.proofs.Common.{rules, ◌≡◌, ◌∙◌, to_z, of_z, w32}
use Rattle.effect.proofs.carry_out.Goals as goal

pub returns-in-Write-clause-value : goal.returns-in-Write-clause-value
returns-in-Write-clause-value c =
    let e : to_z w32 (of_z w32 c.in-Write.z) ≡ c.in-Write.z = search rules in
    rw c.in-Write.is (c.write.ensures ∙ rw e)
