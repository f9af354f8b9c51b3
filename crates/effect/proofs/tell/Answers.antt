-- `effect::tell` meets its contract: the address decides, and then what is asked. Assumes nothing.
use Rattle.std.proofs.Common.{rules, ◌≡◌, refl, sym, ap, ◌∙◌, nat_abs, to_z, of_z, w32}
use borrow.Author.Tests.{eq-eqb, ne_eqb}
use Rattle.effect.proofs.tell.Goals as goal
use Rattle.effect.proofs.tell.Goals.{After-own_node}

-- this meter's node
own : (c : After-own_node) → c.own_node.result ≡ nat_abs c.args.talking.node
own c =
    let back : to_z w32 (of_z w32 c.args.talking.node) ≡ c.args.talking.node = search rules in
    c.own_node.ensures ∙ ap nat_abs back

pub carry_out-requires-clause-permitted : goal.carry_out-requires-clause-permitted
carry_out-requires-clause-permitted c = c.requires.by_index _ _ c.in-Some.is

pub returns-then-node-own_node : goal.returns-then-node-own_node
returns-then-node-own_node c = rw (c.in-Some.is, eq-eqb _ _ (c.if-node-own_node.true ∙ own (goal.at.returns-then-node-own_node c).After-own_node)) c.carry_out.ensures

pub returns-else-node-own_node : goal.returns-else-node-own_node
returns-else-node-own_node c =
    rw (c.in-Some.is, ne_eqb _ _ (λ e. c.if-node-own_node.false (e ∙ sym (own (goal.at.returns-else-node-own_node c).After-own_node)))) record { value = refl; buffer_after = refl }
