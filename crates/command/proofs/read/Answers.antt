-- `command::read` meets its contract: the list says whether T takes the register. Assumes nothing.
use Rattle.std.proofs.Common.{sym, ap, ◌∙◌}
use Rattle.register.specs.declared.Register.{Register}
use Rattle.command.specs.Parse.{reading}
use Rattle.command.proofs.read.Goals as goal

pub returns-then-register_at : goal.returns-then-register_at
unfolding reading
returns-then-register_at c =
    rw (← c.sole_register-i.ensures, sym (ap (λ (x : Register). x.read) c.register_at.ensures) ∙ c.if-register_at.true)

pub returns-else-register_at : goal.returns-else-register_at
unfolding reading
returns-else-register_at c =
    rw (← c.sole_register-i.ensures, sym (ap (λ (x : Register). x.read) c.register_at.ensures) ∙ c.if-register_at.false)
