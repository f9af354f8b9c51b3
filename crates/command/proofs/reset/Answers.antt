-- `command::reset` meets its contract: the list says whether R takes the register. Assumes nothing.
use Rattle.std.proofs.Common.{sym, ap, ◌∙◌}
use Rattle.register.specs.declared.Register.{Register}
use Rattle.command.specs.Parse.{resetting}
use Rattle.command.proofs.reset.Goals as goal

pub returns-then-register_at : goal.returns-then-register_at
unfolding resetting
returns-then-register_at c =
    rw (← c.sole_register-i.ensures, sym (ap (λ (x : Register). x.reset) c.register_at.ensures) ∙ c.if-register_at.true)

pub returns-else-register_at : goal.returns-else-register_at
unfolding resetting
returns-else-register_at c =
    rw (← c.sole_register-i.ensures, sym (ap (λ (x : Register). x.reset) c.register_at.ensures) ∙ c.if-register_at.false)
