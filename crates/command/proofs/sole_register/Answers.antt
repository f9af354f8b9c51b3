-- `command::sole_register` meets its contract: a list of length one is its first byte. Assumes nothing.
use Rattle.std.proofs.Common.{◌≡◌, refl, sym, ap, ◌∙◌, List, [], ◌∷◌, ℕ, length, arith}
use Rattle.register.specs.Registers.{count}
use Rattle.command.specs.Parse.{sole}
use Rattle.numeral.proofs.Lists.{one}
use Rattle.command.proofs.sole_register.Goals as goal

other : (s : List ℕ) → (length s ≡ 1 → ⊥) → sole s ≡ count
unfolding sole
other [] h = refl
other (b ∷ []) h = absurd (h refl)
other (b ∷ c ∷ s) h = refl

pub returns-in-len1 : goal.returns-in-len1
unfolding sole
returns-in-len1 c = c.index_of.ensures ∙ sym (ap sole (one c.args.s.now (omega (arith, c.in-len1.len_at_least, c.in-len1.len_below))))

pub returns-in_default : goal.returns-in_default
returns-in_default c = sym (other c.args.s.now (λ e. omega (arith, c.in_default.len_below)))

pub returns-in_default-2 : goal.returns-in_default-2
returns-in_default-2 c = sym (other c.args.s.now (λ e. omega (arith, c.in_default.len_at_least)))
