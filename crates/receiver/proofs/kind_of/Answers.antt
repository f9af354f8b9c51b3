-- `receiver::kind_of` meets its contract: the bytes of each arm say which test of `kind` holds. Assumes nothing.
use mathlib.Core.Logic.{⊎_elim, inl, inr}
use borrow.Author.Tests.{ne_eqb}
use Rattle.receiver.specs.Receiver.{kind}
use Rattle.receiver.proofs.kind_of.Goals as goal

pub returns-in-42 : goal.returns-in-42
unfolding kind
returns-in-42 c = ⊎_elim (λ w. rw w) (λ w. rw w) c.in-42.is

pub returns-in-13 : goal.returns-in-13
unfolding kind
returns-in-13 c = ⊎_elim (λ w. rw w) (λ w. rw w) c.in-13.is

pub returns-in_default : goal.returns-in_default
unfolding kind
returns-in_default c =
    let no_end = c.in_default.in_default-own.rest.0.1 in
    let no_drop = c.in_default.in_default-own.rest.1 in
    simp (ne_eqb _ _ (λ e. no_end (inr e)), ne_eqb _ _ (λ e. no_end (inl e)), ne_eqb _ _ (λ e. no_drop (inl e)), ne_eqb _ _ (λ e. no_drop (inr e)))
