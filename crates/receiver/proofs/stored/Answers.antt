-- `receiver::stored` meets its contract: the branch says which case of `store` holds. Assumes nothing.
use native.Mathlib.Omega.{arith}
use borrow.Author.Tests.{lt-ltb, le-ltb}
use Rattle.receiver.specs.Receiver.{limit, store}
use Rattle.receiver.proofs.stored.Goals as goal

pub returns-then-r-lt-LIMIT : goal.returns-then-r-lt-LIMIT
unfolding store
returns-then-r-lt-LIMIT c = simp (lt-ltb c.args.r.length limit (omega arith))

pub returns-else-r-lt-LIMIT : goal.returns-else-r-lt-LIMIT
unfolding store
returns-else-r-lt-LIMIT c = simp (le-ltb c.args.r.length limit (omega arith))
