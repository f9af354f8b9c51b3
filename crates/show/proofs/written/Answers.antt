-- The bytes behind the last one that is not EE are EE.
use Rattle.std.proofs.Common.{rules, add-one}
use Rattle.show.proofs.Pieces.{trimmed_at, trimmed_none}
use Rattle.show.proofs.written.Goals as goal

pub returns-in-Some : goal.returns-in-Some
returns-in-Some c = rw add-one (trimmed_at c.args.buffer.now c.in-Some.last (search rules) (search rules) (λ k a b. search rules))

pub returns-in-None : goal.returns-in-None
returns-in-None c = trimmed_none c.args.buffer.now (λ k a. search rules)
