use Rattle.std.proofs.Common.{◌≡◌}
use Rattle.looking.specs.Polls.{excursion}
use Rattle.excursion.proofs.lit.Given as goal

-- after so many turns so many samples below stand in the history
abbrev pub invariant-loop : goal.invariant-loop
invariant-loop g l = l.core ≡ g.C.Core.after (excursion l.times l.counter)
