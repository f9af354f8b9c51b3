use Rattle.std.proofs.Common.{◌≡◌, ◌∷◌}
use Rattle.looking.specs.History.{History, sample}
use Rattle.looking.specs.Polls.{polls, asking}
use Rattle.excursion.proofs.sampled.Given as goal

-- after so many turns so many polls stand behind the sample
abbrev pub invariant-loop : goal.invariant-loop
invariant-loop g l = (h : History) → l.fn.core ≡ g.C.Core.after h → l.core ≡ g.C.Core.after (polls asking l.counter (sample l.input ∷ h))
