-- Demand 3 as a whole.
use Rattle.std.specs.Prelude.{◌≡◌}
use Rattle.config.specs.Config.{judged}
use Rattle.config.specs.declared.Config.{Config}
use Rattle.config.specs.Verdict.{Accepted}
use Rattle.looking.specs.History.{History}
use Rattle.looking.specs.Pinned.{Pinned}
use Rattle.looking.specs.Looking.{Looking}
use Rattle.looking.specs.Polls.{Unmoved, OffDelay}

pub record Demand3 : Type 0 where
  -- looking changes nothing, under every accepted configuration
  pub looking : (c : Config) → judged c ≡ Accepted → Looking c
  -- what is kept of a history, event by event
  pub pinned : (c : Config) (h : History) → Pinned c h
  -- polls, and the example: an off delay is not lengthened by them
  pub polls : (c : Config) → judged c ≡ Accepted → Unmoved c
  pub off_delay : OffDelay
