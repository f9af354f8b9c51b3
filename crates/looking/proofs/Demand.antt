-- Demand 3, with nothing left to assume.
use Rattle.looking.specs.Demand.{Demand3}
use Rattle.looking.proofs.Pinned.{pinned}
use Rattle.looking.proofs.Looking.{looking}
use Rattle.looking.proofs.Polls.{polls_unmoved}
use Rattle.looking.proofs.OffDelay.{off_delay}

pub demand_3 : Demand3
demand_3 = record { looking = looking; pinned = pinned; polls = polls_unmoved; off_delay = off_delay }
