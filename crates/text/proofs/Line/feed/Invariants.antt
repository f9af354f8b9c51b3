-- What is to be read is what is left to read.
use Rattle.std.proofs.Common.{◌≡◌, drop}
use Rattle.text.specs.Line.{scan}
use Rattle.text.proofs.Line.feed.Given as goal

abbrev pub invariant-loop-i : goal.invariant-loop-i
invariant-loop-i l = scan 0 l.s l.fn.self ≡ scan l.i (drop l.i l.s) (record { room = l.self.room; len = l.len })
