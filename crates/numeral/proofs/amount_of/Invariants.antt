use Rattle.std.proofs.Common.{◌≡◌, ◌<◌, drop}
use Rattle.numeral.specs.Number.{amount}
use Rattle.numeral.proofs.Digits.{left}
use Rattle.numeral.proofs.amount_of.Given as goal

abbrev pub invariant-loop-b : goal.invariant-loop-b
invariant-loop-b l = (l.n < 100000) × (amount l.s ≡ left l.n l.seen (drop l.b-index l.s))
