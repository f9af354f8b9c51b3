-- What is left to read says whether all are digits, and what number.
use Rattle.std.proofs.Common.{◌≡◌, ◌≤◌, drop}
use Rattle.text.specs.Number.{digits, value}
use Rattle.text.proofs.read_natural.Given as goal

abbrev pub invariant-loop-b : goal.invariant-loop-b
invariant-loop-b l = (l.v ≤ 18446744073709551615) × (digits l.s ≡ digits (drop l.b-index l.s)) × (value 0 l.s ≡ value l.v (drop l.b-index l.s))
