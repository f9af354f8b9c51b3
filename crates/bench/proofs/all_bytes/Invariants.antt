-- What is to be received is what is left to receive.
use Rattle.std.proofs.Common.{◌≡◌, drop}
use Rattle.bench.specs.Bench.{bytes_on}
use Rattle.bench.proofs.Stream.{step_of}
use Rattle.bench.proofs.all_bytes.Given as goal

abbrev pub invariant-loop-b : goal.invariant-loop-b
invariant-loop-b l =
    bytes_on (step_of l.initial.o l.initial.reply) (drop 1 l.s) ≡ bytes_on (step_of l.o l.reply) (drop l.b-index (drop 1 l.s))
