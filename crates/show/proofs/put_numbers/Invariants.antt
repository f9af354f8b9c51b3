-- What is left to put comes behind what waits.
use Rattle.std.proofs.Common.{◌≡◌, drop}
use Rattle.text.specs.Output.{waiting, puts}
use Rattle.show.specs.Show.{number_words, behind_commas}
use Rattle.show.proofs.put_numbers.Given as goal

abbrev pub invariant-loop-z : goal.invariant-loop-z
invariant-loop-z l = puts (waiting l.fn.out) (number_words l.fn.name l.fn.numbers) ≡ puts (waiting l.out) (behind_commas (drop l.z-index l.z-items))
