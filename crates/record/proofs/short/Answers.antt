-- `record::short` meets its contract: the arm says which letter it is. Assumes nothing.
use native.Mathlib.Omega.{arith}
use Rattle.record.specs.Record.{same, short_said}
use Rattle.record.proofs.Said.{other_letter}
use Rattle.record.proofs.short.Goals as goal

pub returns-in-83 : goal.returns-in-83
unfolding short_said same
returns-in-83 c = rw c.in-83.is c.sample.ensures

pub returns-in-75 : goal.returns-in-75
unfolding short_said same
returns-in-75 c = rw c.in-75.is c.key.ensures

pub returns-in-66 : goal.returns-in-66
unfolding short_said same
returns-in-66 c = rw c.in-66.is c.byte.ensures

pub returns-in_default : goal.returns-in_default
returns-in_default c = other_letter c.args.k _ (λ e. omega arith) (λ e. omega arith) (λ e. omega arith)
