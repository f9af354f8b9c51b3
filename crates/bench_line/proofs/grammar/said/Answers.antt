-- The arm says which letter it is.
use Rattle.std.proofs.Common.{◌≡◌, ◌∙◌, sym, ap, ℤ, Some, w32, to_z, of_z, rules, arith}
use Rattle.bench_line.specs.Grammar.{sample, key, sample_of, key_of}
use Rattle.bench_line.specs.Asked.{asked}
use Rattle.bench_line.proofs.Sayings.{said_sample, said_key, said_chars, said_other}
use Rattle.bench_line.proofs.grammar.said.Goals as goal

pub returns-in_err-read_number-in-83 : goal.returns-in_err-read_number-in-83
returns-in_err-read_number-in-83 c =
    ap asked c.from_residual.ensures ∙ ap sample_of (sym c.in_err-read_number-in-83.was ∙ c.read_number.ensures) ∙ said_sample c.args.k c.args.s.now c.in-83.is

pub returns-in_ok-read_number-in-83 : goal.returns-in_ok-read_number-in-83
returns-in_ok-read_number-in-83 c =
    let v = c.in_ok-read_number-in-83.field-0 in
    let e : to_z w32 (of_z w32 v) ≡ v = search rules in
    ap (λ (z : ℤ). Some (sample z)) e ∙ ap sample_of (sym c.in_ok-read_number-in-83.was ∙ c.read_number.ensures) ∙ said_sample c.args.k c.args.s.now c.in-83.is

pub returns-in_err-read_number-in-75 : goal.returns-in_err-read_number-in-75
returns-in_err-read_number-in-75 c =
    ap asked c.from_residual-in_err-read_number-in-75.ensures ∙ ap key_of (sym c.in_err-read_number-in-75.was ∙ c.read_number-in-75.ensures) ∙ said_key c.args.k c.args.s.now c.in-75.is

pub returns-in_ok-read_number-in-75 : goal.returns-in_ok-read_number-in-75
returns-in_ok-read_number-in-75 c =
    let v = c.in_ok-read_number-in-75.field-0 in
    let e : to_z w32 (of_z w32 v) ≡ v = search rules in
    ap (λ (z : ℤ). Some (key z)) e ∙ ap key_of (sym c.in_ok-read_number-in-75.was ∙ c.read_number-in-75.ensures) ∙ said_key c.args.k c.args.s.now c.in-75.is

pub returns-in-67 : goal.returns-in-67
returns-in-67 c = said_chars c.args.k c.args.s.now c.in-67.is

pub returns-in_default : goal.returns-in_default
returns-in_default c = said_other c.args.k c.args.s.now (λ e. omega arith) (λ e. omega arith) (λ e. omega arith)
