-- What a value of the code's enum asks.
use Rattle.std.specs.Prelude.{Option, Some, None}
use Rattle.bench_line.specs.Grammar.{sample, key, chars}
use Rattle.bench_line.specs.Grammar as grammar
use Rattle.bench_line.specs.declared.grammar.Parsed.{Parsed}
use Rattle.bench_line.specs.declared.grammar.Parsed.TheVariants.{Sample, Key, Bytes}

abbrev pub asked_by : Parsed → grammar.Asked
asked_by (Sample v) = sample v
asked_by (Key v) = key v
asked_by (Bytes s) = chars s.now

abbrev pub asked : Option Parsed → Option grammar.Asked
asked (Some p) = Some (asked_by p)
asked None = None
