use Rattle.std.proofs.Common.{◌≡◌, map, drop}
use Rattle.text.specs.Output.{waiting, puts}
use Rattle.hexadecimal.specs.Hex.{hex_byte}
use Rattle.hexadecimal.proofs.put_hex.Given as goal

abbrev pub invariant-loop-b : goal.invariant-loop-b
invariant-loop-b l = puts (waiting l.initial.out) (map hex_byte l.s) ≡ puts (waiting l.out) (map hex_byte (drop l.b-index l.s))
