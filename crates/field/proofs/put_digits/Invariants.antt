use Rattle.std.proofs.Common.{◌≡◌, ◌++◌, length, drop}
use Rattle.field.specs.Field.{digits}
use Rattle.field.proofs.put_digits.Given as goal

abbrev pub invariant-loop-i : goal.invariant-loop-i
invariant-loop-i l = digits (length l.initial.buf) l.n ≡ digits l.i l.left ++ drop l.i l.buf
