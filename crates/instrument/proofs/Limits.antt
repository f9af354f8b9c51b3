-- The limits of the list of registers are those of what is written: of the setpoints the display's, of the analog register a code's.
-- Assumes nothing.
use mathlib.Core.Path.{◌≡◌, refl, ap, ◌∙◌}
use mathlib.Core.Bool.{Bool, true, false, cond}
use Prim.Native.Nat.{ℕ, ◌+◌, ◌≤◌}
use native.Mathlib.Omega.{arith}
use borrow.Author.Tests.{eqb-true, eqb-false}
use lib.Dec.{eqb}
use lib.IntN.{ℤ}
use Rattle.register.specs.Bytes.{byte}
use Rattle.register.specs.Registers.{entry, holds, at}
use Rattle.register.specs.declared.Writes.{Writes}
use Rattle.register.proofs.Ranges.{in_range}
use Rattle.register.proofs.Table.{written_to, ruled}
use Rattle.reading.specs.Reading.{in_display}
use Rattle.outputs.specs.Outputs.{in_code}
use Rattle.instrument.specs.Meaning.{number_in}

holds_by : (r : ℕ) (z : ℤ) (t : Bool) → eqb r (at "I") ≡ t → at "E" ≤ r → r ≤ at "I" → holds (written_to (byte "A" + r)) z ≡ cond t (in_code z) (in_display z)
holds_by r z true e low high = rw (eqb-true r (at "I") e)
holds_by r z false e low high =
    let n = eqb-false r (at "I") e in
    rw (in_range (byte "E") (byte "H") (byte "A" + r) (omega arith) (omega (arith, n)))

pub holds_is : (r : ℕ) (z : ℤ) → at "E" ≤ r → r ≤ at "I" → holds (entry r).written z ≡ number_in r z
holds_is r z low high =
    let t = ruled r (omega arith) in
    ap (λ (w : Writes). holds w z) (t.written ∙ ap written_to t.letter) ∙ holds_by r z (eqb r (at "I")) refl low high
