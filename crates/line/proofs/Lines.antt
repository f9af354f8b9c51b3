-- How long lines are. Assumes nothing.
use mathlib.Core.Path.{◌≡◌, refl, ◌∙◌}
use mathlib.Core.Bool.{Bool, true, false, cond}
use mathlib.Core.List.{◌++◌}
use Prim.Native.Nat.{ℕ, ◌<◌, ◌≤◌}
use native.Mathlib.Omega.{arith}
use lib.Dec.{eqb}
use lib.ListN.{length, length-append}
use Rattle.reading.specs.declared.Reading.{Reading}
use Rattle.register.specs.Bytes.{ascii}
use Rattle.register.specs.Registers.{entry, count}
use Rattle.register.proofs.Table.{ruled}
use Rattle.field.specs.Field.{digits, field, Showable}
use Rattle.field.proofs.Digits.{digits_length}
use Rattle.field.proofs.Length.{field_length}
use Rattle.line.specs.declared.Style.{Style}
use Rattle.line.specs.Line.{line_end, node_text, head, abbreviated_line, full_line, line, line_length, Writable}

pub node_length : (node : ℕ) → length (node_text node) ≡ 2
unfolding node_text
node_length node = by (eqb node 0)
  where
    by : (t : Bool) → length (cond t (ascii "  ") (digits 2 node)) ≡ 2
    by true = refl
    by false = digits_length 2 node

pub head_length : (node register : ℕ) → register < count → length (head node register) ≡ 6
unfolding head
head_length node register h =
    length-append (node_text node ++ ascii " ") (entry register).mnemonic
    ∙ omega (arith, length-append (node_text node) (ascii " "), node_length node, (ruled register h).mnemonic)

-- an abbreviated line has 14 bytes
pub abbreviated_length : (places : ℕ) (shown : Reading) → Showable places shown → length (abbreviated_line places shown) ≡ 14
unfolding abbreviated_line
abbreviated_length places shown s =
    length-append (field places shown) line_end ∙ omega (arith, field_length places shown s)

-- a full line has 20
pub full_length : (node register places : ℕ) (shown : Reading) → register < count → Showable places shown → length (full_line node register places shown) ≡ 20
unfolding full_line
full_length node register places shown h s =
    length-append (head node register) (abbreviated_line places shown)
    ∙ omega (arith, head_length node register h, abbreviated_length places shown s)

pub line_length_lem : (style : Style) (register places : ℕ) (shown : Reading) → Writable style register places shown
    → length (line style register places shown) ≡ line_length style
unfolding line
line_length_lem style register places shown w =
    by style.abbreviated (abbreviated_length places shown w.fits) (full_length style.node register places shown w.known w.fits)
  where
    by : (t : Bool) → length (abbreviated_line places shown) ≡ 14 → length (full_line style.node register places shown) ≡ 20
        → length (cond t (abbreviated_line places shown) (full_line style.node register places shown)) ≡ cond t 14 20
    by true e f = e
    by false e f = f

pub line_most : (style : Style) → line_length style ≤ 20
line_most style = by style.abbreviated
  where
    by : (t : Bool) → cond t 14 20 ≤ 20
    by true = omega arith
    by false = omega arith
