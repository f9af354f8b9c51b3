-- Reply lines.
use Rattle.std.specs.Prelude.{ℕ, ◌≤◌, ◌<◌, cond, List, ◌++◌, eqb}
use Rattle.reading.specs.declared.Reading.{Reading}
use Rattle.register.specs.Bytes.{ascii}
use Rattle.register.specs.Registers.{entry, count}
use Rattle.field.specs.Field.{digits, field, Showable}
use Rattle.line.specs.declared.Style.{Style}

abbrev pub line_end : List ℕ
line_end = ascii "\r\n"

-- two digits of node, two spaces for node 0
unfoldable pub node_text : ℕ → List ℕ
node_text node = cond (eqb node 0) (ascii "  ") (digits 2 node)

-- node, space, mnemonic
unfoldable pub head : ℕ → ℕ → List ℕ
head node register = node_text node ++ ascii " " ++ (entry register).mnemonic

-- data, CR, LF
unfoldable pub abbreviated_line : ℕ → Reading → List ℕ
abbreviated_line places shown = field places shown ++ line_end

-- node, space, mnemonic, data, CR, LF
unfoldable pub full_line : ℕ → ℕ → ℕ → Reading → List ℕ
full_line node register places shown = head node register ++ abbreviated_line places shown

-- the line of a register, which stands at its place in the list of registers
unfoldable pub line : Style → ℕ → ℕ → Reading → List ℕ
line style register places shown =
    cond style.abbreviated (abbreviated_line places shown) (full_line style.node register places shown)

-- how long a line is
abbrev pub line_length : Style → ℕ
line_length style = cond style.abbreviated 14 20

-- what a line can show: a node of 0 to 99, a register of the list, and what fits into the data bytes
pub record Writable (style : Style) (register places : ℕ) (shown : Reading) : Type 0 where
  pub named : style.node ≤ 99
  pub known : register < count
  pub fits : Showable places shown
