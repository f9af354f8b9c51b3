-- What the block writer is given: the values of the registers that a block can print, and their lines.
use Rattle.std.specs.Prelude.{ℕ, ◌-◌, ◌≤◌, cond, List, eqb, pos, get_or}
use Rattle.reading.specs.declared.Reading.{Reading}
use Rattle.reading.specs.declared.Reading.TheVariants.{Number}
use Rattle.register.specs.Registers.{at}
use Rattle.field.specs.Field.{Showable}
use Rattle.line.specs.Line.{line}
use Rattle.line.specs.declared.Style.{Style}
use Rattle.block.specs.declared.Values.{Values}

-- what register r shows: INP, TOT, MAX, MIN, and from E on the setpoints
unfoldable pub value_at : Values → ℕ → Reading
value_at v r =
    cond (eqb r (at "A")) v.input
    (cond (eqb r (at "B")) v.total
    (cond (eqb r (at "C")) v.max
    (cond (eqb r (at "D")) v.min
    (Number (get_or v.setpoints (r - at "E") (pos 0))))))

-- the total has its own places, all else those of the input
unfoldable pub places_of : Values → ℕ → ℕ
places_of v r = cond (eqb r (at "B")) v.places.total v.places.input

-- its line
unfoldable pub value_line : Style → Values → ℕ → List ℕ
value_line style v r = line style r (places_of v r) (value_at v r)

-- what a block can show: a node of 0 to 99, and values that fit into the data bytes
pub record Printable (style : Style) (v : Values) : Type 0 where
  pub named : style.node ≤ 99
  pub fits : (r : ℕ) → r ≤ at "H" → Showable (places_of v r) (value_at v r)
