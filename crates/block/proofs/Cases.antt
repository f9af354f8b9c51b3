-- The replies are the bytes that the tables say, and become what they say, all of them by one computation each. Assumes nothing.
use mathlib.Core.Path.{◌≡◌, refl}
use mathlib.Core.List.{map}
use Rattle.register.specs.Registers.{entry}
use Rattle.field.specs.Field.{digits, decimal, fraction, sign, number, text, field}
use Rattle.line.specs.Buffer.{answer}
use Rattle.line.specs.Line.{node_text, head, abbreviated_line, full_line, line}
use Rattle.block.specs.Block.{chosen_lines, some, block}
use Rattle.block.specs.Values.{value_at, places_of, value_line}
use Rattle.block.specs.Cases.{Case, cases, Placed, placed, becomes}

opened : Unit {0}
unfolding entry digits decimal fraction sign number text field node_text head abbreviated_line full_line line chosen_lines some block value_at places_of value_line
opened = tt

pub cases_hold : map (λ (c : Case). c.reply) cases ≡ map (λ (c : Case). c.text) cases
unfolding opened
cases_hold = refl

pub placed_hold : map becomes placed ≡ map (λ (p : Placed). p.written) placed
unfolding answer opened
placed_hold = refl
