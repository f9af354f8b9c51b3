-- Whether a line of a register can show something, by the table beside the list of registers.
use Rattle.std.specs.Prelude.{ℕ, Bool, false, ◌&&◌, ◌||◌, List, [], ◌∷◌, eqb}
use Rattle.exact.specs.Sign.{within}
use Rattle.reading.specs.declared.Reading.{Reading}
use Rattle.reading.specs.declared.Reading.TheVariants.{Nothing, Under, Number, Over}
use Rattle.register.specs.Shows.{shown, shows_at}
use Rattle.register.specs.declared.Shows.{Shows}

-- a number within the limits, and with no places where the register has none; a mark that the register can show
abbrev pub row_shows : Shows → ℕ → Reading → Bool
row_shows row places Nothing = row.none
row_shows row places Under = row.beyond
row_shows row places (Number z) = within row.numbers.low row.numbers.high z && (row.places || eqb places 0)
row_shows row places Over = row.beyond

unfoldable pub can_show : ℕ → ℕ → Reading → Bool
can_show register places x = row_shows (shows_at register) places x

-- the same of any register of a list
unfoldable pub some_show : List Shows → ℕ → Reading → Bool
some_show [] places x = false
some_show (row ∷ rows) places x = row_shows row places x || some_show rows places x

abbrev pub any_shows : ℕ → Reading → Bool
any_shows places x = some_show shown places x
