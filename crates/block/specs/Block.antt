-- A block print: the lines of the chosen registers, and the end. What a register's line is, is said elsewhere.
use Rattle.std.specs.Prelude.{ℕ, ◌+◌, ◌*◌, Bool, false, cond, ◌||◌, List, [], ◌∷◌, ◌++◌, get_or}
use Rattle.register.specs.Bytes.{ascii}
use Rattle.register.specs.Registers.{at}
use Rattle.register.specs.declared.Print.{Print}

-- what a line is printed by: INP; TOT; MAX with MIN; all four setpoints
pub data Option : Type 0 where
  input : Option
  total : Option
  extremes : Option
  setpoints : Option

abbrev pub wants : Print → Option → Bool
wants p input = p.input
wants p total = p.total
wants p extremes = p.extremes
wants p setpoints = p.setpoints

-- the registers of a block, in its order, which is that of their letters, each with its option
abbrev pub order : List (ℕ × Option)
order =
    (at "A", input)
    ∷ (at "B", total)
    ∷ (at "C", extremes)
    ∷ (at "D", extremes)
    ∷ (at "E", setpoints)
    ∷ (at "F", setpoints)
    ∷ (at "G", setpoints)
    ∷ (at "H", setpoints)
    ∷ []

-- the option that the register at a place of the order is printed by
abbrev pub option_at : ℕ → Option
option_at r = (get_or order r (at "H", setpoints)).1

-- a text where it is chosen, else nothing
abbrev pub chosen : Bool → List ℕ → List ℕ
chosen wanted text = cond wanted text []

-- the chosen lines of a list, one after another
unfoldable pub chosen_lines : Print → (ℕ → List ℕ) → List (ℕ × Option) → List ℕ
chosen_lines p line [] = []
chosen_lines p line (x ∷ xs) = chosen (wants p x.1) (line x.0) ++ chosen_lines p line xs

-- whether any is chosen, and how many are
unfoldable pub some : Print → List (ℕ × Option) → Bool
some p [] = false
some p (x ∷ xs) = wants p x.1 || some p xs

unfoldable pub line_count : Print → List (ℕ × Option) → ℕ
line_count p [] = 0
line_count p (x ∷ xs) = cond (wants p x.1) 1 0 + line_count p xs

abbrev pub block_end : List ℕ
block_end = ascii " \r\n"

-- the lines, then space, CR and LF; nothing where nothing is chosen. `line r` is the line of register r
unfoldable pub block : Print → (ℕ → List ℕ) → List ℕ
block p line = chosen_lines p line order ++ chosen (some p order) block_end

-- how long a block is whose lines have so many bytes
abbrev pub block_length : Print → ℕ → ℕ
block_length p bytes = line_count p order * bytes + cond (some p order) 3 0
