-- A block print said once more, by the lines that T gives.
use Rattle.std.specs.Prelude.{◌≡◌, Bool, true, ◌&&◌, ◌||◌, List, [], ◌∷◌, ◌++◌, ℕ, ltb}
use Prim.Native.Char.{Char}
use Rattle.register.specs.Registers.{entry, at}
use Rattle.config.specs.declared.Talking.{Talking}
use Rattle.config.specs.declared.Working.{Working}
use Rattle.block.specs.Block.{Option, order, chosen, block_end}
use Rattle.instrument.specs.declared.Instrument.{Instrument}
use Rattle.effect.specs.Reply.{read_reply, print_reply}

-- the letters of a block's registers, and whether numbers rise
abbrev pub letters_of : List (ℕ × Option) → List ℕ
letters_of [] = []
letters_of (x ∷ xs) = (entry x.0).letter ∷ letters_of xs

abbrev pub rises : List ℕ → Bool
rises [] = true
rises (a ∷ []) = true
rises (a ∷ b ∷ l) = ltb a b && rises (b ∷ l)

module _ (t : Talking) (w : Working) (i : Instrument) where
  -- what T of a letter replies
  abbrev pub t_line : Char → List ℕ
  t_line letter = read_reply t w i (at letter)

pub record Prints : Type 0 where
  -- T's lines of the chosen registers, INP, TOT, MAX with MIN and all four setpoints, and then the end, where any is chosen
  pub lines : (t : Talking) (w : Working) (i : Instrument)
      → print_reply t w i
      ≡ chosen t.print.input (t_line t w i "A")
      ++ chosen t.print.total (t_line t w i "B")
      ++ chosen t.print.extremes (t_line t w i "C" ++ t_line t w i "D")
      ++ chosen t.print.setpoints (t_line t w i "E" ++ t_line t w i "F" ++ t_line t w i "G" ++ t_line t w i "H")
      ++ chosen (t.print.input || t.print.total || t.print.extremes || t.print.setpoints) block_end
  -- the letters come in their order
  pub in_order : rises (letters_of order) ≡ true
