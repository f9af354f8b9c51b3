-- A block print is the lines that T gives, in the order of the letters. Assumes nothing.
use mathlib.Core.Path.{◌≡◌, refl}
use mathlib.Core.Bool.{Bool, true, false, ◌||◌, or_assoc}
use mathlib.Core.List.{List, [], ◌++◌, append_assoc}
use Prim.Native.Nat.{ℕ}
use Rattle.register.specs.Registers.{entry}
use Rattle.block.specs.Block.{order, chosen, chosen_lines, some, block, block_end}
use Rattle.effect.specs.Reply.{print_reply}
use Rattle.effect.specs.Prints.{letters_of, rises, t_line, Prints}

-- lines that one option chooses are chosen together: MAX with MIN, and the setpoints
module _ (p q : Bool) (a b c d e f g h : List ℕ) where
  together : (r s : Bool)
      → (chosen p a ++ (chosen q b ++ (chosen r c ++ (chosen r d ++ (chosen s e ++ (chosen s f ++ (chosen s g ++ (chosen s h ++ []))))))))
      ++ chosen (p || (q || (r || (r || (s || (s || (s || (s || false)))))))) block_end
      ≡ chosen p a ++ chosen q b ++ chosen r (c ++ d) ++ chosen s (e ++ f ++ g ++ h) ++ chosen (p || q || r || s) block_end
  together true true = simp (append_assoc, or_assoc)
  together true false = simp (append_assoc, or_assoc)
  together false true = simp (append_assoc, or_assoc)
  together false false = simp (append_assoc, or_assoc)

in_order : rises (letters_of order) ≡ true
unfolding entry
in_order = refl

pub prints : Prints
unfolding print_reply block chosen_lines some
prints =
    record {
      lines =
          λ t w i.
          let line = t_line t w i in
          together t.print.input t.print.total (line "A") (line "B") (line "C") (line "D") (line "E") (line "F") (line "G") (line "H") t.print.extremes t.print.setpoints;
      in_order = in_order;
    }
