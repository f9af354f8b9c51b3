-- What waits after lines, one after another, is what is printed of all of them. Assumes nothing.
use mathlib.Core.Path.{◌≡◌, refl, ◌∙◌}
use mathlib.Core.List.{List, [], ◌∷◌}
use Prim.Native.Nat.{ℕ}
use Rattle.text.specs.Line.{kept, ran}
use Rattle.text.specs.Output.{Waiting, puts}
use Rattle.text.proofs.Waits.{puts_append}
use Rattle.historian_line.specs.Line.{heard_shown, all_shown}
use Rattle.historian.specs.Historian.{heard_by}

pub all_shown_lem : (w : Waiting) (ls : List (List ℕ)) → ran heard_by w ls ≡ puts w (all_shown ls)
unfolding ran all_shown puts heard_by
all_shown_lem w [] = refl
all_shown_lem w (l ∷ ls) = all_shown_lem (puts w (heard_shown (kept l))) ls ∙ puts_append w (heard_shown (kept l)) (all_shown ls)
