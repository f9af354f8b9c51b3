-- The program over lines, over plain values: what the code does line by line is what the definition prints of all lines. Assumes nothing.
use Rattle.std.proofs.Common.{◌≡◌, ◌∙◌, refl, sym, ap, true, false, ℕ, List, [], ◌∷◌}
use Rattle.text.specs.Line.{Heard, kept, ran}
use Rattle.text.specs.Output.{Waiting, puts}
use Rattle.text.proofs.Waits.{puts_append}
use Rattle.rescaling.specs.Rescaling.{Start, start_of, first_told, later_told}
use Rattle.rescaling.specs.Show.{shown_of, later_lines, all_shown}
use Rattle.rescaling.specs.Held.{opened, awaits, said_by}
use Rattle.rescaling.specs.declared.Mode.{Mode}
use Rattle.rescaling.specs.declared.Mode.TheVariants.{Awaiting}
use Rattle.rescaling.specs.declared.Said.{Said}
use Rattle.rescaling.proofs.Agree.{agrees}
use Rattle.rescale.specs.Rescale.{Stand, stand, opened_at, told_at, heard_by}

-- ---- one line

-- the first line opens the program
pub opened_stand : (s : Stand) (h : Heard) → awaits s.mode ≡ true → opened_at s.out (opened h) ≡ heard_by s h
unfolding heard_by
opened_stand s h e = rw e

pub hears_later : (s : Stand) (h : Heard) → awaits s.mode ≡ false → told_at s h ≡ heard_by s h
unfolding heard_by
hears_later s h e = rw e

-- ---- all lines

module _ (start : Start) (mode : Mode) (e : awaits mode ≡ false) (told : (h : Heard) → said_by mode h ≡ later_told start h) where
  later_ran : (out : Waiting) (ls : List (List ℕ)) → (ran heard_by (stand mode out) ls).out ≡ puts out (later_lines start ls)
  unfolding ran puts later_lines
  later_ran out [] = refl
  later_ran out (l ∷ ls) =
      let v = puts out (shown_of (later_told start (kept l))) in
      let said = ap (λ (x : Said). stand mode (puts out (shown_of x))) (told (kept l)) in
      ap (λ (s : Stand). (ran heard_by s ls).out) (sym (hears_later (stand mode out) (kept l) e) ∙ said)
      ∙ later_ran v ls
      ∙ puts_append out (shown_of (later_told start (kept l))) (later_lines start ls)

-- the first line decides, and the others are told by what it made of the program
pub prints : (out : Waiting) (ls : List (List ℕ)) → (ran heard_by (stand Awaiting out) ls).out ≡ puts out (all_shown ls)
unfolding ran puts all_shown heard_by
prints out [] = refl
prints out (l ∷ ls) =
    let a = agrees (kept l) in
    let o = opened (kept l) in
    later_ran (start_of (kept l)) o.mode a.once a.later (puts out (shown_of o.said)) ls
    ∙ ap (λ (x : Said). puts (puts out (shown_of x)) (later_lines (start_of (kept l)) ls)) a.told
    ∙ puts_append out (shown_of (first_told (start_of (kept l)))) (later_lines (start_of (kept l)) ls)
