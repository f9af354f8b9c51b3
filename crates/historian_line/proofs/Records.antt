-- What the writer leaves in eight bytes: the record, where there is one. Assumes nothing.
use mathlib.Core.Path.{◌≡◌, refl, sym, ap, ◌∙◌}
use mathlib.Core.Bool.{Bool, true, false, cond, not, ◌&&◌}
use mathlib.Core.List.{List, ◌++◌}
use Prim.Native.Nat.{ℕ}
use lib.IntN.{ℤ}
use lib.ListN.{replicate}
use Rattle.std.specs.Prelude.{Result, Ok, Err, is_ok}
use Rattle.exact.proofs.Z.{both}
use Rattle.reading.specs.Reading.{displayable}
use Rattle.reading.specs.declared.Reading.{Reading}
use Rattle.line.specs.Buffer.{over, laid, after}
use Rattle.filed.specs.Filed.{record_of, in_places, given_of, written_where, written_of, left}
use Rattle.filed.specs.declared.Record.{Record}
use Rattle.filed.specs.declared.Refusal.TheVariants as refusal
use Rattle.filed.specs.declared.Unwritten.{Unwritten}
use Rattle.hexadecimal.specs.Hex.{hex}
use Rattle.historian_line.specs.Line.{ended, unknown, record_line}

-- eight zeros, into which a record is written
abbrev pub zeros : List ℕ
zeros = replicate 8 0

by_tests : (p d : Bool) (x : Record)
    → (p && d) ≡ is_ok (written_where (cond (not p) (Err refusal.Places) (cond (not d) (Err refusal.Value) (Ok x))) zeros 0)
by_tests false d x = refl
by_tests true false x = refl
by_tests true true x = refl

-- whether there is a record is what the writer answers
tested : (shown : Reading) (places : ℤ) (w : Result ℕ Unwritten) → w ≡ written_of shown places zeros 0 → (in_places places && displayable shown) ≡ is_ok w
unfolding given_of written_of
tested shown places w e = by_tests (in_places places) (displayable shown) _ ∙ ap is_ok (sym e)

pub record_shown : (shown : Reading) (places : ℤ) (n : ℕ) → Ok n ≡ written_of shown places zeros 0
    → (hex (left shown places zeros 0) ++ ended) ≡ record_line shown places
unfolding given_of left record_line after laid over record_of
record_shown shown places n e =
    let t = both (in_places places) (displayable shown) (tested shown places (Ok n) e) in
    rw (t.0, t.1)

pub nothing_shown : (shown : Reading) (places : ℤ) (w : Result ℕ Unwritten) → is_ok w ≡ false → w ≡ written_of shown places zeros 0 → unknown ≡ record_line shown places
unfolding record_line
nothing_shown shown places w none e = rw (tested shown places w e ∙ none)
