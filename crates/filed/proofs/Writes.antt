-- What the writer answers and leaves, and the numbers. Assumes nothing.
use mathlib.Core.Path.{◌≡◌, refl, sym, ap, ◌∙◌}
use mathlib.Core.Bool.{Bool, true, false, cond, not, ◌&&◌}
use mathlib.Core.List.{List}
use mathlib.Core.Logic.{◌≢◌}
use Prim.Native.Nat.{ℕ}
use native.Mathlib.Omega.{arith}
use Rattle.std.specs.Prelude.{Result, Ok, Err}
use lib.IntN.{ℤ, nat_abs}
use lib.ListN.{length}
use Rattle.exact.proofs.Z.{from_to}
use Rattle.reading.specs.Reading.{displayable}
use Rattle.reading.specs.declared.Reading.{Reading}
use Rattle.line.specs.Buffer.{room, laid, after}
use Rattle.filed.specs.Filed.{number, carried, datum_of, in_places, given_of, record_of, filed, written_where, left_where, written_of, left}
use Rattle.filed.specs.Meaning.{Numbered, Writes}
use Rattle.filed.specs.declared.Record.{Record}
use Rattle.filed.specs.declared.Refusal.{Refusal}
use Rattle.filed.specs.declared.Refusal.TheVariants as refusal
use Rattle.filed.specs.declared.Unwritten.{Unwritten}
use Rattle.filed.specs.declared.Unwritten.TheVariants as unwritten
use Rattle.filed.proofs.Exact.{back}

pub numbered : Numbered
numbered = record { refusals = refl; answers = λ n. refl; carries = λ n. refl }

-- what is given by the outcomes of two tests, and the answer and the buffer by those of three
abbrev given : Bool → Bool → Record → Result Record Refusal
given p d x = cond (not p) (Err refusal.Places) (cond (not d) (Err refusal.Value) (Ok x))

abbrev answered : Bool → Bool → Bool → Result ℕ Unwritten
answered p d r = cond (not p) (Err (unwritten.Refused refusal.Places)) (cond (not d) (Err (unwritten.Refused refusal.Value)) (cond r (Ok 8) (Err unwritten.NoRoom)))

abbrev leaves : {A : Type 0} → Bool → Bool → Bool → A → A → A
leaves p d r with_it as_it_was = cond (p && d) (cond r with_it as_it_was) as_it_was

answer_by_tests : (p d : Bool) (x : Record) (buffer : List ℕ) (place : ℕ) → written_where (given p d x) buffer place ≡ answered p d (room (length buffer) place 8)
answer_by_tests false d x buffer place = refl
answer_by_tests true false x buffer place = refl
answer_by_tests true true x buffer place = refl

left_by_tests : (p d : Bool) (x : Record) (buffer : List ℕ) (place : ℕ)
    → left_where (given p d x) buffer place ≡ leaves p d (room (length buffer) place 8) (laid buffer place (record_of x.places x.datum)) buffer
unfolding after record_of
left_by_tests false d x buffer place = refl
left_by_tests true false x buffer place = refl
left_by_tests true true x buffer place = refl

laid_at_2 : {A : Type 0} (p d r : Bool) (x y : A) → number (answered p d r) ≡ 2 → leaves p d r x y ≡ x
laid_at_2 false d r x y e = absurd (omega arith)
laid_at_2 true false r x y e = absurd (omega arith)
laid_at_2 true true false x y e = absurd (omega arith)
laid_at_2 true true true x y e = refl

eight_at_2 : (p d r : Bool) → number (answered p d r) ≡ 2 → carried (answered p d r) ≡ 8
eight_at_2 false d r e = absurd (omega arith)
eight_at_2 true false r e = absurd (omega arith)
eight_at_2 true true false e = absurd (omega arith)
eight_at_2 true true true e = refl

as_it_was : {A : Type 0} (p d r : Bool) (x y : A) → number (answered p d r) ≢ 2 → leaves p d r x y ≡ y
as_it_was false d r x y e = refl
as_it_was true false r x y e = refl
as_it_was true true false x y e = refl
as_it_was true true true x y e = absurd (e refl)

pub writes : (shown : Reading) (places : ℤ) (buffer : List ℕ) (place : ℕ) → Writes shown places buffer place
unfolding given_of written_of left record_of
writes shown places buffer place =
    let p = in_places places in
    let d = displayable shown in
    let r = room (length buffer) place 8 in
    let x : Record = record { places = nat_abs places; datum = datum_of (nat_abs places) shown } in
    let a : written_of shown places buffer place ≡ answered p d r = answer_by_tests p d x buffer place in
    let l : left shown places buffer place ≡ leaves p d r (laid buffer place (filed places shown)) buffer = left_by_tests p d x buffer place in
    record {
      bad_places = λ e. rw e;
      bad_number = λ e f. rw (e, f);
      no_room = λ e f g. rw (e, f, g);
      done = λ e f g. rw (e, f, g);
      record_laid = λ e. l ∙ laid_at_2 p d r (laid buffer place (filed places shown)) buffer (sym (ap number a) ∙ e);
      eight_bytes = (λ e. ap carried a ∙ eight_at_2 p d r (sym (ap number a) ∙ e), refl);
      untouched = λ e. l ∙ as_it_was p d r (laid buffer place (filed places shown)) buffer (λ f. e (ap number a ∙ f));
      read_back = λ e f. back (nat_abs places) shown (from_to places _ _ e).1.1 f ∙ rw (e, f);
    }
