-- The first line decides for all that is printed. Assumes nothing.
use mathlib.Core.Path.{◌≡◌, refl, sym, ap, ap₂, ◌∙◌}
use mathlib.Core.List.{List, [], ◌∷◌, ◌++◌}
use mathlib.Core.Logic.{◌≢◌}
use Prim.Native.Nat.{ℕ}
use native.Mathlib.Omega.{arith}
use lib.IntN.{ℤ, pos, nat_abs}
use lib.Signed.{lt_z}
use Rattle.exact.specs.Sign.{minus}
use Rattle.exact.proofs.Z.{either}
use Rattle.reading.specs.Reading as scaling
use Rattle.reading.specs.declared.Reading.{Reading}
use Rattle.reading.specs.declared.Reading.TheVariants as reading
use Rattle.config.specs.Config.{judged}
use Rattle.config.specs.declared.Scale.{Scale}
use Rattle.config.specs.Verdict.{Verdict}
use Rattle.config.specs.Verdict.{Accepted, Broken}
use Rattle.source.specs.Source.{reading_by}
use Rattle.source.proofs.Laws.{by_source_lem}
use Rattle.record.specs.Record.{event_heard}
use Rattle.record.specs.declared.Event.{Event}
use Rattle.record.specs.declared.Event.TheVariants.{Configuration, Sample, Key, Byte}
use Rattle.register.specs.Bytes.{ascii}
use Rattle.text.specs.Line.{kept}
use Rattle.std.specs.Prelude.{Option, Some, None}
use Rattle.rescaling.specs.Rescaling.{Start, scaled, refused, unconfigured, by_verdict, start_of, input_heard, first_told, read_by}
use Rattle.rescaling.specs.Show.{ended, shown_of, later_lines, all_shown}
use Rattle.rescaling.specs.Meaning.{config_in, reading_at, input_line, each, Decides, Readings}

-- ---- later lines

read_line : (s : Scale) (n : Option ℤ) → shown_of (read_by (reading_by s) n) ≡ reading_at s n
unfolding shown_of
read_line s (Some x) = refl
read_line s None = refl

later_scaled : (s : Scale) (ls : List (List ℕ)) → later_lines (scaled s) ls ≡ each (input_line s) ls
unfolding later_lines each
later_scaled s [] = refl
later_scaled s (l ∷ ls) = ap₂ ◌++◌ (read_line s (input_heard (kept l))) (later_scaled s ls)

later_refused : (rule : ℕ) (ls : List (List ℕ)) → later_lines (refused rule) ls ≡ []
unfolding later_lines shown_of
later_refused rule [] = refl
later_refused rule (l ∷ ls) = later_refused rule ls

later_unconfigured : (ls : List (List ℕ)) → later_lines unconfigured ls ≡ each (λ _. ended (ascii "?")) ls
unfolding later_lines each shown_of
later_unconfigured [] = refl
later_unconfigured (l ∷ ls) = ap (λ (x : List (List ℕ)). ended (ascii "?") ++ x) (later_unconfigured ls)

-- ---- the first line

module _ (first : List ℕ) where
  start_judged : (v : Verdict) → event_heard (kept first) ≡ Some Configuration → judged (config_in first) ≡ v → start_of (kept first) ≡ by_verdict (config_in first).scale v
  unfolding start_of
  start_judged v e j = rw (e, j)

  start_other : (e : Option Event) → event_heard (kept first) ≡ e → e ≢ Some Configuration → start_of (kept first) ≡ unconfigured
  unfolding start_of
  start_other (Some Configuration) p n = absurd (n refl)
  start_other (Some (Sample z)) p n = rw p
  start_other (Some (Key z place)) p n = rw p
  start_other (Some (Byte b place)) p n = rw p
  start_other None p n = rw p

  shown_from : (rest : List (List ℕ)) (start : Start) → start_of (kept first) ≡ start → all_shown (first ∷ rest) ≡ shown_of (first_told start) ++ later_lines start rest
  unfolding all_shown
  shown_from rest start e = rw e

  pub decides : (rest : List (List ℕ)) → Decides first rest
  unfolding shown_of each
  decides rest =
      record {
        accepted = λ e j. shown_from rest (scaled (config_in first).scale) (start_judged Accepted e j)
            ∙ ap (λ (x : List (List ℕ)). shown_of (first_told (scaled (config_in first).scale)) ++ x) (later_scaled (config_in first).scale rest);
        refused = λ rule e j. shown_from rest (refused rule) (start_judged (Broken rule) e j)
            ∙ ap (λ (x : List (List ℕ)). shown_of (first_told (refused rule)) ++ x) (later_refused rule rest);
        other = λ n. shown_from rest unconfigured (start_other (event_heard (kept first)) refl n)
            ∙ ap (λ (x : List (List ℕ)). ended (ascii "?") ++ x) (later_unconfigured rest);
      }

-- ---- no input reads Nothing

some : Reading → ℕ
some reading.Nothing = 0
some reading.Under = 1
some (reading.Number v) = 1
some reading.Over = 1

judged_some : (v : ℤ) → some (scaling.judged v) ≡ 1
unfolding scaling.judged some
judged_some v =
    either (λ (r : Reading). some r ≡ 1) (lt_z (pos 99999) v) refl (either (λ (r : Reading). some r ≡ 1) (lt_z v (minus 19999)) refl refl)

points_some : (inputs displays : List ℤ) (count : ℕ) (step x : ℤ) → some (scaling.reading_of inputs displays count step x) ≡ 1
unfolding scaling.reading_of scaling.displayed some
points_some inputs displays count step x =
    either (λ (r : Reading). some r ≡ 1) (lt_z (pos 99999) x) refl
    (either (λ (r : Reading). some r ≡ 1) (lt_z x (minus 99999)) refl (judged_some _))

reading_some : (s : Scale) (x : ℤ) → some (reading_by s x) ≡ 1
unfolding some
reading_some s x =
    by_source_lem (λ (r : Reading). some r ≡ 1) s.source (scaling.reading_of s.inputs s.displays (nat_abs s.count) s.step) s.step x
    (points_some s.inputs s.displays (nat_abs s.count) s.step x) refl refl judged_some

pub readings : Readings
unfolding some
readings s x e = let z : ◌≡◌ {A = ℕ} 0 1 = sym (ap some e) ∙ reading_some s x in omega arith
