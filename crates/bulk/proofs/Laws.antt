-- What stands at each place after inputs were read in, and that the numbers tell what was read. Assumes nothing.
use mathlib.Core.Path.{◌≡◌, refl, sym, ap, ◌∙◌}
use mathlib.Core.Bool.{Bool, true, false}
use mathlib.Core.List.{List, [], ◌∷◌}
use Prim.Native.Nat.{ℕ, zero, suc, ◌≤◌, ◌<◌}
use native.Mathlib.Omega.{arith}
use lib.IntN.{ℤ, pos, nat_abs}
use lib.ListN.{length}
use lib.Signed.{lt_z}
use Rattle.exact.specs.Sign.{minus}
use Rattle.exact.proofs.Z.{never, either}
use Rattle.reading.specs.Reading.{in_display, judged, displayed, displayable}
use Rattle.reading.specs.declared.Reading.{Reading}
use Rattle.reading.specs.declared.Reading.TheVariants.{Nothing, Under, Number, Over}
use Rattle.config.specs.Config as configs
use Rattle.config.specs.declared.Config.{Config}
use Rattle.config.specs.Verdict.{Accepted}
use Rattle.config.proofs.Acceptance.{scale_accepted}
use Rattle.source.proofs.Laws as sources
use Rattle.segments.specs.Segments.{segments_of, read_on, read, can_scale}
use Rattle.segments.specs.declared.Segments.{Segments}
use Rattle.segments.proofs.ByPoints.{read_displayable, reads, passes}
use Rattle.bulk.specs.Bulk.{number_of, read_into, at, Rescales, BySource, Told}
use Rattle.bulk.proofs.Reading.{read_length}

-- ---- place by place

module _ (s : Segments) where
  each : (k : ℕ) (xs into : List ℤ) → k < length xs → k < length into → at (read_into s xs into) k ≡ number_of (read s (at xs k))
  unfolding read_into
  each k [] into h g = absurd (omega arith)
  each k (x ∷ xs) [] h g = absurd (omega arith)
  each zero (x ∷ xs) (old ∷ rest) h g = refl
  each (suc k) (x ∷ xs) (old ∷ rest) h g = each k xs rest (omega arith) (omega arith)

  behind : (k : ℕ) (xs into : List ℤ) → length xs ≤ k → at (read_into s xs into) k ≡ at into k
  unfolding read_into
  behind k [] into h = refl
  behind k (x ∷ xs) [] h = refl
  behind zero (x ∷ xs) (old ∷ rest) h = absurd (omega arith)
  behind (suc k) (x ∷ xs) (old ∷ rest) h = behind k xs rest (omega arith)

pub rescales : (s : Segments) (inputs readings : List ℤ) → Rescales s inputs readings
rescales s inputs readings =
    record {
      as_long = either (λ (l : List ℤ). length l ≡ length readings) (can_scale s) (read_length s inputs readings) refl;
      each = λ ok k h g. rw ok (each s k inputs readings h g);
      behind = λ k h. either (λ (l : List ℤ). at l k ≡ at readings k) (can_scale s) (behind s k inputs readings h) refl;
      refused = λ no. rw no;
    }

pub by_source : (c : Config) (accepted : configs.judged c ≡ Accepted) (inputs readings : List ℤ) → BySource c accepted inputs readings
by_source c accepted inputs readings =
    let s = segments_of c.scale in
    let ok = passes c.scale (scale_accepted c accepted) in
    record {
      answer = rw ok;
      each = λ k h g. rw ok (each s k inputs readings h g) ∙ ap number_of (reads c.scale (scale_accepted c accepted) (at inputs k));
    }

-- ---- the numbers tell the readings

abbrev is_nothing : Reading → Bool
is_nothing Nothing = true
is_nothing Under = false
is_nothing (Number v) = false
is_nothing Over = false

judged_something : (v : ℤ) → is_nothing (judged v) ≡ false
unfolding judged
judged_something v =
    either (λ (r : Reading). is_nothing r ≡ false) (lt_z (pos 99999) v) {x = Over} refl
    (either (λ (r : Reading). is_nothing r ≡ false) (lt_z v (minus 19999)) {x = Under} {y = Number v} refl refl)

-- no input reads Nothing
on_something : (inputs displays rises runs : List ℤ) (last : ℕ) (step x : ℤ) → is_nothing (read_on inputs displays rises runs last step x) ≡ false
unfolding read_on displayed
on_something inputs displays rises runs last step x =
    either (λ (r : Reading). is_nothing r ≡ false) (lt_z (pos 99999) x) refl
    (either (λ (r : Reading). is_nothing r ≡ false) (lt_z x (minus 99999)) refl (judged_something _))

read_something : (s : Segments) (x : ℤ) → is_nothing (read s x) ≡ false
read_something s x =
    sources.by_source_lem (λ (r : Reading). is_nothing r ≡ false) s.source (read_on s.inputs s.displays s.rises s.runs s.last s.step) s.step x
    (on_something s.inputs s.displays s.rises s.runs s.last s.step x) refl refl judged_something

-- a number of the display range is neither of the two that stand for Under and Over
no_mark : (mark v : ℤ) → in_display mark ≡ false → mark ≡ v → in_display v ≡ true → ⊥
no_mark mark v out e i = never (sym out ∙ ap in_display e ∙ i)

apart : (r q : Reading) → is_nothing r ≡ false → is_nothing q ≡ false → displayable r ≡ true → displayable q ≡ true → number_of r ≡ number_of q → r ≡ q
unfolding displayable
apart Nothing q a b d e n = never (sym a)
apart Under Nothing a b d e n = never (sym b)
apart Under Under a b d e n = refl
apart Under (Number v) a b d e n = absurd (no_mark (minus 20000) v refl n e)
apart Under Over a b d e n = absurd (omega (arith, ap nat_abs n))
apart (Number v) Nothing a b d e n = never (sym b)
apart (Number v) Under a b d e n = absurd (no_mark (minus 20000) v refl (sym n) d)
apart (Number v) (Number w) a b d e n = ap Number n
apart (Number v) Over a b d e n = absurd (no_mark (pos 100000) v refl (sym n) d)
apart Over Nothing a b d e n = never (sym b)
apart Over Under a b d e n = absurd (omega (arith, ap nat_abs n))
apart Over (Number v) a b d e n = absurd (no_mark (pos 100000) v refl n e)
apart Over Over a b d e n = refl

pub told : Told
told s x y e = apart (read s x) (read s y) (read_something s x) (read_something s y) (read_displayable s x) (read_displayable s y) e
