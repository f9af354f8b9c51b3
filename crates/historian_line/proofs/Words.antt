-- Two words with a space between them: where the first one ends, and what stands on either side. Assumes nothing.
use mathlib.Core.Path.{◌≡◌, refl, sym, ap, ◌∙◌}
use mathlib.Core.Bool.{Bool, true, false, cond}
use mathlib.Core.List.{List, [], ◌∷◌}
use Prim.Native.Nat.{ℕ, suc, ◌+◌, ◌-◌, ◌≤◌, ◌<◌}
use native.Mathlib.Nat.{zero-add}
use native.Mathlib.Omega.{arith}
use lib.Dec.{eqb}
use lib.ListN.{length, take, drop}
use Rattle.exact.proofs.Z.{never}
use Rattle.text.specs.Line.{before, after, has}
use Rattle.text.specs.Word.{word_end}
use Rattle.text.proofs.Laws.{rest}

module _ (x : ℕ) where
  front : (s : List ℕ) → take (length (before x s)) s ≡ before x s
  unfolding before
  front [] = refl
  front (b ∷ s) = go (eqb b x) (front s)
    where
      go : (t : Bool) → take (length (before x s)) s ≡ before x s → take (length (cond t [] (b ∷ before x s))) (b ∷ s) ≡ cond t [] (b ∷ before x s)
      go true e = refl
      go false e = ap (◌∷◌ b) e

  back : (s : List ℕ) → has x s ≡ true → drop (suc (length (before x s))) s ≡ after x s
  unfolding before after has
  back [] h = never h
  back (b ∷ s) h = go (eqb b x) (back s) h
    where
      go : (t : Bool) → (has x s ≡ true → drop (suc (length (before x s))) s ≡ after x s) → cond t true (has x s) ≡ true
          → drop (suc (length (cond t [] (b ∷ before x s)))) (b ∷ s) ≡ cond t s (after x s)
      go true later e = refl
      go false later e = later e

  there : (s : List ℕ) → has x s ≡ true → length (before x s) < length s
  unfolding before has
  there [] h = never h
  there (b ∷ s) h = go (eqb b x) (there s) h
    where
      go : (t : Bool) → (has x s ≡ true → length (before x s) < length s) → cond t true (has x s) ≡ true → length (cond t [] (b ∷ before x s)) < suc (length s)
      go true later e = omega arith
      go false later e = omega (arith, later e)

  nowhere : (s : List ℕ) → has x s ≡ false → length (before x s) ≡ length s
  unfolding before has
  nowhere [] h = refl
  nowhere (b ∷ s) h = go (eqb b x) (nowhere s) h
    where
      go : (t : Bool) → (has x s ≡ false → length (before x s) ≡ length s) → cond t true (has x s) ≡ false → length (cond t [] (b ∷ before x s)) ≡ suc (length s)
      go true later e = never (sym e)
      go false later e = ap suc (later e)

-- by the place at which the first word ends
module _ (s : List ℕ) (end : ℕ) (e : end ≡ word_end 0 s) where
  count : end ≡ length (before 32 s)
  unfolding word_end
  count = e ∙ zero-add (length (before 32 s))

  pub spaced : end < length s → has 32 s ≡ true
  spaced h = go (has 32 s) refl
    where
      go : (t : Bool) → has 32 s ≡ t → has 32 s ≡ true
      go true h32 = h32
      go false h32 = absurd (omega (arith, count, nowhere 32 s h32))

  pub unspaced : length s ≤ end → has 32 s ≡ false
  unspaced h = go (has 32 s) refl
    where
      go : (t : Bool) → has 32 s ≡ t → has 32 s ≡ false
      go false h32 = h32
      go true h32 = absurd (omega (arith, count, there 32 s h32))

  pub first_word : take end s ≡ before 32 s
  first_word = ap (λ (k : ℕ). take k s) count ∙ front 32 s

  pub second_word : end < length s → take (length s - (end + 1)) (drop (end + 1) s) ≡ after 32 s
  second_word h =
      let n : end + 1 ≡ suc (length (before 32 s)) = omega (arith, count) in
      rest (end + 1) s ∙ ap (λ (k : ℕ). drop k s) n ∙ back 32 s (spaced h)
