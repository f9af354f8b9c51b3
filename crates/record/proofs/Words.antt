-- The words of a line, over plain values: the first one, and those behind the first space. Assumes nothing.
use mathlib.Core.Path.{◌≡◌, refl, sym, ap, ◌∙◌}
use mathlib.Core.Bool.{Bool, true, false, cond, ◌&&◌}
use mathlib.Core.List.{List, [], ◌∷◌}
use Prim.Native.Nat.{ℕ, suc, ◌+◌, ◌-◌, ◌≤◌, ◌<◌}
use native.Mathlib.Omega.{arith}
use lib.Dec.{leb, eqb}
use lib.ListN.{length, take, drop, length-drop}
use lib.Seq.{drop-drop}
use borrow.Author.Tests.{eqb-true}
use Rattle.exact.proofs.Z.{never, and_false}
use Rattle.text.specs.Line.{before, after, has}
use Rattle.text.specs.Number.{is_digit, digits, natural_of, signed_of, number_of}
use Rattle.text.specs.Word.{word_end}
use Rattle.std.specs.Prelude.{None}
use Rattle.record.specs.Record.{grown, led, words}

-- ---- the first word

pub words_one : (s : List ℕ) → has 32 s ≡ false → words s ≡ s ∷ []
unfolding words has
words_one [] e = refl
words_one (b ∷ s) e = go (eqb b 32) (words_one s) e
  where
    go : (t : Bool) → (has 32 s ≡ false → words s ≡ s ∷ []) → cond t true (has 32 s) ≡ false → led t b (words s) ≡ (b ∷ s) ∷ []
    go true next e = never (sym e)
    go false next e = ap (grown b) (next e)

pub words_on : (s : List ℕ) → has 32 s ≡ true → words s ≡ before 32 s ∷ words (after 32 s)
unfolding words has before after
words_on [] e = never e
words_on (b ∷ s) e = go (eqb b 32) (words_on s) e
  where
    go : (t : Bool) → (has 32 s ≡ true → words s ≡ before 32 s ∷ words (after 32 s)) → cond t true (has 32 s) ≡ true
        → led t b (words s) ≡ cond t [] (b ∷ before 32 s) ∷ words (cond t s (after 32 s))
    go true next e = refl
    go false next e = ap (grown b) (next e)

pub before_all : (s : List ℕ) → has 32 s ≡ false → before 32 s ≡ s
unfolding has before
before_all [] e = refl
before_all (b ∷ s) e = go (eqb b 32) (before_all s) e
  where
    go : (t : Bool) → (has 32 s ≡ false → before 32 s ≡ s) → cond t true (has 32 s) ≡ false → cond t [] (b ∷ before 32 s) ≡ b ∷ s
    go true next e = never (sym e)
    go false next e = ap (λ (l : List ℕ). b ∷ l) (next e)

-- a line has a word, if only one of no bytes
pub words_some : (s : List ℕ) → 0 < length (words s)
words_some s = go (has 32 s) refl
  where
    go : (t : Bool) → has 32 s ≡ t → 0 < length (words s)
    go true e = rw (words_on s e) (omega arith)
    go false e = rw (words_one s e) (omega arith)

-- ---- where it ends

take_before : (s : List ℕ) → take (length (before 32 s)) s ≡ before 32 s
unfolding before
take_before [] = refl
take_before (b ∷ s) = go (eqb b 32) (take_before s)
  where
    go : (t : Bool) → take (length (before 32 s)) s ≡ before 32 s → take (length (cond t [] (b ∷ before 32 s))) (b ∷ s) ≡ cond t [] (b ∷ before 32 s)
    go true next = refl
    go false next = ap (λ (l : List ℕ). b ∷ l) next

drop_before : (s : List ℕ) → drop (suc (length (before 32 s))) s ≡ after 32 s
unfolding before after
drop_before [] = refl
drop_before (b ∷ s) = go (eqb b 32) (drop_before s)
  where
    go : (t : Bool) → drop (suc (length (before 32 s))) s ≡ after 32 s → drop (length (cond t [] (b ∷ before 32 s))) s ≡ cond t s (after 32 s)
    go true next = refl
    go false next = next

-- there is a space just where the first word is not all
before_less : (s : List ℕ) → has 32 s ≡ true → length (before 32 s) < length s
unfolding before has
before_less [] e = never e
before_less (b ∷ s) e = go (eqb b 32) (before_less s) e
  where
    go : (t : Bool) → (has 32 s ≡ true → length (before 32 s) < length s) → cond t true (has 32 s) ≡ true
        → length (cond t [] (b ∷ before 32 s)) < suc (length s)
    go true next e = omega arith
    go false next e = omega (arith, next e)

has_less : (s : List ℕ) → length (before 32 s) < length s → has 32 s ≡ true
has_less s h = go (has 32 s) refl
  where
    go : (t : Bool) → has 32 s ≡ t → t ≡ true
    go true e = refl
    go false e = absurd (omega (arith, ap length (before_all s e)))

has_all : (s : List ℕ) → length s ≤ length (before 32 s) → has 32 s ≡ false
has_all s h = go (has 32 s) refl
  where
    go : (t : Bool) → has 32 s ≡ t → t ≡ false
    go true e = absurd (omega (arith, before_less s e))
    go false e = refl

module _ (s : List ℕ) (at e : ℕ) (w : e ≡ word_end at s) where
  size : e ≡ at + length (before 32 (drop at s))
  unfolding word_end
  size = w

  pub word_is : take (e - at) (drop at s) ≡ before 32 (drop at s)
  word_is =
      let z : e - at ≡ length (before 32 (drop at s)) = omega (arith, size) in
      ap (λ (n : ℕ). take n (drop at s)) z ∙ take_before (drop at s)

  pub behind : drop (e + 1) s ≡ after 32 (drop at s)
  behind =
      let z : e + 1 ≡ at + suc (length (before 32 (drop at s))) = omega (arith, size) in
      ap (λ (n : ℕ). drop n s) z ∙ sym (drop-drop (suc (length (before 32 (drop at s)))) at s) ∙ drop_before (drop at s)

  pub spaced : e < length s → has 32 (drop at s) ≡ true
  spaced h = has_less (drop at s) (omega (arith, size, length-drop at s))

  pub unspaced : length s ≤ e → at ≤ length s → has 32 (drop at s) ≡ false
  unspaced h k = has_all (drop at s) (omega (arith, size, length-drop at s))

-- ---- no number has a space in it

digits_space : (s : List ℕ) → has 32 s ≡ true → digits s ≡ false
unfolding digits has
digits_space [] e = never e
digits_space (b ∷ s) e = go (eqb b 32) refl (digits_space s) e
  where
    go : (t : Bool) → eqb b 32 ≡ t → (has 32 s ≡ true → digits s ≡ false) → cond t true (has 32 s) ≡ true → (is_digit b && digits s) ≡ false
    go true p next e = rw (eqb-true b 32 p)
    go false p next e = rw (next e) (and_false (is_digit b))

pub natural_space : (most : ℕ) (s : List ℕ) → has 32 s ≡ true → natural_of most s ≡ None
unfolding natural_of
natural_space most s e = rw (digits_space s e, and_false (leb 1 (length s) && leb (length s) most))

pub number_space : (s : List ℕ) → has 32 s ≡ true → number_of s ≡ None
unfolding number_of signed_of has
number_space [] e = never e
number_space (b ∷ s) e = go (eqb b 45) refl
  where
    go : (t : Bool) → eqb b 45 ≡ t
        → cond t (signed_of true (natural_of 10 s)) (signed_of false (natural_of 10 (b ∷ s))) ≡ None
    go true p = rw (natural_space 10 s (rw (eqb-true b 45 p) at e))
    go false p = rw (natural_space 10 (b ∷ s) e)
