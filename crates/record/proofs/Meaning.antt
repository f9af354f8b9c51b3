-- What the definitions mean: the words of a line are those that make it again, and there are no others; a whole configuration leaves
-- nothing of what the array held. Assumes nothing.
use mathlib.Core.Path.{◌≡◌, refl, sym, ap, ◌∙◌}
use mathlib.Core.Bool.{Bool, true, false, cond, not, ◌&&◌}
use mathlib.Core.List.{List, [], ◌∷◌, ◌++◌}
use Prim.Native.Nat.{ℕ, suc, ◌+◌, ◌<◌}
use native.Mathlib.Omega.{arith}
use lib.Dec.{leb, eqb}
use Rattle.std.specs.Prelude.{Option, Some, None}
use lib.IntN.{ℤ}
use lib.ListN.{length, set, length-set}
use borrow.Author.Tests.{eqb-true}
use Rattle.exact.proofs.Z.{never, both, turned_true}
use Rattle.register.specs.Bytes.{ascii}
use Rattle.text.specs.Line.{Heard, bytes, long, has}
use Rattle.text.specs.Number.{number_of, natural_of}
use Rattle.record.specs.Record.{word_count, grown, led, words, joined, spaceless, Words, same, sample_of, key_of, byte_of, place_of, one_word, two_words, completed, configuration_read, configuration_said, short_said, is_cfg, said_by, event_of, read_by, read_of, stored, event_heard, read_heard}
use Rattle.record.specs.declared.Event.{Event}
use Rattle.record.specs.declared.Event.TheVariants.{Configuration, Sample, Key, Byte}
use Rattle.record.proofs.Words.{words_one, words_some}

-- ---- words

words_text : (s : List ℕ) → joined (words s) ≡ s
unfolding words joined
words_text [] = refl
words_text (b ∷ s) = go (eqb b 32) refl (words s) (words_some s) (words_text s)
  where
    go : (t : Bool) → eqb b 32 ≡ t → (ws : List (List ℕ)) → 0 < length ws → joined ws ≡ s → joined (led t b ws) ≡ b ∷ s
    go true p [] h e = absurd (omega arith)
    go true p (w ∷ ws) h e = rw (eqb-true b 32 p) (ap (λ (l : List ℕ). 32 ∷ l) e)
    go false p [] h e = absurd (omega arith)
    go false p (w ∷ []) h e = ap (λ (l : List ℕ). b ∷ l) e
    go false p (w ∷ v ∷ ws) h e = ap (λ (l : List ℕ). b ∷ l) e

words_plain : (s : List ℕ) → spaceless (words s) ≡ true
unfolding words spaceless has
words_plain [] = refl
words_plain (b ∷ s) = go (eqb b 32) refl (words s) (words_plain s)
  where
    go : (t : Bool) → eqb b 32 ≡ t → (ws : List (List ℕ)) → spaceless ws ≡ true → spaceless (led t b ws) ≡ true
    go true p ws e = e
    go false p [] e = rw p
    go false p (w ∷ ws) e = rw p e

pub words_are : (s : List ℕ) → Words s (words s)
words_are s = record { some = words_some s; plain = words_plain s; text = words_text s }

first_word : (w s : List ℕ) → has 32 w ≡ false → words (w ++ (32 ∷ s)) ≡ w ∷ words s
unfolding words has
first_word [] s e = refl
first_word (b ∷ w) s e = go (eqb b 32) (first_word w s) e
  where
    go : (t : Bool) → (has 32 w ≡ false → words (w ++ (32 ∷ s)) ≡ w ∷ words s) → cond t true (has 32 w) ≡ false
        → led t b (words (w ++ (32 ∷ s))) ≡ (b ∷ w) ∷ words s
    go true next e = never (sym e)
    go false next e = ap (grown b) (next e)

joined_words : (ws : List (List ℕ)) → 0 < length ws → spaceless ws ≡ true → words (joined ws) ≡ ws
unfolding joined spaceless
joined_words [] h e = absurd (omega arith)
joined_words (w ∷ []) h e = words_one w (turned_true (has 32 w) (both (not (has 32 w)) true e).0)
joined_words (w ∷ v ∷ ws) h e =
    let p = both (not (has 32 w)) (spaceless (v ∷ ws)) e in
    first_word w (joined (v ∷ ws)) (turned_true (has 32 w) p.0) ∙ ap (λ (l : List (List ℕ)). w ∷ l) (joined_words (v ∷ ws) (omega arith) p.1)

pub words_only : (s : List ℕ) (ws : List (List ℕ)) → Words s ws → ws ≡ words s
words_only s ws m = sym (joined_words ws m.some m.plain) ∙ ap words m.text

-- ---- the array of settings

pub stored_size : (i : ℕ) (old read : List ℤ) → length (stored i old read) ≡ length old
unfolding stored
stored_size i old [] = refl
stored_size i old (v ∷ read) = stored_size (i + 1) (set old i v) read ∙ length-set old i v

stored_behind : (i : ℕ) (x : ℤ) (old read : List ℤ) → stored (suc i) (x ∷ old) read ≡ x ∷ stored i old read
unfolding stored
stored_behind i x old [] = refl
stored_behind i x old (v ∷ read) =
    let e : suc i + 1 ≡ suc (i + 1) = omega arith in
    ap (λ (k : ℕ). stored k (x ∷ set old i v) read) e ∙ stored_behind (i + 1) x (set old i v) read

pub stored_all : (old read : List ℤ) → length read ≡ length old → stored 0 old read ≡ read
unfolding stored
stored_all [] [] h = refl
stored_all (x ∷ old) [] h = absurd (omega arith)
stored_all [] (v ∷ read) h = absurd (omega arith)
stored_all (x ∷ old) (v ∷ read) h = stored_behind 0 v old read ∙ ap (λ (l : List ℤ). v ∷ l) (stored_all old read (omega arith))

-- ---- a configuration has all its settings

is_whole : Option Event → Bool
is_whole (Some Configuration) = true
is_whole (Some (Sample n)) = false
is_whole (Some (Key n place)) = false
is_whole (Some (Byte b place)) = false
is_whole None = false

sample_part : (n : Option ℤ) → is_whole (sample_of n) ≡ false
unfolding is_whole
sample_part (Some v) = refl
sample_part None = refl

key_part : (n : Option ℤ) (place : Option ℕ) → is_whole (key_of n place) ≡ false
unfolding is_whole
key_part (Some v) (Some p) = refl
key_part (Some v) None = refl
key_part None place = refl

byte_part : (b place : Option ℕ) → is_whole (byte_of b place) ≡ false
unfolding is_whole
byte_part (Some v) (Some p) = go (leb v 255)
  where
    go : (t : Bool) → is_whole (cond t (Some (Byte v p)) None) ≡ false
    go true = refl
    go false = refl
byte_part (Some v) None = refl
byte_part None place = refl

one_part : (f : List ℕ → Option Event) → ((a : List ℕ) → is_whole (f a) ≡ false) → (ws : List (List ℕ)) → is_whole (one_word f ws) ≡ false
unfolding one_word is_whole
one_part f h [] = refl
one_part f h (a ∷ []) = h a
one_part f h (a ∷ b ∷ ws) = refl

two_part : (f : List ℕ → List ℕ → Option Event) → ((a b : List ℕ) → is_whole (f a b) ≡ false) → (ws : List (List ℕ)) → is_whole (two_words f ws) ≡ false
unfolding two_words is_whole
two_part f h [] = refl
two_part f h (a ∷ []) = refl
two_part f h (a ∷ b ∷ []) = h a b
two_part f h (a ∷ b ∷ c ∷ ws) = refl

short_part : (k : List ℕ) (ws : List (List ℕ)) → is_whole (short_said k ws) ≡ false
unfolding short_said is_whole
short_part k ws = go (same k (ascii "S")) (same k (ascii "K")) (same k (ascii "B"))
  where
    go : (s t u : Bool)
        → is_whole (cond s (one_word (λ (n : List ℕ). sample_of (number_of n)) ws)
        (cond t (two_words (λ (n place : List ℕ). key_of (number_of n) (place_of place)) ws)
        (cond u (two_words (λ (b place : List ℕ). byte_of (natural_of 3 b) (place_of place)) ws) None))) ≡ false
    go true t u = one_part (λ (n : List ℕ). sample_of (number_of n)) (λ a. sample_part (number_of a)) ws
    go false true u = two_part (λ (n place : List ℕ). key_of (number_of n) (place_of place)) (λ a b. key_part (number_of a) (place_of b)) ws
    go false false true = two_part (λ (b place : List ℕ). byte_of (natural_of 3 b) (place_of place)) (λ a b. byte_part (natural_of 3 a) (place_of b)) ws
    go false false false = refl

whole_read : (l : List ℕ) → Some Configuration ≡ event_of l → length (read_of l) ≡ word_count
unfolding event_of read_of configuration_said is_whole
whole_read l e = go (words l) e
  where
    said : (t u : Bool) → Some Configuration ≡ cond (t && u) (Some Configuration) None → u ≡ true
    said true true e = refl
    said true false e = sym (ap is_whole e)
    said false u e = never (sym (ap is_whole e))

    by : (t : Bool) (k : List ℕ) (ws : List (List ℕ)) → Some Configuration ≡ cond t (configuration_said ws) (short_said k ws)
        → length (cond t (configuration_read ws) []) ≡ word_count
    by true k ws e = eqb-true (length (configuration_read ws)) word_count (said (eqb (length (completed ws)) word_count) (eqb (length (configuration_read ws)) word_count) e)
    by false k ws e = never (sym (ap is_whole e ∙ short_part k ws))

    go : (ws : List (List ℕ)) → Some Configuration ≡ said_by ws → length (read_by ws) ≡ word_count
    go [] e = never (sym (ap is_whole e))
    go (k ∷ ws) e = by (is_cfg k) k ws e

-- in an array of as many, they are what it then holds
pub configured : (h : Heard) (old : List ℤ) → Some Configuration ≡ event_heard h → length old ≡ word_count → stored 0 old (read_heard h) ≡ read_heard h
unfolding event_heard read_heard is_whole
configured (bytes l) old e n = stored_all old (read_of l) (whole_read l e ∙ sym n)
configured long old e n = never (sym (ap is_whole e))
