-- What the words of a line say, over plain values: each test on the way says which case of the definition holds. Assumes nothing.
use mathlib.Core.Path.{◌≡◌, refl, sym, ap, ap₂, ◌∙◌}
use mathlib.Core.Bool.{Bool, true, false, cond}
use mathlib.Core.List.{List, [], ◌∷◌, ◌++◌}
use Prim.Native.Nat.{ℕ, ◌≤◌, ◌<◌}
use native.Mathlib.Omega.{arith}
use lib.Dec.{eqb}
use lib.IntN.{ℤ}
use lib.ListN.{length, drop, get_or}
use borrow.Author.Tests.{le-leb, lt-leb, eq-eqb, ne_eqb, eqb-true}
use Rattle.exact.proofs.Z.{never, both, and_false}
use Rattle.register.specs.Bytes.{ascii}
use Rattle.text.specs.Line.{before, after, has}
use Rattle.text.specs.Number.{natural_of, signed_of, number_of}
use Rattle.std.specs.Prelude.{Option, Some, None}
use Rattle.record.specs.Record.{led, grown, words, same, sample_of, key_of, byte_of, place_of, one_word, two_words, sample_said, key_said, byte_said, kinds, settings_of, configuration_read, configuration_said, short_said, short_by, is_cfg, said_by, event_of, read_by, read_of, stored}
use Rattle.record.specs.declared.Event.{Event}
use Rattle.record.specs.declared.Event.TheVariants.{Byte}
use Rattle.record.proofs.Words.{words_one, words_on, natural_space, number_space}

-- ---- one word, or two

one_more : (f : List ℕ → Option Event) (a s : List ℕ) → one_word f (a ∷ words s) ≡ None
unfolding one_word
one_more f a s = go (has 32 s) refl
  where
    go : (t : Bool) → has 32 s ≡ t → one_word f (a ∷ words s) ≡ None
    go true e = rw (words_on s e)
    go false e = rw (words_one s e)

two_more : (f : List ℕ → List ℕ → Option Event) (a b s : List ℕ) → two_words f (a ∷ b ∷ words s) ≡ None
unfolding two_words
two_more f a b s = go (has 32 s) refl
  where
    go : (t : Bool) → has 32 s ≡ t → two_words f (a ∷ b ∷ words s) ≡ None
    go true e = rw (words_on s e)
    go false e = rw (words_one s e)

-- what is bad where it has a space in it may as well take the whole of what is left
one_is : (f : List ℕ → Option Event) (s : List ℕ) → (has 32 s ≡ true → f s ≡ None) → f s ≡ one_word f (words s)
unfolding one_word
one_is f s bad = go (has 32 s) refl
  where
    go : (t : Bool) → has 32 s ≡ t → f s ≡ one_word f (words s)
    go true e = bad e ∙ rw (words_on s e) (sym (one_more f (before 32 s) (after 32 s)))
    go false e = rw (words_one s e)

two_is : (f : List ℕ → List ℕ → Option Event) (s : List ℕ) → ((a b : List ℕ) → has 32 b ≡ true → f a b ≡ None)
    → has 32 s ≡ true → f (before 32 s) (after 32 s) ≡ two_words f (words s)
unfolding two_words
two_is f s bad e = rw (words_on s e) (go (has 32 (after 32 s)) refl)
  where
    go : (t : Bool) → has 32 (after 32 s) ≡ t → f (before 32 s) (after 32 s) ≡ two_words f (before 32 s ∷ words (after 32 s))
    go true e = bad _ _ e ∙ rw (words_on (after 32 s) e) (sym (two_more f (before 32 s) (before 32 (after 32 s)) (after 32 (after 32 s))))
    go false e = rw (words_one (after 32 s) e)

two_none : (f : List ℕ → List ℕ → Option Event) (s : List ℕ) → has 32 s ≡ false → None ≡ two_words f (words s)
unfolding two_words
two_none f s e = rw (words_one s e)

pub sample_is : (s : List ℕ) → sample_of (number_of s) ≡ sample_said (words s)
sample_is s = one_is (λ (n : List ℕ). sample_of (number_of n)) s (λ e. ap sample_of (number_space s e))

key_not : (n : Option ℤ) → key_of n None ≡ None
key_not (Some v) = refl
key_not None = refl

byte_not : (b : Option ℕ) → byte_of b None ≡ None
byte_not (Some v) = refl
byte_not None = refl

key_is : (s : List ℕ) → has 32 s ≡ true → key_of (number_of (before 32 s)) (place_of (after 32 s)) ≡ key_said (words s)
key_is s =
    two_is (λ (n place : List ℕ). key_of (number_of n) (place_of place)) s
    (λ a b e. ap (key_of (number_of a)) (natural_space 20 b e) ∙ key_not (number_of a))

byte_is : (s : List ℕ) → has 32 s ≡ true → byte_of (natural_of 3 (before 32 s)) (place_of (after 32 s)) ≡ byte_said (words s)
byte_is s =
    two_is (λ (b place : List ℕ). byte_of (natural_of 3 b) (place_of place)) s
    (λ a b e. ap (byte_of (natural_of 3 a)) (natural_space 20 b e) ∙ byte_not (natural_of 3 a))

pub key_none : (s : List ℕ) → has 32 s ≡ false → None ≡ key_said (words s)
key_none s e = two_none (λ (n place : List ℕ). key_of (number_of n) (place_of place)) s e

pub byte_none : (s : List ℕ) → has 32 s ≡ false → None ≡ byte_said (words s)
byte_none s e = two_none (λ (b place : List ℕ). byte_of (natural_of 3 b) (place_of place)) s e

-- what is read of the two words
module _ (s : List ℕ) (y : has 32 s ≡ true) (p : Option ℕ) (place : p ≡ place_of (after 32 s)) where
  pub key_parts : (n : Option ℤ) → n ≡ number_of (before 32 s) → key_of n p ≡ key_said (words s)
  key_parts n e = ap₂ key_of e place ∙ key_is s y

  pub byte_parts : (n : Option ℕ) → n ≡ natural_of 3 (before 32 s) → byte_of n p ≡ byte_said (words s)
  byte_parts n e = ap₂ byte_of e place ∙ byte_is s y

-- a number is a byte or past it
pub byte_past : (v : ℕ) (p : Option ℕ) → 255 < v → None ≡ byte_of (Some v) p
byte_past v (Some place) h = rw (lt-leb v 255 h)
byte_past v None h = refl

pub byte_within : (v place : ℕ) → v ≤ 255 → Some (Byte v place) ≡ byte_of (Some v) (Some place)
byte_within v place h = rw (le-leb v 255 h)

-- ---- a letter

pub other_letter : (k : ℕ) (ws : List (List ℕ)) → (k ≡ 83 → ⊥) → (k ≡ 75 → ⊥) → (k ≡ 66 → ⊥) → None ≡ short_said (k ∷ []) ws
unfolding short_said same
other_letter k ws p q r = rw (ne_eqb k 83 p, ne_eqb k 75 q, ne_eqb k 66 r)

-- a first word with no byte, or with more than one
long_word : (a b : ℕ) (w : List ℕ) (ws : List (List ℕ)) → short_said (a ∷ b ∷ w) ws ≡ None
unfolding short_said same
long_word a b w ws = rw (and_false (eqb a 83), and_false (eqb a 75), and_false (eqb a 66))

all_bad : (s k b : Bool) → cond {A = Option Event} s None (cond k None (cond b None None)) ≡ None
all_bad true k b = refl
all_bad false true b = refl
all_bad false false true = refl
all_bad false false false = refl

-- a letter alone, or with a word of no bytes
word_alone : (k : List ℕ) → short_said k [] ≡ None
unfolding short_said one_word two_words
word_alone k = all_bad (same k (ascii "S")) (same k (ascii "K")) (same k (ascii "B"))

word_empty : (k : List ℕ) → short_said k ([] ∷ []) ≡ None
unfolding short_said one_word two_words number_of natural_of signed_of
word_empty k = all_bad (same k (ascii "S")) (same k (ascii "K")) (same k (ascii "B"))

no_letter : (ws : List (List ℕ)) → short_said [] ws ≡ None
unfolding short_said same
no_letter ws = refl

-- no letter and space in front
pub too_short : (l : List ℕ) → length l < 2 → None ≡ short_by (words l)
unfolding words
too_short [] h = sym (no_letter [])
too_short (a ∷ []) h = go (eqb a 32)
  where
    go : (t : Bool) → None ≡ short_by (led t a ([] ∷ []))
    go true = sym (no_letter ([] ∷ []))
    go false = sym (word_alone (a ∷ []))
too_short (a ∷ b ∷ l) h = absurd (omega arith)

pub no_space : (l : List ℕ) → 2 ≤ length l → (get_or l 1 0 ≡ 32 → ⊥) → None ≡ short_by (words l)
unfolding words
no_space [] h e = absurd (omega arith)
no_space (a ∷ []) h e = absurd (omega arith)
no_space (a ∷ b ∷ l) h e = rw (ne_eqb b 32 e) (go (eqb a 32) (words l))
  where
    go : (t : Bool) (ws : List (List ℕ)) → None ≡ short_by (led t a (grown b ws))
    go true ws = sym (no_letter (grown b ws))
    go false [] = sym (long_word a b [] [])
    go false (w ∷ ws) = sym (long_word a b w ws)

pub letter_is : (l : List ℕ) → 2 ≤ length l → get_or l 1 0 ≡ 32 → short_said (get_or l 0 0 ∷ []) (words (drop 2 l)) ≡ short_by (words l)
unfolding words
letter_is [] h e = absurd (omega arith)
letter_is (a ∷ []) h e = absurd (omega arith)
letter_is (a ∷ b ∷ l) h e = rw (eq-eqb b 32 e) (go (eqb a 32) refl)
  where
    go : (t : Bool) → eqb a 32 ≡ t → short_said (a ∷ []) (words l) ≡ short_by (led t a ([] ∷ words l))
    go true p = sym (other_letter a (words l) (λ q. omega (arith, eqb-true a 32 p)) (λ q. omega (arith, eqb-true a 32 p)) (λ q. omega (arith, eqb-true a 32 p))) ∙ sym (no_letter ([] ∷ words l))
    go false p = refl

-- ---- CFG

-- two words that are the same
same_is : (w v : List ℕ) → same w v ≡ true → w ≡ v
unfolding same
same_is [] [] e = refl
same_is [] (b ∷ v) e = never e
same_is (a ∷ w) [] e = never e
same_is (a ∷ w) (b ∷ v) e =
    let p = both (eqb a b) (same w v) e in
    rw (eqb-true a b p.0) (ap (λ (l : List ℕ). b ∷ l) (same_is w v p.1))

-- a line is its bytes before a space, the space, and those after it
parted : (l : List ℕ) → has 32 l ≡ true → l ≡ before 32 l ++ (32 ∷ after 32 l)
unfolding has before after
parted [] h = never h
parted (b ∷ l) h = go (eqb b 32) refl (parted l) h
  where
    go : (t : Bool) → eqb b 32 ≡ t → (has 32 l ≡ true → l ≡ before 32 l ++ (32 ∷ after 32 l)) → cond t true (has 32 l) ≡ true
        → b ∷ l ≡ cond t [] (b ∷ before 32 l) ++ (32 ∷ cond t l (after 32 l))
    go true p next h = rw (eqb-true b 32 p)
    go false p next h = ap (λ (s : List ℕ). b ∷ s) (next h)

-- a line that does not begin with `CFG ` has no settings, and is one of a letter or bad
module _ (l : List ℕ) (n : (rest : List ℕ) → l ≡ ascii "CFG " ++ rest → ⊥) where
  not_cfg : (t : Bool) → has 32 l ≡ true → is_cfg (before 32 l) ≡ t → t ≡ false
  not_cfg true h e = absurd (n (after 32 l) (parted l h ∙ ap (λ (w : List ℕ). w ++ (32 ∷ after 32 l)) (same_is (before 32 l) (ascii "CFG") e)))
  not_cfg false h e = refl

  pub short_is : short_by (words l) ≡ event_of l
  unfolding event_of configuration_said settings_of kinds
  short_is = go (has 32 l) refl
    where
      alone : (t : Bool) → short_said l [] ≡ cond t None (short_said l [])
      alone true = word_alone l
      alone false = refl

      go : (t : Bool) → has 32 l ≡ t → short_by (words l) ≡ said_by (words l)
      go true h = rw (words_on l h, not_cfg (is_cfg (before 32 l)) h refl)
      go false h = rw (words_one l h) (alone (is_cfg l))

  pub none_read : [] ≡ read_of l
  unfolding read_of settings_of kinds
  none_read = go (has 32 l) refl
    where
      alone : (t : Bool) → [] ≡ cond t (settings_of kinds []) []
      alone true = refl
      alone false = refl

      go : (t : Bool) → has 32 l ≡ t → [] ≡ read_by (words l)
      go true h = rw (words_on l h, not_cfg (is_cfg (before 32 l)) h refl)
      go false h = rw (words_one l h) (alone (is_cfg l))

pub configuration_is : (l rest : List ℕ) → l ≡ ascii "CFG " ++ rest → configuration_said (words rest) ≡ event_of l
unfolding event_of words same
configuration_is l rest e = rw e

pub settings_are : (l rest : List ℕ) → l ≡ ascii "CFG " ++ rest → configuration_read (words rest) ≡ read_of l
unfolding read_of words same
settings_are l rest e = rw e

-- where nothing is read, the array stays
pub untouched : (old : List ℤ) {read : List ℤ} → [] ≡ read → old ≡ stored 0 old read
unfolding stored
untouched old e = ap (stored 0 old) e
