-- One turn of the loop over the words of a configuration, over plain values: i words are read, and d is what is left of the line.
-- Assumes nothing.
use mathlib.Core.Path.{◌≡◌, refl, sym, ap, ap₂, ◌∙◌}
use mathlib.Core.Bool.{Bool, true, false, cond, ◌&&◌, ◌||◌}
use mathlib.Core.List.{List, [], ◌∷◌, ◌++◌}
use Prim.Native.Nat.{ℕ, suc, ◌+◌, ◌≤◌, ◌<◌}
use native.Mathlib.Omega.{arith}
use native.Mathlib.Numerals.{add-one}
use lib.Dec.{eqb}
use Rattle.std.specs.Prelude.{Option, Some, None}
use lib.IntN.{ℤ, pos}
use lib.ListN.{length, drop, get_or, set, length-append}
use lib.Seq.{drop-cons}
use borrow.Author.Tests.{ne_eqb, eqb-true}
use Rattle.exact.proofs.Z.{and_false}
use Rattle.text.specs.Line.{before, after, has}
use Rattle.text.specs.Word.{word_end}
use Rattle.text.specs.Number.{flag_of}
use Rattle.record.specs.Record.{word_count, sensor_at, words, kinds, setting_of, onto, settings_of, left_out, completed, configuration_read, configuration_said, stored}
use Rattle.record.specs.declared.Event.{Event}
use Rattle.record.specs.declared.Event.TheVariants.{Configuration}
use Rattle.record.proofs.Words.{words_one, words_on, words_some, before_all, behind, spaced, unspaced}

-- the words that are left to read, with what the whole line leaves out, and their settings
abbrev pub ahead : ℕ → List ℕ → List (List ℕ)
ahead i d = words d ++ left_out (i + length (words d))

abbrev pub left : ℕ → List ℕ → List ℤ
left i d = settings_of (drop i kinds) (ahead i d)

-- what a line says of which i words are settings, and whose other words and settings are so many
abbrev pub says_at : ℕ → ℕ → ℕ → Option Event
says_at i n k = cond (eqb (i + n) word_count && eqb (i + k) word_count) (Some Configuration) None

begins_with : (s : List ℕ) → completed (words s) ≡ ahead 0 s
begins_with s =
    let n : length (words s) ≡ 0 + length (words s) = omega arith in
    ap (λ (k : ℕ). words s ++ left_out k) n

pub begins : (s : List ℕ) → configuration_said (words s) ≡ says_at 0 (length (ahead 0 s)) (length (left 0 s))
unfolding configuration_said
begins s =
    let p : length (ahead 0 s) ≡ 0 + length (ahead 0 s) = omega arith in
    let q : length (left 0 s) ≡ 0 + length (left 0 s) = omega arith in
    ap (λ (ws : List (List ℕ)). cond (eqb (length ws) word_count && eqb (length (settings_of kinds ws)) word_count) (Some Configuration) None) (begins_with s)
    ∙ ap₂ (λ (n k : ℕ). cond (eqb n word_count && eqb k word_count) (Some Configuration) None) p q

-- ---- what n words leave out

-- the sensor, and nothing otherwise
abbrev out : ℕ → List ℤ
out n = settings_of (drop n kinds) (left_out n)

sensor_out : out sensor_at ≡ pos 0 ∷ []
unfolding kinds settings_of flag_of
sensor_out = refl

none_out : (n : ℕ) → settings_of (drop n kinds) [] ≡ []
unfolding settings_of
none_out n = go (drop n kinds)
  where
    go : (ks : List Bool) → settings_of ks [] ≡ []
    go [] = refl
    go (k ∷ ks) = refl

says_out : (n : ℕ) → says_at n (length (left_out n)) (length (out n)) ≡ cond (eqb n sensor_at || eqb n word_count) (Some Configuration) None
says_out n = go (eqb n sensor_at) refl
  where
    once : (t : Bool) → cond (t && t) (Some Configuration) None ≡ cond t (Some Configuration) None
    once true = refl
    once false = refl

    go : (t : Bool) → eqb n sensor_at ≡ t → says_at n (length (left_out n)) (length (out n)) ≡ cond (t || eqb n word_count) (Some Configuration) None
    go true e = rw (eqb-true n sensor_at e, sensor_out)
    go false e =
        let z : n + 0 ≡ n = omega arith in
        rw (e, none_out n, z) (once (eqb n word_count))

-- the array behind n words, at whose end the line ends
abbrev pub with_sensor : ℕ → List ℤ → List ℤ
with_sensor n array = cond (eqb n sensor_at) (set array sensor_at (pos 0)) array

stores_out : (n : ℕ) (array : List ℤ) → stored n array (out n) ≡ with_sensor n array
unfolding stored
stores_out n array = go (eqb n sensor_at) refl
  where
    go : (t : Bool) → eqb n sensor_at ≡ t → stored n array (out n) ≡ cond t (set array sensor_at (pos 0)) array
    go true e = rw (eqb-true n sensor_at e, sensor_out)
    go false e = rw (e, none_out n)

module _ (i : ℕ) (h : i < word_count) where
  kind_next : drop i kinds ≡ get_or kinds i false ∷ drop (i + 1) kinds
  unfolding kinds
  kind_next = rw (add-one i) (drop-cons kinds i false h)

  says_on : (n k : ℕ) → says_at i (suc n) (suc k) ≡ says_at (i + 1) n k
  says_on n k =
      let p : i + suc n ≡ i + 1 + n = omega arith in
      let q : i + suc k ≡ i + 1 + k = omega arith in
      ap₂ (λ (n k : ℕ). cond (eqb n word_count && eqb k word_count) (Some Configuration) None) p q

  pub says_none : (n : ℕ) → None ≡ says_at i n 0
  says_none n = rw (ne_eqb (i + 0) word_count (λ e. omega arith), and_false (eqb (i + n) word_count))

  module _ (d : List ℕ) (x : Option ℤ) (e : setting_of (get_or kinds i false) (before 32 d) ≡ x) where
    ahead_next : has 32 d ≡ true → ahead i d ≡ before 32 d ∷ ahead (i + 1) (after 32 d)
    ahead_next y =
        let n = length (words (after 32 d)) in
        let p : i + suc n ≡ i + 1 + n = omega arith in
        rw (words_on d y) (ap (λ (k : ℕ). before 32 d ∷ (words (after 32 d) ++ left_out k)) p)

    left_next : has 32 d ≡ true → left i d ≡ onto x (left (i + 1) (after 32 d))
    unfolding settings_of
    left_next y = rw (kind_next, ahead_next y, e)

    ahead_last : has 32 d ≡ false → ahead i d ≡ before 32 d ∷ left_out (i + 1)
    ahead_last y = rw (words_one d y, before_all d y)

    left_last : has 32 d ≡ false → left i d ≡ onto x (out (i + 1))
    unfolding settings_of
    left_last y = rw (kind_next, ahead_last y, e)

-- where the loop stands in the line s: i of its words are settings, in an array that was old, and the rest begins at a place
pub record Reading (s : List ℕ) (old array : List ℤ) (at i : ℕ) : Type 0 where
  pub says : configuration_said (words s) ≡ says_at i (length (ahead i (drop at s))) (length (left i (drop at s)))
  pub holds : stored 0 old (configuration_read (words s)) ≡ stored i array (left i (drop at s))

-- what the loop is to leave
abbrev pub Left : List ℕ → List ℤ → Option Event → List ℤ → Type 0
Left s old r array = (r ≡ configuration_said (words s)) × (array ≡ stored 0 old (configuration_read (words s)))

pub starts : (s : List ℕ) (old : List ℤ) → Reading s old old 0 0
starts s old = record { says = begins s; holds = ap (λ (ws : List (List ℕ)). stored 0 old (settings_of kinds ws)) (begins_with s) }

module _ (s : List ℕ) (old array : List ℤ) (at i : ℕ) (r : Reading s old array at i) where
  pub all_read : i ≡ word_count → Left s old None array
  unfolding kinds settings_of stored
  all_read e =
      let d = drop at s in
      let n : left i d ≡ [] = ap (λ (k : ℕ). left k d) e in
      let more : (i + length (ahead i d) ≡ word_count → ⊥) = λ f. omega (arith, words_some d, length-append (words d) (left_out (i + length (words d)))) in (
        sym (r.says ∙ rw (ne_eqb (i + length (ahead i d)) word_count more)),
        sym (r.holds ∙ ap (stored i array) n),
      )

  module _ (h : i < word_count) (e : ℕ) (w : e ≡ word_end at s) where
    abbrev word : Option ℤ
    word = setting_of (get_or kinds i false) (before 32 (drop at s))

    none_left : word ≡ None → left i (drop at s) ≡ []
    none_left x = go (has 32 (drop at s)) refl
      where
        go : (t : Bool) → has 32 (drop at s) ≡ t → left i (drop at s) ≡ []
        go true y = left_next i h (drop at s) None x y
        go false y = left_last i h (drop at s) None x y

    pub no_setting : word ≡ None → Left s old None array
    unfolding stored
    no_setting x =
        let n = none_left x in (
          says_none i h (length (ahead i (drop at s))) ∙ sym (r.says ∙ ap (λ (l : List ℤ). says_at i (length (ahead i (drop at s))) (length l)) n),
          sym (r.holds ∙ ap (stored i array) n),
        )

    module _ (v : ℤ) (x : word ≡ Some v) where
      pub last_setting : length s ≤ e → at ≤ length s
          → Left s old (cond (eqb (i + 1) sensor_at || eqb (i + 1) word_count) (Some Configuration) None) (with_sensor (i + 1) (set array i v))
      unfolding stored
      last_setting k b =
          let y = unspaced s at e w k b in
          let n = left_last i h (drop at s) (Some v) x y in
          let o = ahead_last i h (drop at s) (Some v) x y in (
            sym (r.says ∙ rw (n, o) (says_on i h (length (left_out (i + 1))) (length (out (i + 1))) ∙ says_out (i + 1))),
            sym (r.holds ∙ ap (stored i array) n ∙ stores_out (i + 1) (set array i v)),
          )

      pub next_setting : e < length s → Reading s old (set array i v) (e + 1) (i + 1)
      unfolding stored
      next_setting k =
          let y = spaced s at e w k in
          let n = left_next i h (drop at s) (Some v) x y in
          let o = ahead_next i h (drop at s) (Some v) x y in
          let b = behind s at e w in
          record {
            says = r.says ∙ rw (n, o, b) (says_on i h (length (ahead (i + 1) (after 32 (drop at s)))) (length (left (i + 1) (after 32 (drop at s)))));
            holds = r.holds ∙ rw (n, b);
          }
