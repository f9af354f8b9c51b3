-- One turn of each loop, over plain values. Assumes nothing.
use mathlib.Core.Path.{◌≡◌, refl, sym, ap, ◌∙◌}
use mathlib.Core.Bool.{Bool, true, false, cond, not, ◌&&◌, ◌||◌}
use mathlib.Core.List.{List, [], ◌∷◌}
use Prim.Native.Nat.{ℕ, zero, suc, ◌+◌, ◌-◌, ◌*◌, ◌^◌, ◌≤◌, ◌<◌}
use native.Mathlib.Omega.{arith}
use native.Mathlib.Numerals.{add-one}
use lib.Dec.{leb, ltb, eqb}
use lib.IntN.{pos, neg_ℤ, ◌-ℤ◌, +ℤ_idl}
use lib.ListN.{length, take, drop, get_or, length-drop}
use lib.Seq.{drop-cons, drop-length, take_all, take-nil}
use borrow.Author.Tests.{le-leb, lt-leb, eq-eqb, ne_eqb, ltb-true, ltb-false}
use mir.Syntax.{Width, w64}
use mir.Val.{SFits, hbits, to_z}
use mir.Facts.{to_z_pos}
use Rattle.std.specs.Prelude.{Option, Some, None}
use Rattle.std.specs.List.{position_or_len}
use Rattle.std.proofs.lemmas.Option.{none-some, same_Some}
use Rattle.std.proofs.lemmas.List.Recursion.{is_position_or_len}
use Rattle.text.proofs.Truth.{never}
use Rattle.text.specs.declared.Line.{Line}
use Rattle.text.specs.Line.{Used, scan, with_byte, before}
use Rattle.text.specs.Number.{is_digit, digits, value, natural_of, signed, most, signed_of, number_of}
use Rattle.text.specs.Word.{word_end}

-- ---- tests

-- a number that is below lo or above hi, or neither
pub outside : (n lo hi : ℕ) (t : Bool) → (ltb n lo || ltb hi n) ≡ t → (leb lo n && leb n hi) ≡ not t
outside n lo hi t e = go (ltb n lo) (ltb hi n) refl refl ∙ ap not e
  where
    go : (a b : Bool) → ltb n lo ≡ a → ltb hi n ≡ b → (leb lo n && leb n hi) ≡ not (a || b)
    go true b p q = rw (lt-leb lo n (ltb-true n lo p))
    go false true p q = rw (le-leb lo n (ltb-false n lo p), lt-leb n hi (ltb-true hi n q))
    go false false p q = rw (le-leb lo n (ltb-false n lo p), le-leb n hi (ltb-false hi n q))

pub inside : (n lo hi : ℕ) → (ltb n lo || ltb hi n) ≡ false → (lo ≤ n) × (n ≤ hi)
inside n lo hi e = go (ltb n lo) (ltb hi n) refl refl e
  where
    go : (a b : Bool) → ltb n lo ≡ a → ltb hi n ≡ b → (a || b) ≡ false → (lo ≤ n) × (n ≤ hi)
    go true b p q e = never (sym e)
    go false true p q e = never (sym e)
    go false false p q e = (ltb-false n lo p, ltb-false hi n q)

-- what `&l[n..]` lends
pub rest : (n : ℕ) (l : List ℕ) → take (length l - n) (drop n l) ≡ drop n l
rest n l = take_all (length l - n) (drop n l) (omega (arith, length-drop n l))

-- a step in what is left of a block goes on in the block
pub ahead : {used : ℕ} (l : List ℕ) (n : ℕ) → Used used (length (take (length l - n) (drop n l))) → Used used (length l - n)
ahead l n u = rw (rest n l, length-drop n l) at u

-- what `&l[m..n]` lends
pub part : (m n : ℕ) (l : List ℕ) → take (n - m) (drop m l) ≡ drop m (take n l)
part zero n l =
    let z : n - 0 ≡ n = omega arith in
    ap (λ (k : ℕ). take k l) z
part (suc m) zero l =
    let z : 0 - suc m ≡ 0 = omega arith in
    ap (λ (k : ℕ). take k (drop (suc m) l)) z
part (suc m) (suc n) [] = take-nil (suc n - suc m)
part (suc m) (suc n) (b ∷ l) =
    let z : suc n - suc m ≡ n - m = omega arith in
    ap (λ (k : ℕ). take k (drop m l)) z ∙ part m n l

-- ---- scan

module _ (s : List ℕ) (line : Line) (i : ℕ) (h : i < length s) where
  scan_at : scan i (drop i s) line
      ≡ cond (eqb (get_or s i 0) 10)
      (record { step = record { used = i + 1; ended = true }; line = line })
      (scan (i + 1) (drop (i + 1) s) (with_byte line (get_or s i 0)))
  unfolding scan
  scan_at = rw (drop-cons s i 0 h, add-one i)

  pub scan_lf : eqb (get_or s i 0) 10 ≡ true
      → scan i (drop i s) line ≡ record { step = record { used = i + 1; ended = true }; line = line }
  scan_lf e = scan_at ∙ rw e

  pub scan_on : eqb (get_or s i 0) 10 ≡ false
      → scan i (drop i s) line ≡ scan (i + 1) (drop (i + 1) s) (with_byte line (get_or s i 0))
  scan_on e = scan_at ∙ rw e

pub scan_out : (s : List ℕ) (line : Line) (i : ℕ) → i ≡ length s
    → scan i (drop i s) line ≡ record { step = record { used = length s; ended = false }; line = line }
unfolding scan
scan_out s line i e =
    ap (λ (d : List ℕ). scan i d line) (ap (λ (n : ℕ). drop n s) e ∙ drop-length s)
    ∙ ap (λ (n : ℕ). record { step = record { used = n; ended = false }; line = line }) e

-- ---- a word

counted : (t : Bool) (b : ℕ) (s : List ℕ) → length (cond t [] (b ∷ s)) ≡ cond t 0 (1 + length s)
counted true b s = refl
counted false b s = omega arith

-- it ends where std finds the first space of what is left
pub word_is : (at : ℕ) (s : List ℕ) → word_end at s ≡ at + position_or_len (λ (b : ℕ). eqb b 32) (drop at s)
unfolding word_end before
word_is at s =
    ap (λ (n : ℕ). at + n)
    (is_position_or_len (λ (l : List ℕ). length (before 32 l)) (λ (b : ℕ). eqb b 32) refl (λ b l. counted (eqb b 32) b (before 32 l)) (drop at s))

module _ (place count : ℕ) where
  pub some_place : (n : ℕ) → cond (ltb place count) (Some place) None ≡ Some n → n ≡ place
  some_place n e = at (ltb place count) e
    where
      at : (t : Bool) → cond t (Some place) None ≡ Some n → n ≡ place
      at true e = sym (same_Some place n e)
      at false e = absurd (none-some n e)

  pub no_place : cond (ltb place count) (Some place) None ≡ None → count ≤ place
  no_place e = at (ltb place count) refl e
    where
      at : (t : Bool) → ltb place count ≡ t → cond t (Some place) None ≡ None → count ≤ place
      at true f e = absurd (none-some place (sym e))
      at false f e = ltb-false place count f

-- ---- digits

pub digits_at : (s : List ℕ) (i : ℕ) → i < length s → digits (drop i s) ≡ is_digit (get_or s i 0) && digits (drop (i + 1) s)
unfolding digits
digits_at s i h = rw (drop-cons s i 0 h, add-one i)

pub value_at : (v : ℕ) (s : List ℕ) (i : ℕ) → i < length s → value v (drop i s) ≡ value (v * 10 + (get_or s i 0 - 48)) (drop (i + 1) s)
unfolding value
value_at v s i h = rw (drop-cons s i 0 h, add-one i)

-- more digits do not make a number smaller
pub value_grows : (v : ℕ) (s : List ℕ) → v ≤ value v s
unfolding value
value_grows v [] = omega arith
value_grows v (b ∷ s) = omega (arith, value_grows (v * 10 + (b - 48)) s)

module _ (m : ℕ) (s : List ℕ) (i : ℕ) (ok : (ltb (length s) 1 || ltb m (length s)) ≡ false) (d : digits s ≡ digits (drop i s)) where
  pub natural_bad : i < length s → (ltb (get_or s i 0) 48 || ltb 57 (get_or s i 0)) ≡ true → None ≡ natural_of m s
  unfolding natural_of
  natural_bad h e =
      let no : digits s ≡ false = d ∙ digits_at s i h ∙ rw (outside (get_or s i 0) 48 57 true e) in
      rw (outside (length s) 1 m false ok, no)

  -- one digit more would leave 64 bits
  pub natural_over : (v : ℕ) → i < length s → value 0 s ≡ value v (drop i s)
      → 18446744073709551615 < v * 10 + (get_or s i 0 - 48) → None ≡ natural_of m s
  unfolding natural_of
  natural_over v h w k =
      let big : 18446744073709551615 < value 0 s =
      rw (w, value_at v s i h) (omega (arith, value_grows (v * 10 + (get_or s i 0 - 48)) (drop (i + 1) s))) in
      rw (outside (length s) 1 m false ok, lt-leb (value 0 s) 18446744073709551615 big) (go (digits s))
    where
      go : (t : Bool) → None ≡ cond (true && (t && false)) (Some (value 0 s)) None
      go true = refl
      go false = refl

  pub natural_is : (v : ℕ) → i ≡ length s → value 0 s ≡ value v (drop i s) → v ≤ 18446744073709551615 → Some v ≡ natural_of m s
  unfolding natural_of digits value
  natural_is v e w h =
      let n : drop i s ≡ [] = ap (λ (n : ℕ). drop n s) e ∙ drop-length s in
      let yes : digits s ≡ true = d ∙ rw n in
      let is : value 0 s ≡ v = w ∙ rw n in
      rw (outside (length s) 1 m false ok, yes, is, le-leb v 18446744073709551615 h)

pub natural_out : (m : ℕ) (s : List ℕ) → (ltb (length s) 1 || ltb m (length s)) ≡ true → None ≡ natural_of m s
unfolding natural_of
natural_out m s e = rw (outside (length s) 1 m true e)

-- ---- the sign

pub sign_is : (b neg : Bool) (v : ℕ) (z : Option ℕ) (t : Bool) → neg ≡ b → z ≡ Some v → leb v (most b) ≡ t
    → cond t (Some (signed b v)) None ≡ signed_of neg z
unfolding signed_of
sign_is b neg v z t p q r = rw (p, q, r)

pub empty_not : (s : List ℕ) → length s < 1 → None ≡ number_of s
unfolding number_of natural_of signed_of
empty_not [] h = refl
empty_not (b ∷ s) h = absurd (omega arith)

pub with_minus : (s : List ℕ) → get_or s 0 0 ≡ 45 → signed_of true (natural_of 10 (take (length s - 1) (drop 1 s))) ≡ number_of s
unfolding number_of
with_minus s e = rw (eq-eqb (get_or s 0 0) 45 e, rest 1 s)

pub with_none : (s : List ℕ) → (get_or s 0 0 ≡ 45 → ⊥) → signed_of false (natural_of 10 s) ≡ number_of s
unfolding number_of
with_none s e = rw (ne_eqb (get_or s 0 0) 45 e)

-- −v of a size that has one
pub neg_fits : {w : Width} (v : ℕ) → v ≤ 2147483648 → 2147483648 ≤ 2 ^ hbits w → SFits w (neg_ℤ (pos v))
neg_fits zero h k = record { sfits = omega arith }
neg_fits (suc v) h k = record { sfits = omega arith }

-- 0 − v of an unsigned v, as the code has it
pub minus_of : (v : ℕ) → v ≤ 2147483648 → pos 0 -ℤ to_z w64 v ≡ neg_ℤ (pos v)
minus_of v h = rw (to_z_pos w64 {n = v} (omega arith)) (+ℤ_idl (neg_ℤ (pos v)))
