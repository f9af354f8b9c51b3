-- Digits and texts of them, over plain values. Assumes nothing.
use mathlib.Core.Path.{◌≡◌, refl, sym, ap, ap₂, ◌∙◌}
use mathlib.Core.Bool.{Bool, true, false, ◌||◌, ◌&&◌}
use mathlib.Core.List.{List, [], ◌∷◌}
use mathlib.Core.Logic.{◌⊎◌, ⊎_elim, inl, inr}
use Prim.Native.Nat.{ℕ, zero, suc, ◌+◌, ◌-◌, ◌*◌, ◌/◌, ◌%◌, ◌≤◌, ◌<◌}
use native.Mathlib.Numerals.{add-one}
use native.Mathlib.Omega.{arith}
use borrow.Author.Tests.{eq-eqb, ne_eqb, eqb-true}
use lib.Dec.{eqb}
use lib.ListN.{length, take, get_or, set}
use lib.Seq.{length-take-le, take-length, paste-suc}
use Rattle.std.specs.Char.{is_ascii_hexdigit}
use Rattle.std.specs.List.{list_all}
use Rattle.std.specs.Prelude.{Some, None}
use Rattle.exact.proofs.Z.{both}
use Rattle.register.specs.Bytes.{byte, within}
use Rattle.register.proofs.Ranges.{range, in_range, below_range, above_range}
use Rattle.hexadecimal.specs.Hex.{is_decimal, is_lower, is_upper, is_digit, digit_of, most, is_size, all_digits, is_text, bytes_of, over, hexed, filled}

-- ---- a digit lies in one of the three ranges, and is worth less than 16

one_of : (a b c : Bool) → ((a || b) || c) ≡ true → (a ≡ true) ⊎ ((b ≡ true) ⊎ (c ≡ true))
one_of true b c e = inl refl
one_of false true c e = inr (inl refl)
one_of false false c e = inr (inr e)

module _ (b : ℕ) where
  pub worth_decimal : byte "0" ≤ b → b ≤ byte "9" → b - byte "0" ≡ digit_of b
  unfolding digit_of
  worth_decimal h k = rw (in_range (byte "0") (byte "9") b h k)

  pub worth_lower : byte "a" ≤ b → b ≤ byte "f" → b - byte "a" + 10 ≡ digit_of b
  unfolding digit_of
  worth_lower h k = rw (above_range (byte "0") (byte "9") b (omega arith), in_range (byte "a") (byte "f") b h k)

  pub worth_upper : byte "A" ≤ b → b ≤ byte "F" → b - byte "A" + 10 ≡ digit_of b
  unfolding digit_of
  worth_upper h k = rw (above_range (byte "0") (byte "9") b (omega arith), below_range (byte "a") (byte "f") b (omega arith))

  held : {X : Type 0} (low high : ℕ) → (low ≤ b → b ≤ high → X) → within low high b ≡ true → X
  held low high f e = let h = range low high b e in f h.0 h.1

  pub by_range : {X : Type 0} → is_digit b ≡ true → (byte "0" ≤ b → b ≤ byte "9" → X) → (byte "a" ≤ b → b ≤ byte "f" → X)
      → (byte "A" ≤ b → b ≤ byte "F" → X) → X
  unfolding is_digit
  by_range e f g k = ⊎_elim (held _ _ f) (⊎_elim (held _ _ g) (held _ _ k)) (one_of (is_decimal b) (is_lower b) (is_upper b) e)

  module _ (e : is_digit b ≡ true) where
    pub first_digit : byte "0" ≤ b
    first_digit = by_range e (λ h k. omega arith) (λ h k. omega arith) (λ h k. omega arith)

    pub behind_9 : byte "9" < b → byte "A" ≤ b
    behind_9 l = by_range e (λ h k. omega arith) (λ h k. omega arith) (λ h k. omega arith)

    pub behind_F : byte "F" < b → byte "a" ≤ b
    behind_F l = by_range e (λ h k. omega arith) (λ h k. omega arith) (λ h k. omega arith)

    pub last_digit : b ≤ byte "f"
    last_digit = by_range e (λ h k. omega arith) (λ h k. omega arith) (λ h k. omega arith)

    pub below_16 : digit_of b ≤ 15
    below_16 = by_range e (λ h k. omega (arith, worth_decimal h k)) (λ h k. omega (arith, worth_lower h k)) (λ h k. omega (arith, worth_upper h k))

-- ---- every one of them

-- the library's test of a byte has the ranges in another order
swapped : (a b c : Bool) → ((a || b) || c) ≡ ((a || c) || b)
swapped true b c = refl
swapped false true true = refl
swapped false true false = refl
swapped false false true = refl
swapped false false false = refl

pub digits_are : (s : List ℕ) → list_all is_ascii_hexdigit s ≡ all_digits s
unfolding all_digits is_digit
digits_are [] = refl
digits_are (b ∷ s) = ap₂ ◌&&◌ (swapped (is_decimal b) (is_upper b) (is_lower b)) (digits_are s)

pub digit_at : (s : List ℕ) (i : ℕ) → all_digits s ≡ true → i < length s → is_digit (get_or s i 0) ≡ true
unfolding all_digits
digit_at [] i e h = absurd (omega arith)
digit_at (b ∷ s) zero e h = (both (is_digit b) (all_digits s) e).0
digit_at (b ∷ s) (suc i) e h = digit_at s i (both (is_digit b) (all_digits s) e).1 (omega arith)

-- ---- a text

pub text_one : (s : List ℕ) → length s ≡ 1 → eqb (get_or s 0 0) (byte "-") ≡ is_text s
unfolding is_text
text_one s e = rw (eq-eqb (length s) 1 e)

pub text_sized : (s : List ℕ) (t : Bool) → (length s ≡ 1 → ⊥) → is_size (length s) ≡ t → is_text s ≡ (t && all_digits s)
unfolding is_text
text_sized s t e p = rw (ne_eqb (length s) 1 e, p)

-- of two bytes or more it is digits, an even number of them, and no more than are read
module _ (s : List ℕ) (e : is_text s ≡ true) (h : 1 < length s) where
  sized : (is_size (length s) && all_digits s) ≡ true
  sized = sym (text_sized s (is_size (length s)) (λ z. omega arith) refl) ∙ e

  pub text_digits : all_digits s ≡ true
  text_digits = (both (is_size (length s)) (all_digits s) sized).1

  pub text_few : length s ≤ 2 * most
  unfolding is_size
  text_few =
      let p = both (is_size (length s)) (all_digits s) sized in
      (range _ _ (length s) (both _ _ p.0).0).1

  pub text_even : length s % 2 ≡ 0
  unfolding is_size
  text_even =
      let p = both (is_size (length s)) (all_digits s) sized in
      eqb-true (length s % 2) 0 (both (within _ _ (length s)) _ p.0).1

-- ---- its bytes

pub bytes_count : (s : List ℕ) → length (bytes_of s) ≡ length s / 2
unfolding bytes_of
bytes_count [] = refl
bytes_count (a ∷ []) = refl
bytes_count (a ∷ b ∷ s) = omega (arith, bytes_count s)

pub byte_at : (s : List ℕ) (n i : ℕ) → i ≡ 2 * n → i + 1 < length s
    → digit_of (get_or s i 0) * 16 + digit_of (get_or s (i + 1) 0) ≡ get_or (bytes_of s) n 0
unfolding bytes_of
byte_at [] n i e h = absurd (omega arith)
byte_at (a ∷ []) n i e h = absurd (omega arith)
byte_at (a ∷ b ∷ s) zero zero e h = refl
byte_at (a ∷ b ∷ s) zero (suc i) e h = absurd (omega arith)
byte_at (a ∷ b ∷ s) (suc n) zero e h = absurd (omega arith)
byte_at (a ∷ b ∷ s) (suc n) (suc zero) e h = absurd (omega arith)
byte_at (a ∷ b ∷ s) (suc n) (suc (suc i)) e h =
    let k : suc (suc i) + 1 ≡ suc (suc (i + 1)) = omega arith in
    rw k (byte_at s n i (omega arith) (omega arith))

-- the first n of some bytes over the front of d, and one more
module _ (d s : List ℕ) (n : ℕ) where
  pub over_none : n ≡ 0 → d ≡ over d (take n s)
  unfolding over
  over_none e = rw e

  pub over_next : {v : ℕ} {l : List ℕ} → n < length s → n < length d → l ≡ over d (take n s) → v ≡ get_or s n 0
      → set l n v ≡ over d (take (n + 1) s)
  unfolding over
  over_next h k was is =
      let a : n ≤ length s = omega arith in
      let b : suc n ≤ length s = omega arith in
      let e : 0 + n ≡ n = omega arith in
      let f : 0 + suc n ≡ suc n = omega arith in
      rw (was, is, add-one n, length-take-le n s a, length-take-le (suc n) s b) (rw (e, f) at (paste-suc d 0 s n 0 (omega arith) h))

  pub over_all : n ≡ length s → over d (take n s) ≡ over d s
  over_all e = rw (e, take-length s)

-- ---- what is read

pub read_not : (d s : List ℕ) → is_text s ≡ false → (None ≡ hexed s) × (d ≡ filled d s)
unfolding hexed filled
read_not d s e = (rw e, rw e)

pub read_is : (d s : List ℕ) {n : ℕ} {l : List ℕ} → is_text s ≡ true → n ≡ length (bytes_of s) → l ≡ over d (bytes_of s)
    → (Some n ≡ hexed s) × (l ≡ filled d s)
unfolding hexed filled
read_is d s e f g = (rw e (ap Some f), rw e g)
