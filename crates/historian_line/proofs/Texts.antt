-- What is read of a text in hexadecimal: its bytes stand first in the array, and what they are taken for can be shown. Assumes nothing.
use mathlib.Core.Path.{◌≡◌, refl, sym, ap, ◌∙◌}
use mathlib.Core.Bool.{Bool, true, false, cond, not, ◌||◌}
use mathlib.Core.List.{List}
use Prim.Native.Nat.{ℕ, ◌≤◌}
use native.Mathlib.Omega.{arith}
use borrow.Author.Tests.{ltb-false}
use lib.Dec.{eqb, ltb}
use lib.ListN.{length, take, drop, get_or, length-append}
use lib.Seq.{take_at}
use lib.Ieee.{binary32, is_nan, of_bits, nan_bits}
use lib.Ieee.Bits.{nan_bits_is, is_false}
use Rattle.std.specs.Prelude.{Result, Some, None, Err}
use Rattle.std.proofs.lemmas.Bool.{or_parts}
use Rattle.exact.proofs.Z.{either}
use Rattle.binary32.specs.Binary32.{gives}
use Rattle.filed.specs.Filed.{has_bits, has_bits_in, bits_at, taken_where, record_at, taken_of}
use Rattle.filed.specs.declared.Datum.{Datum}
use Rattle.filed.specs.declared.Datum.TheVariants.{Value, Over, Under, Nothing}
use Rattle.filed.specs.declared.Refusal.TheVariants as refusal
use Rattle.filed.specs.declared.Record.{Record}
use Rattle.filed.specs.declared.Refusal.{Refusal}
use Rattle.dividing.proofs.Values.{given_number}
use Rattle.hexadecimal.specs.Hex.{is_text, bytes_of, hexed, over, filled}
use Rattle.hexadecimal.proofs.Meaning.{hexed_only}
use Rattle.historian_line.specs.Line.{unknown, taken_line, read_line}

-- ---- the bytes that a text says

module _ (s : List ℕ) (n : ℕ) (e : Some n ≡ hexed s) where
  pub fits_in : (d : List ℕ) → n ≤ length (filled d s)
  unfolding filled over
  fits_in d =
      let a = hexed_only s n (sym e) in
      rw a.text (omega (arith, a.count, length-append (bytes_of s) (drop (length (bytes_of s)) d)))

  pub said_first : (d : List ℕ) → take n (filled d s) ≡ bytes_of s
  unfolding filled over
  said_first d =
      let a = hexed_only s n (sym e) in
      rw (a.text, a.count) (take_at (bytes_of s) (drop (length (bytes_of s)) d) (length (bytes_of s)) refl)

  pub read_known : taken_line (taken_of (bytes_of s)) ≡ read_line s
  unfolding read_line
  read_known = rw (hexed_only s n (sym e)).text

pub read_unknown : (s : List ℕ) → None ≡ hexed s → unknown ≡ read_line s
read_unknown s e = go (is_text s) refl
  where
    go : (t : Bool) → is_text s ≡ t → unknown ≡ read_line s
    go true h = let both : None ≡ Some (length (bytes_of s)) = e ∙ unfold hexed in rw h in absurd (cc)
    go false h = unfold read_line in rw h

-- ---- what bytes are taken for has bits to show

value_bits : (places b : ℕ) → places ≤ 4 → gives places b ≡ true → not (is_nan (of_bits binary32 b)) ≡ true
value_bits places b p h = ap not (sym (nan_bits_is binary32 b) ∙ is_false (nan_bits binary32 b) (given_number places b p h))

marks_shown : (kind : ℕ) → has_bits (cond (eqb kind 1) Over (cond (eqb kind 2) Under Nothing)) ≡ true
marks_shown kind =
    either (λ (x : Datum). has_bits x ≡ true) (eqb kind 1) refl (either (λ (x : Datum). has_bits x ≡ true) (eqb kind 2) refl refl)

record_shown : (kind places b : ℕ) → places ≤ 4 → has_bits_in (record_at kind places b) ≡ true
unfolding record_at
record_shown kind places b p = go (eqb kind 0) (gives places b) (eqb b 0) refl
  where
    go : (value given none : Bool) → gives places b ≡ given
        → has_bits_in
        (taken_where (cond value given none) places (cond value (Value (of_bits binary32 b)) (cond (eqb kind 1) Over (cond (eqb kind 2) Under Nothing)))) ≡ true
    go true true none g = value_bits places b p g
    go true false none g = refl
    go false given true g = marks_shown kind
    go false given false g = refl

pub shows : (l : List ℕ) → has_bits_in (taken_of l) ≡ true
unfolding taken_of
shows l =
    either (λ (t : Result Record Refusal). has_bits_in t ≡ true) (not (eqb (length l) 8)) refl
    (either (λ (t : Result Record Refusal). has_bits_in t ≡ true) (ltb 3 (get_or l 0 0)) refl (go ((not (eqb (get_or l 2 0) 0) || not (eqb (get_or l 3 0) 0)) || ltb 4 (get_or l 1 0)) refl))
  where
    go : (t : Bool) → ((not (eqb (get_or l 2 0) 0) || not (eqb (get_or l 3 0) 0)) || ltb 4 (get_or l 1 0)) ≡ t
        → has_bits_in (cond t (Err refusal.Places) (record_at (get_or l 0 0) (get_or l 1 0) (bits_at l))) ≡ true
    go true e = refl
    go false e =
        record_shown (get_or l 0 0) (get_or l 1 0) (bits_at l)
        (ltb-false 4 (get_or l 1 0) (or_parts (not (eqb (get_or l 2 0) 0) || not (eqb (get_or l 3 0) 0)) (ltb 4 (get_or l 1 0)) e).1)
