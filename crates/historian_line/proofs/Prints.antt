-- What is claimed of the lines. Assumes nothing.
use mathlib.Core.Path.{◌≡◌, refl, sym, ap, ap₂, ◌∙◌}
use mathlib.Core.Bool.{Bool, true, false, cond}
use mathlib.Core.List.{List, [], ◌∷◌, ◌++◌, flatten, map}
use Prim.Native.Nat.{ℕ, zero, suc, ◌/◌, ◌%◌, ◌^◌, ◌≤◌, ◌<◌}
use native.Mathlib.Nat.{mod-lt}
use native.Mathlib.Omega.{arith}
use borrow.Author.Tests.{le-leb, eqb-true}
use lib.Dec.{eqb, lit<, lit≤}
use lib.IntN.{ℤ, nat_abs}
use lib.ListN.{length, get_or, length-append}
use Rattle.exact.proofs.Z.{never, both, from_to}
use Rattle.reading.specs.Reading.{displayable}
use Rattle.reading.specs.declared.Reading.{Reading}
use Rattle.register.specs.Bytes.{ascii, byte}
use Rattle.filed.specs.Filed.{datum_of, kind_of, bits_of, record_of, in_places, filed, taken_of}
use Rattle.filed.proofs.Bytes.{kind_most}
use Rattle.filed.proofs.Exact.{back}
use Rattle.text.specs.Line.{before, after, has}
use Rattle.text.specs.Number.{natural_of, number_of, digits, value, signed_of}
use Rattle.std.specs.Prelude.{Some, None}
use Rattle.hexadecimal.specs.Hex.{hex, hex_byte, most}
use Rattle.hexadecimal.specs.Meaning.{AreBytes}
use Rattle.hexadecimal.proofs.Meaning.{read_back}
use Rattle.historian_line.specs.Line.{ended, is_mark, reading_named, record_line, asked_line, write_line, fields_line, taken_line, read_line, line_shown}
use Rattle.historian_line.specs.Meaning.{behind, Prints}

-- ---- two words

module _ (p : List ℕ) where
  spaced : (w : List ℕ) → has 32 w ≡ false → (has 32 (w ++ (32 ∷ p)) ≡ true) × (before 32 (w ++ (32 ∷ p)) ≡ w) × (after 32 (w ++ (32 ∷ p)) ≡ p)
  unfolding has before after
  spaced [] h = (refl, refl, refl)
  spaced (b ∷ w) h = go (eqb b 32) (spaced w) h
    where
      go : (t : Bool) → (has 32 w ≡ false → (has 32 (w ++ (32 ∷ p)) ≡ true) × (before 32 (w ++ (32 ∷ p)) ≡ w) × (after 32 (w ++ (32 ∷ p)) ≡ p))
          → cond t true (has 32 w) ≡ false
          → (cond t true (has 32 (w ++ (32 ∷ p))) ≡ true) × (cond t [] (b ∷ before 32 (w ++ (32 ∷ p))) ≡ (b ∷ w)) × (cond t (w ++ (32 ∷ p)) (after 32 (w ++ (32 ∷ p))) ≡ p)
      go true later e = never (sym e)
      go false later e = let r = later e in (r.0, ap (◌∷◌ b) r.1, r.2)

words : (w p : List ℕ) → has 32 w ≡ false → line_shown (behind (ascii "W") (w ++ (32 ∷ p))) ≡ asked_line (reading_named w) (number_of p)
unfolding line_shown write_line
words w p h =
    let r = spaced p w h in
    let long : 3 ≤ length (behind (ascii "W") (w ++ (32 ∷ p))) = omega (arith, length-append w (32 ∷ p)) in
    rw (le-leb 3 (length (behind (ascii "W") (w ++ (32 ∷ p)))) long, r.0, r.1, r.2)

-- ---- a mark is no number

mark_is : (a b : ℕ) (w : List ℕ) → is_mark a b w ≡ true → w ≡ a ∷ b ∷ []
mark_is a b [] e = never e
mark_is a b (x ∷ []) e = never e
mark_is a b (x ∷ y ∷ []) e =
    let t = both (eqb x a) (eqb y b) e in
    ap₂ (λ (u v : ℕ). u ∷ v ∷ []) (eqb-true x a t.0) (eqb-true y b t.1)
mark_is a b (x ∷ y ∷ z ∷ w) e = absurd (omega (arith, eqb-true (length (x ∷ y ∷ z ∷ w)) 2 (both _ _ e).0))

no_mark : (a b : ℕ) (w : List ℕ) (z : ℤ) → number_of (a ∷ b ∷ []) ≡ None → number_of w ≡ Some z → is_mark a b w ≡ false
no_mark a b w z none e = go (is_mark a b w) refl
  where
    go : (t : Bool) → is_mark a b w ≡ t → is_mark a b w ≡ false
    go false m = m
    go true m = let both = sym none ∙ ap number_of (sym (mark_is a b w m)) ∙ e in absurd (cc)

numbers : (w : List ℕ) (z : ℤ) → number_of w ≡ Some z → reading_named w ≡ Some (Rattle.reading.specs.declared.Reading.TheVariants.Number z)
unfolding reading_named
numbers w z e =
    rw (
      no_mark (byte "O") (byte "L") w z none_o e,
      no_mark (byte "U") (byte "L") w z none_u e,
      no_mark (byte "-") (byte "-") w z none_dash e,
      e,
    )
  where
    none_o : number_of (ascii "OL") ≡ None
    none_o = unfold number_of natural_of digits value signed_of in refl

    none_u : number_of (ascii "UL") ≡ None
    none_u = unfold number_of natural_of digits value signed_of in refl

    none_dash : number_of (ascii "--") ≡ None
    none_dash = unfold number_of natural_of digits value signed_of in refl

-- ---- bytes

some_text : (s : List ℕ) → 1 ≤ length (flatten (hex s))
unfolding hex flatten
some_text [] = lit≤ tt
some_text (b ∷ s) = omega (arith, length-append (hex_byte b) (flatten (map hex_byte s)))

reads : (s : List ℕ) → length s ≤ most → AreBytes s → line_shown (behind (ascii "R") (flatten (hex s))) ≡ taken_line (taken_of s)
unfolding line_shown read_line
reads s few small =
    let r = read_back s few small in
    let long : 3 ≤ length (behind (ascii "R") (flatten (hex s))) = omega (arith, some_text s) in
    rw (le-leb 3 (length (behind (ascii "R") (flatten (hex s)))) long, r.text, r.says)

-- ---- and back

-- numbers of a byte, one before others
record Small (s : List ℕ) : Type 0 where
  at : (i : ℕ) → get_or s i 0 < 256

none_small : Small []
none_small = record { at = λ i. lit< tt }

one_more : {b : ℕ} {s : List ℕ} → b < 256 → Small s → Small (b ∷ s)
one_more {b} {s} h small = record { at = go }
  where
    go : (i : ℕ) → get_or (b ∷ s) i 0 < 256
    go zero = h
    go (suc i) = small.at i

record_bytes : (places : ℕ) (shown : Reading) → places ≤ 4 → Small (record_of places (datum_of places shown))
unfolding record_of
record_bytes places shown p =
    let b = bits_of (datum_of places shown) in
    let byte_of : (n : ℕ) → n % 256 < 256 = λ n. mod-lt n (lit< tt) in
    let kind : kind_of (datum_of places shown) < 256 = omega (arith, kind_most places p shown) in
    let few : places < 256 = omega arith in
    let nil_byte : 0 < 256 = lit< tt in
    one_more kind
    (one_more few
    (one_more nil_byte
    (one_more nil_byte
    (one_more (byte_of b)
    (one_more (byte_of (b / 256))
    (one_more (byte_of (b / 256 ^ 2))
    (one_more (byte_of (b / 256 ^ 3)) none_small)))))))

module _ (shown : Reading) (places : ℤ) (p : in_places places ≡ true) (d : displayable shown ≡ true) where
  few : nat_abs places ≤ 4
  few = (from_to places 0 4 p).1.1

  read_again : line_shown (behind (ascii "R") (flatten (hex (filed places shown))))
      ≡ fields_line (kind_of (datum_of (nat_abs places) shown)) (nat_abs places) (bits_of (datum_of (nat_abs places) shown))
  unfolding taken_line
  read_again = reads (filed places shown) (unfold record_of in lit≤ tt) (λ i h. (record_bytes (nat_abs places) shown few).at i) ∙ ap taken_line (back (nat_abs places) shown few d)

  printed : record_line shown places ≡ (hex (filed places shown) ++ ended)
  unfolding record_line
  printed = rw (p, d)

pub prints : Prints
prints =
    record {
      words = words;
      over = unfold reading_named in refl;
      under = unfold reading_named in refl;
      nothing = unfold reading_named in refl;
      numbers = numbers;
      records = printed;
      reads = reads;
      back = read_again;
    }
