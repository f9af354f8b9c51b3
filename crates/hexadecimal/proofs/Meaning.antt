-- What is printed is read back, and what is read is printed again, in lower case. Assumes nothing.
use mathlib.Core.Path.{◌≡◌, refl, ap, ap₂, ◌∙◌}
use mathlib.Core.Bool.{Bool, true, false, cond, ◌&&◌}
use mathlib.Core.List.{List, [], ◌∷◌, map, flatten}
use Prim.Native.Nat.{ℕ, zero, suc, ◌+◌, ◌-◌, ◌*◌, ◌/◌, ◌%◌, ◌≤◌, ◌<◌}
use native.Mathlib.Omega.{arith}
use borrow.Author.Tests.{ltb-true, ltb-false, lt-ltb, le-ltb, eq-eqb, eqb-true}
use lib.Dec.{ltb}
use lib.ListN.{length}
use Rattle.std.specs.Prelude.{Some, None}
use Rattle.io.specs.Digits.{hex_digit_ascii}
use Rattle.exact.proofs.Z.{never, both}
use Rattle.register.specs.Bytes.{byte}
use Rattle.register.proofs.Ranges.{range, in_range, below_range, above_range}
use Rattle.hexadecimal.specs.Hex.{hex_byte, hex, is_lower, is_upper, is_digit, digit_of, most, is_size, all_digits, is_text, bytes_of, hexed}
use Rattle.hexadecimal.specs.Meaning.{AreBytes, lowered, ReadBack, PrintedBack, Answered, InEitherCase}
use Rattle.hexadecimal.proofs.Digits.{worth_decimal, worth_lower, worth_upper, by_range, below_16, text_sized, text_digits, text_few, text_even, bytes_count}

-- ---- a digit

is_decimal : (b : ℕ) → byte "0" ≤ b → b ≤ byte "9" → is_digit b ≡ true
unfolding is_digit
is_decimal b h k = rw (in_range _ _ b h k)

is_lower_lem : (b : ℕ) → byte "a" ≤ b → b ≤ byte "f" → is_digit b ≡ true
unfolding is_digit
is_lower_lem b h k = rw (above_range (byte "0") (byte "9") b (omega arith), in_range _ _ b h k)

-- it is read as what it was printed for
glyph_is : (d : ℕ) → d < 16 → (is_digit (hex_digit_ascii d) ≡ true) × (digit_of (hex_digit_ascii d) ≡ d)
glyph_is d h = go (ltb d 10) refl
  where
    go : (t : Bool) → ltb d 10 ≡ t → (is_digit (cond t (48 + d) (87 + d)) ≡ true) × (digit_of (cond t (48 + d) (87 + d)) ≡ d)
    go true e =
        let k = ltb-true d 10 e in
        (is_decimal (48 + d) (omega arith) (omega arith), omega (arith, worth_decimal (48 + d) (omega arith) (omega arith)))
    go false e =
        let k = ltb-false d 10 e in
        (is_lower_lem (87 + d) (omega arith) (omega arith), omega (arith, worth_lower (87 + d) (omega arith) (omega arith)))

-- and printed as itself, or as the letter in lower case
low_glyph : (b d : ℕ) → d ≡ digit_of b → d < 10 → 48 + d ≡ lowered b → hex_digit_ascii (digit_of b) ≡ lowered b
low_glyph b d e h k = rw (← e, lt-ltb d 10 h) k

high_glyph : (b d : ℕ) → d ≡ digit_of b → 10 ≤ d → 87 + d ≡ lowered b → hex_digit_ascii (digit_of b) ≡ lowered b
high_glyph b d e h k = rw (← e, le-ltb d 10 h) k

glyph_of : (b : ℕ) → is_digit b ≡ true → hex_digit_ascii (digit_of b) ≡ lowered b
glyph_of b e =
    by_range b e
    (λ h k. low_glyph b (b - byte "0") (worth_decimal b h k) (omega arith) (rw (below_range (byte "A") (byte "F") b (omega arith)) (omega arith)))
    (λ h k. high_glyph b (b - byte "a" + 10) (worth_lower b h k) (omega arith) (rw (above_range (byte "A") (byte "F") b (omega arith)) (omega arith)))
    (λ h k. high_glyph b (b - byte "A" + 10) (worth_upper b h k) (omega arith) (rw (in_range (byte "A") (byte "F") b h k) (omega arith)))

-- ---- two digits for each byte

abbrev spelled : List ℕ → List ℕ
spelled s = flatten (map hex_byte s)

first : (b : ℕ) (s : List ℕ) → AreBytes (b ∷ s) → b < 256
first b s h = h 0 (omega arith)

others : (b : ℕ) (s : List ℕ) → AreBytes (b ∷ s) → AreBytes s
others b s h = λ i k. h (suc i) (omega arith)

spelled_length : (s : List ℕ) → length (spelled s) ≡ 2 * length s
unfolding flatten
spelled_length [] = refl
spelled_length (b ∷ s) = omega (arith, spelled_length s)

spelled_digits : (s : List ℕ) → AreBytes s → all_digits (spelled s) ≡ true
unfolding flatten all_digits
spelled_digits [] h = refl
spelled_digits (b ∷ s) h =
    let k = first b s h in
    rw ((glyph_is (b / 16) (omega arith)).0, (glyph_is (b % 16) (omega arith)).0) (spelled_digits s (others b s h))

spelled_says : (s : List ℕ) → AreBytes s → bytes_of (spelled s) ≡ s
unfolding flatten bytes_of
spelled_says [] h = refl
spelled_says (b ∷ s) h =
    let k = first b s h in
    let x = glyph_is (b / 16) (omega arith) in
    let y = glyph_is (b % 16) (omega arith) in
    ap₂ (λ (c : ℕ) (l : List ℕ). c ∷ l) (rw (x.1, y.1) (omega arith)) (spelled_says s (others b s h))

pub read_back : (s : List ℕ) → length s ≤ most → AreBytes s → ReadBack s
unfolding hex flatten is_text is_size bytes_of
read_back [] h k = record { text = refl; says = refl }
read_back (b ∷ s) h k =
    let l = spelled_length (b ∷ s) in
    let n : is_size (length (spelled (b ∷ s))) ≡ true =
    rw (l, in_range 2 (2 * most) (2 * length (b ∷ s)) (omega arith) (omega arith)) (eq-eqb (2 * length (b ∷ s) % 2) 0 (omega arith)) in
    record {
      text = text_sized (spelled (b ∷ s)) true (λ z. omega arith) n ∙ spelled_digits (b ∷ s) k;
      says = spelled_says (b ∷ s) k;
    }

-- ---- and back

pairs_bytes : (s : List ℕ) → all_digits s ≡ true → AreBytes (bytes_of s)
unfolding all_digits bytes_of
pairs_bytes [] e i h = absurd (omega arith)
pairs_bytes (a ∷ []) e i h = absurd (omega arith)
pairs_bytes (a ∷ b ∷ s) e zero h =
    let p = both (is_digit a) (is_digit b && all_digits s) e in
    omega (arith, below_16 a p.0, below_16 b (both (is_digit b) (all_digits s) p.1).0)
pairs_bytes (a ∷ b ∷ s) e (suc i) h =
    let p = both (is_digit a) (is_digit b && all_digits s) e in
    pairs_bytes s (both (is_digit b) (all_digits s) p.1).1 i (omega arith)

pairs_text : (s : List ℕ) → all_digits s ≡ true → length s % 2 ≡ 0 → spelled (bytes_of s) ≡ map lowered s
unfolding flatten all_digits bytes_of
pairs_text [] e h = refl
pairs_text (a ∷ []) e h = absurd (omega arith)
pairs_text (a ∷ b ∷ s) e h =
    let p = both (is_digit a) (is_digit b && all_digits s) e in
    let q = both (is_digit b) (all_digits s) p.1 in
    let x = below_16 a p.0 in
    let y = below_16 b q.0 in
    let high : (digit_of a * 16 + digit_of b) / 16 ≡ digit_of a = omega arith in
    let low : (digit_of a * 16 + digit_of b) % 16 ≡ digit_of b = omega arith in
    ap₂ (λ (c : ℕ) (l : List ℕ). c ∷ l) (ap hex_digit_ascii high ∙ glyph_of a p.0)
    (ap₂ (λ (c : ℕ) (l : List ℕ). c ∷ l) (ap hex_digit_ascii low ∙ glyph_of b q.0) (pairs_text s q.1 (omega arith)))

pub printed_back : (s : List ℕ) → is_text s ≡ true → PrintedBack s
unfolding hex flatten is_text is_size bytes_of
printed_back [] e = never e
printed_back (a ∷ []) e =
    record {
      few = omega arith;
      bytes = λ i h. absurd (omega arith);
      text = rw (eqb-true a (byte "-") e);
    }
printed_back (a ∷ b ∷ s) e =
    let d = text_digits (a ∷ b ∷ s) e (omega arith) in
    record {
      few = omega (arith, bytes_count (a ∷ b ∷ s), text_few (a ∷ b ∷ s) e (omega arith));
      bytes = pairs_bytes (a ∷ b ∷ s) d;
      text = pairs_text (a ∷ b ∷ s) d (text_even (a ∷ b ∷ s) e (omega arith));
    }

-- ---- an answer of so many bytes

pub hexed_only : (s : List ℕ) (n : ℕ) → hexed s ≡ Some n → Answered s n
unfolding hexed
hexed_only s n e = go (is_text s) refl e
  where
    go : (t : Bool) → is_text s ≡ t → cond t (Some (length (bytes_of s))) None ≡ Some n → Answered s n
    go true q e = record { text = q; count = cc }
    go false q e = absurd (cc)

-- ---- in either case

in_lower : (b : ℕ) → is_upper b ≡ true → (is_lower (lowered b) ≡ true) × (digit_of (lowered b) ≡ digit_of b)
in_lower b e =
    let h = range (byte "A") (byte "F") b e in
    let w = worth_lower (b + 32) (omega arith) (omega arith) in
    rw e (in_range (byte "a") (byte "f") (b + 32) (omega arith) (omega arith), omega (arith, w, worth_upper b h.0 h.1))

pub in_either_case : InEitherCase
in_either_case =
    record {
      letter = in_lower;
      text = λ s e.
          let p = printed_back s e in
          let r = read_back (bytes_of s) p.few p.bytes in
          (rw p.text at r.text, rw p.text at r.says);
    }
