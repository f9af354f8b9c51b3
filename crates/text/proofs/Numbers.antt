-- A number in a line is what is written: `natural_of` is n just where 1 to so many digits of n stand there, and `number_of` is z just where
-- a sign and 1 to 10 digits of z do, each within its width. Assumes nothing.
use mathlib.Core.Path.{◌≡◌, refl, sym, ap, subst, ◌∙◌}
use mathlib.Core.Bool.{Bool, true, false, cond, ◌&&◌}
use mathlib.Core.List.{List, [], ◌∷◌, ◌++◌, append-nil, append_assoc}
use Prim.Native.Nat.{ℕ, zero, suc, ◌+◌, ◌-◌, ◌*◌, ◌/◌, ◌%◌, ◌^◌, ◌≤◌, ◌<◌}
use native.Mathlib.Nat.{pow-succ'}
use native.Mathlib.Omega.{arith}
use native.Mathlib.Numerals.{add-one}
use lib.Dec.{leb, eqb}
use lib.IntN.{ℤ}
use lib.ListN.{length, get_or, length-append}
use lib.Signed.{mag}
use borrow.Author.Tests.{le-leb, leb-true, ne_eqb, eqb-true}
use Rattle.std.specs.Prelude.{Option, Some, None}
use Rattle.text.proofs.Truth.{both}
use Rattle.text.specs.Number.{is_digit, digits, value, natural_of, signed, most, signed_of, number_of, spelled, with_minus, Digits, Written}

-- so many digits are below that power of ten
ten_more : (v i d : ℕ) → v < 10 ^ i → d ≤ 9 → v * 10 + d < 10 ^ (i + 1)
ten_more v i d h k = rw (add-one i) (omega (arith, pow-succ' 10 i))

-- ---- from a number to its digits, and back

value_append : (v : ℕ) (s t : List ℕ) → value v (s ++ t) ≡ value (value v s) t
unfolding value
value_append v [] t = refl
value_append v (b ∷ s) t = value_append (v * 10 + (b - 48)) s t

digits_append : (s t : List ℕ) → digits s ≡ true → digits t ≡ true → digits (s ++ t) ≡ true
unfolding digits
digits_append [] t p q = q
digits_append (b ∷ s) t p q =
    let h = both (is_digit b) (digits s) p in
    rw (h.0, digits_append s t h.1 q)

last_digit : (n : ℕ) → is_digit (48 + n % 10) ≡ true
last_digit n = rw (le-leb 48 (48 + n % 10) (omega arith), le-leb (48 + n % 10) 57 (omega arith))

spelled_length : (k n : ℕ) → length (spelled k n) ≡ k
unfolding spelled
spelled_length zero n = refl
spelled_length (suc k) n = length-append (spelled k (n / 10)) ((48 + n % 10) ∷ []) ∙ rw (spelled_length k (n / 10)) (add-one k)

spelled_digits : (k n : ℕ) → digits (spelled k n) ≡ true
unfolding spelled digits
spelled_digits zero n = refl
spelled_digits (suc k) n =
    digits_append (spelled k (n / 10)) ((48 + n % 10) ∷ []) (spelled_digits k (n / 10)) (rw (last_digit n))

pub read_back : (k n : ℕ) → n < 10 ^ k → value 0 (spelled k n) ≡ n
unfolding spelled value
read_back zero n h = omega arith
read_back (suc k) n h =
    value_append 0 (spelled k (n / 10)) ((48 + n % 10) ∷ [])
    ∙ rw (read_back k (n / 10) (omega (arith, pow-succ' 10 k))) (omega arith)

-- ---- from digits to their number, and back

digit_is : (v b : ℕ) → is_digit b ≡ true → ((v * 10 + (b - 48)) / 10 ≡ v) × (48 + (v * 10 + (b - 48)) % 10 ≡ b)
digit_is v b e =
    let h = both (leb 48 b) (leb b 57) e in
    let p = leb-true 48 b h.0 in
    let q = leb-true b 57 h.1 in
    (omega arith, omega arith)

spelled_on : (k v : ℕ) (s : List ℕ) → digits s ≡ true → spelled (k + length s) (value v s) ≡ spelled k v ++ s
unfolding digits value spelled
spelled_on k v [] e =
    let z : k + 0 ≡ k = omega arith in
    rw (append-nil (spelled k v)) (ap (λ (n : ℕ). spelled n v) z)
spelled_on k v (b ∷ s) e =
    let h = both (is_digit b) (digits s) e in
    let d = digit_is v b h.0 in
    let z : k + suc (length s) ≡ suc k + length s = omega arith in
    ap (λ (n : ℕ). spelled n (value (v * 10 + (b - 48)) s)) z
    ∙ spelled_on (suc k) (v * 10 + (b - 48)) s h.1
    ∙ rw (d.0, d.1, append_assoc (spelled k v) (b ∷ []) s)

pub spelled_back : (s : List ℕ) → digits s ≡ true → spelled (length s) (value 0 s) ≡ s
unfolding spelled
spelled_back s e =
    let z : length s ≡ 0 + length s = omega arith in
    ap (λ (n : ℕ). spelled n (value 0 s)) z ∙ spelled_on 0 0 s e

value_below : (k v : ℕ) (s : List ℕ) → digits s ≡ true → v < 10 ^ k → value v s < 10 ^ (k + length s)
unfolding digits value
value_below k v [] e h = subst (λ (n : ℕ). v < 10 ^ n) (omega arith) h
value_below k v (b ∷ s) e h =
    let g = both (is_digit b) (digits s) e in
    let d = both (leb 48 b) (leb b 57) g.0 in
    let m : v * 10 + (b - 48) < 10 ^ (k + 1) = ten_more v k (b - 48) h (omega (arith, leb-true b 57 d.1)) in
    subst (λ (n : ℕ). value (v * 10 + (b - 48)) s < 10 ^ n) (omega arith) (value_below (k + 1) (v * 10 + (b - 48)) s g.1 m)

below : (s : List ℕ) → digits s ≡ true → value 0 s < 10 ^ length s
below s e =
    let z : 0 + length s ≡ length s = omega arith in
    subst (λ (n : ℕ). value 0 s < 10 ^ n) z (value_below 0 0 s e (omega arith))

-- ---- an unsigned number

pub natural_reads : (m : ℕ) (s : List ℕ) (n : ℕ) → Digits m s n → natural_of m s ≡ Some n
unfolding natural_of
natural_reads m s n w =
    let t = spelled w.places n in
    let l : length s ≡ w.places = ap length w.text ∙ spelled_length w.places n in
    let d : digits s ≡ true = ap digits w.text ∙ spelled_digits w.places n in
    let v : value 0 s ≡ n = ap (value 0) w.text ∙ read_back w.places n w.holds in
    rw (l, le-leb 1 w.places w.some, le-leb w.places m w.few, d, v, le-leb n 18446744073709551615 w.fits)

no_natural : {X : Type 0} {v : ℕ} → None ≡ Some v → X
no_natural e = let z : ◌≡◌ {A = ℕ} 0 1 = cc in absurd (omega arith)

pub natural_only : (m : ℕ) (s : List ℕ) (n : ℕ) → natural_of m s ≡ Some n → Digits m s n
unfolding natural_of
natural_only m s n e = go (leb 1 (length s)) (leb (length s) m) (digits s) (leb (value 0 s) 18446744073709551615) refl refl refl refl e
  where
    go : (a b d f : Bool) → leb 1 (length s) ≡ a → leb (length s) m ≡ b → digits s ≡ d → leb (value 0 s) 18446744073709551615 ≡ f
        → cond ((a && b) && (d && f)) (Some (value 0 s)) None ≡ Some n → Digits m s n
    go true true true true p q r u e =
        let is : n ≡ value 0 s = cc in
        record {
          places = length s;
          some = leb-true 1 (length s) p;
          few = leb-true (length s) m q;
          holds = rw is (below s r);
          fits = rw is (leb-true (value 0 s) 18446744073709551615 u);
          text = sym (spelled_back s r) ∙ ap (spelled (length s)) (sym is);
        }
    go true true true false p q r u e = no_natural e
    go true true false f p q r u e = no_natural e
    go true false d f p q r u e = no_natural e
    go false b d f p q r u e = no_natural e

-- ---- a signed number

digits_of : (m : ℕ) (s : List ℕ) (n : ℕ) → Digits m s n → digits s ≡ true
digits_of m s n w = ap digits w.text ∙ spelled_digits w.places n

unsigned : (s : List ℕ) → digits s ≡ true → eqb (get_or s 0 0) 45 ≡ false
unfolding digits
unsigned [] e = refl
unsigned (b ∷ s) e =
    let g = both (is_digit b) (digits s) e in
    let d = both (leb 48 b) (leb b 57) g.0 in
    ne_eqb b 45 (λ z. omega (arith, leb-true 48 b d.0))

number_is : (neg : Bool) (s : List ℕ) → digits s ≡ true → number_of (with_minus neg s) ≡ signed_of neg (natural_of 10 s)
unfolding number_of
number_is true s e = refl
number_is false s e = rw (unsigned s e)

signed_is : (neg : Bool) (v : ℕ) → v ≤ most neg → signed_of neg (Some v) ≡ Some (signed neg v)
unfolding signed_of
signed_is neg v h = rw (le-leb v (most neg) h)

pub reads : (s : List ℕ) (z : ℤ) → Written s z → number_of s ≡ Some z
reads s z w =
    ap number_of w.text ∙ number_is w.neg w.body (digits_of 10 w.body w.size w.spells)
    ∙ ap (signed_of w.neg) (natural_reads 10 w.body w.size w.spells)
    ∙ signed_is w.neg w.size w.fits ∙ ap Some (sym w.is)

no_number : {X : Type 0} {z : ℤ} → None ≡ Some z → X
no_number e = let z : ◌≡◌ {A = ℕ} 0 1 = cc in absurd (omega arith)

signed_only : (neg : Bool) (s : List ℕ) (z : ℤ) (y : Option ℕ) → natural_of 10 s ≡ y → signed_of neg y ≡ Some z → Written (with_minus neg s) z
unfolding signed_of
signed_only neg s z (Some v) p e = go (leb v (most neg)) refl e
  where
    go : (t : Bool) → leb v (most neg) ≡ t → cond t (Some (signed neg v)) None ≡ Some z → Written (with_minus neg s) z
    go true q e =
        record {
          neg = neg;
          size = v;
          body = s;
          spells = natural_only 10 s v p;
          fits = leb-true v (most neg) q;
          text = refl;
          is = cc;
        }
    go false q e = no_number e
signed_only neg s z None p e = no_number e

pub only : (s : List ℕ) (z : ℤ) → number_of s ≡ Some z → Written s z
unfolding number_of
only [] z e = signed_only false [] z (natural_of 10 []) refl e
only (b ∷ s) z e = go (eqb b 45) refl e
  where
    go : (t : Bool) → eqb b 45 ≡ t → cond t (signed_of true (natural_of 10 s)) (signed_of false (natural_of 10 (b ∷ s))) ≡ Some z → Written (b ∷ s) z
    go true q e = subst (λ (x : ℕ). Written (x ∷ s) z) (sym (eqb-true b 45 q)) (signed_only true s z (natural_of 10 s) refl e)
    go false q e = signed_only false (b ∷ s) z (natural_of 10 (b ∷ s)) refl e

-- ---- so a number is in signed 32 bits

mag_signed : (neg : Bool) (v : ℕ) → v ≤ most neg → mag (signed neg v) < 2 ^ 31
mag_signed true zero h = omega arith
mag_signed true (suc v) h = omega arith
mag_signed false v h = omega arith

pub range : (s : List ℕ) (z : ℤ) → number_of s ≡ Some z → mag z < 2 ^ 31
range s z e = let w = only s z e in rw w.is (mag_signed w.neg w.size w.fits)
