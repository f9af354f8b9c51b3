-- Laws of digits: one turn of a loop that writes them from the right, and how many there are. Assumes nothing.
use mathlib.Core.Path.{◌≡◌, refl, sym, ap, ◌∙◌, subst}
use mathlib.Core.Bool.{cond}
use mathlib.Core.List.{List, [], ◌∷◌, ◌++◌}
use Prim.Native.Nat.{ℕ, zero, suc, ◌+◌, ◌-◌, ◌/◌, ◌^◌, ◌≤◌, ◌<◌}
use native.Mathlib.Nat.{pow-succ', div-lt_iff_lt-mul}
use native.Mathlib.Numerals.{add-one}
use native.Mathlib.Omega.{arith}
use borrow.Author.Tests.{lt-ltb, le-ltb}
use lib.Dec.{ltb}
use lib.ListN.{length, take, drop, set, length-append, length-drop}
use lib.Seq.{drop-cons, append_snoc, lt-length-set, get_or-set_same, drop-set-lt, set_split, take-take}
use Rattle.field.specs.Field.{digit, digits, decimal, whole, at_right}

-- a byte that was written before what stands from i on
put_before : (p b : List ℕ) (i x : ℕ) → i < length b → (p ++ (x ∷ [])) ++ drop (suc i) b ≡ p ++ drop i (set b i x)
put_before p b i x h =
    rw (drop-cons (set b i x) i 0 (lt-length-set b i x h), get_or-set_same b i x 0 h, drop-set-lt (suc i) b i x (omega arith))
    (append_snoc p x (drop (suc i) b))

-- the same at the place that a loop goes down from
pub one_down : (p b : List ℕ) (i x : ℕ) → 0 < i → i ≤ length b → (p ++ (x ∷ [])) ++ drop i b ≡ p ++ drop (i - 1) (set b (i - 1) x)
one_down p b i x h k =
    let e : suc (i - 1) ≡ i = omega arith in
    subst (λ (j : ℕ). (p ++ (x ∷ [])) ++ drop j b ≡ p ++ drop (i - 1) (set b (i - 1) x)) e (put_before p b (i - 1) x (omega arith))

-- what agrees up to i agrees up to any place before
pub agree_before : (b d : List ℕ) (i j : ℕ) → j ≤ i → take i b ≡ take i d → take j b ≡ take j d
agree_before b d i j h e = sym (take-take j i b h) ∙ ap (take j) e ∙ take-take j i d h

-- the first byte of a text, written before the rest of it, which stands from i on: the whole text is at the right
pub first_put : (b d t : List ℕ) (i x : ℕ) → 0 < i → i ≤ length b → length b ≡ length d → t ≡ x ∷ drop i b → take i b ≡ take i d
    → (i - 1 ≡ length d - length t) × (set b (i - 1) x ≡ at_right d t)
unfolding at_right
first_put b d t i x h k l e f =
    let n : length t ≡ suc (length b - i) = ap length e ∙ ap suc (length-drop i b) in
    let z : length d - length t ≡ i - 1 = omega arith in
    let s : suc (i - 1) ≡ i = omega arith in
    (sym z, set_split b (i - 1) x (omega arith) ∙ rw (s, z, e, agree_before b d i (i - 1) (omega arith) f))

-- the last of i digits stands at the right
pub digits_last : (i n : ℕ) → 0 < i → digits i n ≡ digits (i - 1) (n / 10) ++ (digit n ∷ [])
unfolding digits
digits_last zero n h = absurd (omega arith)
digits_last (suc i) n h = let e : suc i - 1 ≡ i = omega arith in rw e

pub digits_length : (k n : ℕ) → length (digits k n) ≡ k
unfolding digits
digits_length zero n = refl
digits_length (suc k) n =
    length-append (digits k (n / 10)) (digit n ∷ []) ∙ ap (λ (m : ℕ). m + 1) (digits_length k (n / 10)) ∙ add-one k

-- the tens of a number with at most k + 1 digits have at most k
pub tens_below : (k n : ℕ) → n < 10 ^ suc k → n / 10 < 10 ^ k
tens_below k n h = let e = pow-succ' 10 k in (div-lt_iff_lt-mul {k = 10} {x = n} {y = 10 ^ k} (omega arith)).1 (omega arith)

-- more digits than are needed change nothing
decimal_more : (k n : ℕ) → n < 10 ^ suc k → decimal (suc k) n ≡ decimal (suc (suc k)) n
unfolding decimal
decimal_more zero n h = rw (lt-ltb n 10 h)
decimal_more (suc k) n h =
    ap (λ (t : List ℕ). cond (ltb n 10) [] t ++ (digit n ∷ [])) (decimal_more k (n / 10) (tens_below (suc k) n h))

pub whole_one : (n : ℕ) → n < 10 → whole n ≡ digit n ∷ []
unfolding decimal
whole_one n h = rw (lt-ltb n 10 h)

pub whole_tens : (n : ℕ) → 10 ≤ n → n < 10 ^ 9 → whole n ≡ whole (n / 10) ++ (digit n ∷ [])
unfolding decimal
whole_tens n h k =
    rw (le-ltb n 10 h) (ap (λ (t : List ℕ). t ++ (digit n ∷ [])) (decimal_more 7 (n / 10) (tens_below 8 n k)))

pub whole_some : (n : ℕ) → 0 < length (whole n)
unfolding decimal
whole_some n = rw (length-append (cond (ltb n 10) [] (decimal 8 (n / 10))) (digit n ∷ [])) (omega arith)
