-- Laws of a text at the right end of a part of the field. Assumes nothing.
use mathlib.Core.Path.{◌≡◌, refl, sym, ap, ◌∙◌}
use mathlib.Core.List.{List, [], ◌∷◌, ◌++◌, append-nil, append_assoc}
use Prim.Native.Nat.{ℕ, zero, suc, ◌+◌, ◌-◌, ◌≤◌, ◌<◌}
use native.Mathlib.Nat.{le_refl}
use native.Mathlib.Omega.{arith}
use lib.ListN.{length, take, drop, set, length-append, length-drop, drop_of_length-le}
use lib.Seq.{take_at, drop_at, take-take, take_all, take-length, length-take-le}
use Rattle.field.specs.Field.{digits, fraction, at_right}
use Rattle.field.proofs.Digits.{digits_length, first_put}

-- no text leaves d as it is
pub right_nil : (d : List ℕ) → at_right d [] ≡ d
unfolding at_right
right_nil d = let z : length d - 0 ≡ length d = omega arith in rw (z, append-nil, take-length)

-- a lent tail that comes back
pub tail_back : (d ys : List ℕ) (i : ℕ) → take i d ++ (ys ++ drop (length d - i) (drop i d)) ≡ take i d ++ ys
tail_back d ys i =
    let m : length (drop i d) ≤ length d - i = simp length-drop (le_refl _) in
    rw (drop_of_length-le (drop i d) m, append-nil)

-- where there are places, a point and a digit for each
pub fraction_some : (k n : ℕ) → 0 < k → fraction k n ≡ 46 ∷ digits k n
unfolding fraction
fraction_some zero n h = absurd (omega arith)
fraction_some (suc k) n h = refl

pub fraction_length : (k n : ℕ) → 0 < k → length (fraction k n) ≡ k + 1
fraction_length k n h = rw (fraction_some k n h) (omega (arith, digits_length k n))

-- a point before a tail that was filled with digits
pub point_put : (d ys : List ℕ) (k n : ℕ) → 0 < k → k < length d → ys ≡ digits (length (take (length d - (length d - k)) (drop (length d - k) d))) n
    → (length d - k - 1 ≡ length d - length (fraction k n))
    × (set (take (length d - k) d ++ (ys ++ drop (length d - (length d - k)) (drop (length d - k) d))) (length d - k - 1) 46 ≡ at_right d (fraction k n))
point_put d ys k n h l e =
    let i = length d - k in
    let t : length (take i d) ≡ i = length-take-le i d (omega arith) in
    let m : length (drop i d) ≡ k = length-drop i d ∙ omega arith in
    let w : length (take (length d - i) (drop i d)) ≡ k = ap length (take_all (length d - i) (drop i d) (omega arith)) ∙ m in
    let y : ys ≡ digits k n = e ∙ ap (λ (j : ℕ). digits j n) w in
    rw (tail_back d ys i, y)
    (first_put (take i d ++ digits k n) d (fraction k n) i 46 (omega arith)
    (omega (arith, length-append (take i d) (digits k n), digits_length k n))
    (omega (arith, length-append (take i d) (digits k n), digits_length k n))
    (fraction_some k n h ∙ ap (λ (x : List ℕ). 46 ∷ x) (sym (drop_at (take i d) (digits k n) i t)))
    (take_at (take i d) (digits k n) i t))

-- b is d with a text at its right end, and p is where the text starts
pub record At (d t : List ℕ) (p : ℕ) (b : List ℕ) : Type 0 where
  pub room : length t ≤ length d
  pub start : p ≡ length d - length t
  pub bytes : b ≡ at_right d t

-- what is left of the field before a text
pub left_of : (d t b : List ℕ) (p : ℕ) → At d t p b → take (p - 0) b ≡ take p d
unfolding at_right
left_of d t b p a =
    let z : p - 0 ≡ p = omega arith in
    let s = a.start in
    let l : length (take p d) ≡ p = length-take-le p d (omega arith) in
    rw (z, a.bytes, ← a.start) (take_at (take p d) t p l)

pub left_length : (d t b : List ℕ) (p : ℕ) → At d t p b → length (take (p - 0) b) ≡ length d - length t
left_length d t b p a = rw (left_of d t b p a) (length-take-le p d (omega (arith, a.start)) ∙ a.start)

-- a text that is put before another, from q on
pub before_it : (d t u b ys : List ℕ) (p q : ℕ) → At d t p b → length u + length t ≤ length d
    → q ≡ length (take (p - 0) b) - length u → ys ≡ at_right (take (p - 0) b) u → At d (u ++ t) q (ys ++ drop (p - 0) b)
unfolding at_right
before_it d t u b ys p q a h f e =
    let z : p - 0 ≡ p = omega arith in
    let l : length (take p d) ≡ p = length-take-le p d (omega (arith, a.start)) in
    let n = length-append u t in
    let k : p - length u ≡ length d - length (u ++ t) = omega (arith, a.start) in
    record {
      room = omega arith;
      start = f ∙ rw (left_of d t b p a, l) k;
      bytes =
          rw (e, left_of d t b p a, l, z, a.bytes, ← a.start, drop_at (take p d) t p l, take-take (p - length u) p d (omega arith), append_assoc, k);
    }
