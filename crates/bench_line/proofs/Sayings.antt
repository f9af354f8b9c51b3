-- What a line says, over plain values: the tests on the way say which case holds, and what is kept of a line is enough to judge it. Assumes nothing.
use Rattle.std.proofs.Common.{◌≡◌, refl, Bool, true, false, cond, ◌&&◌, List, ℕ, ℤ, ◌-◌, ◌<◌, length, take, drop, get_or, leb, eqb, arith, Option, Some, None}
use lib.ListN.{length-drop}
use borrow.Author.Tests.{le-leb, lt-leb, eq-eqb, ne_eqb, leb-true, leb-false}
use Rattle.text.specs.Line.{kept_bytes, Heard, bytes, long, kept}
use Rattle.text.specs.Number.{number_of}
use Rattle.text.proofs.Laws.{rest}
use Rattle.bench_line.specs.Grammar.{Asked, chars, sample_of, key_of, said_of, parsed, judged, Payload}

-- ---- a letter

module _ (k : ℕ) (s : List ℕ) where
  pub said_sample : k ≡ 83 → sample_of (number_of s) ≡ said_of k s
  unfolding said_of
  said_sample e = rw e

  pub said_key : k ≡ 75 → key_of (number_of s) ≡ said_of k s
  unfolding said_of
  said_key e = rw e

  pub said_chars : k ≡ 67 → Some (chars s) ≡ said_of k s
  unfolding said_of
  said_chars e = rw e

  pub said_other : (k ≡ 83 → ⊥) → (k ≡ 75 → ⊥) → (k ≡ 67 → ⊥) → None ≡ said_of k s
  unfolding said_of
  said_other p q r = rw (ne_eqb k 83 p, ne_eqb k 75 q, ne_eqb k 67 r)

-- ---- a line

module _ (l : List ℕ) where
  pub sized_none : (leb 3 (length l) && leb (length l) 82) ≡ false → None ≡ parsed l
  unfolding parsed
  sized_none e = rw e

  module _ (e : (leb 3 (length l) && leb (length l) 82) ≡ true) where
    pub unspaced_none : (get_or l 1 0 ≡ 32 → ⊥) → None ≡ parsed l
    unfolding parsed
    unspaced_none n = rw (e, ne_eqb (get_or l 1 0) 32 n)

    pub said_is : get_or l 1 0 ≡ 32 → said_of (get_or l 0 0) (take (length l - 2) (drop 2 l)) ≡ parsed l
    unfolding parsed
    said_is n = rw (rest 2 l, e, eq-eqb (get_or l 1 0) 32 n)

-- ---- the bytes of a C line are 1 to 80

abbrev only : List ℕ → Option Asked → Type 0
only t r = (s : List ℕ) → r ≡ Some (chars s) → s ≡ t

said_only : (k : ℕ) (t : List ℕ) → only t (said_of k t)
unfolding said_of
said_only k t = go (eqb k 83) (eqb k 75) (eqb k 67) (number_of t)
  where
    go : (a b c : Bool) (n : Option ℤ) → only t (cond a (sample_of n) (cond b (key_of n) (cond c (Some (chars t)) None)))
    go true b c (Some v) s e = cc
    go true b c None s e = cc
    go false true c (Some v) s e = cc
    go false true c None s e = cc
    go false false true n s e = cc
    go false false false n s e = cc

pub payload : (h : Heard) (s : List ℕ) → judged h ≡ Some (chars s) → Payload s
unfolding judged parsed
payload long s e = cc
payload (bytes l) s e = go (leb 3 (length l)) (leb (length l) 82) (eqb (get_or l 1 0) 32) refl refl e
  where
    go : (a b t : Bool) → leb 3 (length l) ≡ a → leb (length l) 82 ≡ b
        → cond ((a && b) && t) (said_of (get_or l 0 0) (drop 2 l)) None ≡ Some (chars s) → Payload s
    go true true true p q e =
        let is : s ≡ drop 2 l = said_only (get_or l 0 0) (drop 2 l) s e in
        let low = leb-true 3 (length l) p in
        let high = leb-true (length l) 82 q in
        rw is (record { some = omega (arith, low, length-drop 2 l); all = omega (arith, high, length-drop 2 l) })
    go true true false p q e = cc
    go true false t p q e = cc
    go false b t p q e = cc

-- a line that is too long for its array is bad anyway
long_none : (l : List ℕ) → 82 < length l → None ≡ parsed l
unfolding parsed
long_none l h = rw (le-leb 3 (length l) (omega arith), lt-leb (length l) 82 h)

pub judged_kept : (l : List ℕ) → judged (kept l) ≡ parsed l
unfolding judged kept
judged_kept l = go (leb (length l) kept_bytes) refl
  where
    go : (t : Bool) → leb (length l) kept_bytes ≡ t → judged (cond t (bytes l) long) ≡ parsed l
    go true p = refl
    go false p = long_none l (omega (arith, leb-false (length l) kept_bytes p))
