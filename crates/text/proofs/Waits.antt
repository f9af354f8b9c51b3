-- Bytes that wait in a buffer, over plain values. Assumes nothing.
use mathlib.Core.Path.{◌≡◌, refl, sym, ap, ◌∙◌}
use mathlib.Core.Bool.{Bool, true, false, cond}
use mathlib.Core.List.{List, [], ◌∷◌, ◌++◌, append_assoc}
use Prim.Native.Nat.{ℕ, ◌+◌, ◌-◌, ◌≤◌, ◌<◌}
use base.Fml.{GName}
use native.Mathlib.Omega.{arith}
use lib.Dec.{leb}
use lib.ListN.{length, take, drop, length-append}
use lib.Seq.{take_at, drop-drop, length-take-le}
use borrow.Author.Tests.{le-leb, lt-leb}
use Rattle.text.specs.Output.{Waiting, place_for, laid, put_in, waits, sent, puts}

pub behind : (size count n : ℕ) → count + n ≤ size → count ≡ place_for size count n
behind size count n h = rw (le-leb (count + n) size h)

pub at_start : (size count n : ℕ) → size < count + n → 0 ≡ place_for size count n
at_start size count n h = rw (lt-leb (count + n) size h)

pub too_big : (w : Waiting) (s : List ℕ) → length w.bytes < length s → w ≡ put_in w s
unfolding put_in
too_big w s h = rw (lt-leb (length s) (length w.bytes) h)

-- what was copied to the part that was lent from a place on is laid in the buffer
copied : (l s ys : List ℕ) (a : ℕ) → ys ≡ s → take a l ++ (ys ++ drop (a + length s - a) (drop a l)) ≡ laid l a s
copied l s ys a e =
    let k : a + length s - a ≡ length s = omega arith in
    rw (e, k, drop-drop (length s) a l)

pub put_is : (w : Waiting) (l s ys : List ℕ) (a : ℕ) (x : GName) → length s ≤ length w.bytes → l ≡ w.bytes
    → a ≡ place_for (length w.bytes) w.count (length s) → x ≡ w.name → ys ≡ s
    → record { count = a + length s; bytes = take a l ++ (ys ++ drop (a + length s - a) (drop a l)); name = x } ≡ put_in w s
unfolding put_in
put_is w l s ys a x h k p q e =
    rw (le-leb (length s) (length w.bytes) h, ← p, q)
    (ap (λ (r : List ℕ). record { count = a + length s; bytes = r; name = w.name }) (copied l s ys a e ∙ ap (λ (r : List ℕ). laid r a s) k))

-- pieces, and then further pieces
pub puts_append : (w : Waiting) (a b : List (List ℕ)) → puts (puts w a) b ≡ puts w (a ++ b)
unfolding puts
puts_append w [] b = refl
puts_append w (s ∷ a) b = puts_append (put_in w s) a b

-- nothing is lost and nothing added: what is written and what then waits are what waited and the piece
pub all_kept : (w : Waiting) (s : List ℕ) → w.count ≤ length w.bytes → length s ≤ length w.bytes
    → sent w s ++ waits (put_in w s) ≡ waits w ++ s
unfolding put_in
all_kept w s k h = rw (le-leb (length s) (length w.bytes) h) (go (leb (w.count + length s) (length w.bytes)))
  where
    laid_waits : (a : ℕ) → a ≤ length w.bytes → take (a + length s) (laid w.bytes a s) ≡ take a w.bytes ++ s
    laid_waits a m =
        let n : length (take a w.bytes ++ s) ≡ a + length s =
        length-append (take a w.bytes) s ∙ ap (λ (x : ℕ). x + length s) (length-take-le a w.bytes m) in
        ap (take (a + length s)) (sym (append_assoc (take a w.bytes) s (drop (a + length s) w.bytes)))
        ∙ take_at (take a w.bytes ++ s) (drop (a + length s) w.bytes) (a + length s) n

    go : (t : Bool)
        → cond t [] (waits w) ++ take (cond t w.count 0 + length s) (laid w.bytes (cond t w.count 0) s) ≡ waits w ++ s
    go true = laid_waits w.count k
    go false = ap (λ (l : List ℕ). waits w ++ l) (laid_waits 0 (omega arith))
