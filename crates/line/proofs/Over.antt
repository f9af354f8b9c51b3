-- Laws of texts that are written over the front of a buffer, over its tail, and one after another. Assumes nothing.
use mathlib.Core.Path.{◌≡◌, refl, sym, ap, ◌∙◌}
use mathlib.Core.Bool.{Bool, true, false, cond}
use Rattle.std.specs.Prelude.{Option, None, Some}
use mathlib.Core.List.{List, [], ◌++◌, append-nil, append_assoc}
use Prim.Native.Nat.{ℕ, ◌+◌, ◌-◌, ◌≤◌}
use native.Mathlib.Nat.{le_refl, zero-add}
use native.Mathlib.Omega.{arith}
use lib.ListN.{length, take, drop, length-append, length-drop, drop_of_length-le, take-append-drop}
use lib.Seq.{take_at, drop_at, take_all, drop-drop, length-take-le}
use Rattle.line.specs.Buffer.{over, laid, room, answer, after}

-- a buffer keeps its length
pub over_length : (d t : List ℕ) → length t ≤ length d → length (over d t) ≡ length d
unfolding over
over_length d t h = length-append t (drop (length t) d) ∙ ap (λ (n : ℕ). length t + n) (length-drop (length t) d) ∙ omega arith

pub laid_length : (d t : List ℕ) (p : ℕ) → p + length t ≤ length d → length (laid d p t) ≡ length d
unfolding laid
laid_length d t p h =
    let m = length-drop p d in
    length-append (take p d) (over (drop p d) t)
    ∙ omega (arith, length-take-le p d (omega arith), over_length (drop p d) t (omega arith))

-- what was written over a tail that was lent from p on is laid in the buffer
pub tail_back : (d t ys : List ℕ) (p : ℕ) → ys ≡ over (take (length d - p) (drop p d)) t
    → take p d ++ (ys ++ drop (length d - p) (drop p d)) ≡ laid d p t
unfolding laid
tail_back d t ys p e =
    let m : length (drop p d) ≤ length d - p = simp length-drop (le_refl _) in
    rw (e, take_all (length d - p) (drop p d) m, drop_of_length-le (drop p d) m, append-nil)

-- at the front, laid is over
pub laid_front : (d t : List ℕ) → laid d 0 t ≡ over d t
unfolding laid
laid_front d t = refl

-- nothing, laid anywhere, leaves d as it is
pub laid_nil : (d : List ℕ) (p : ℕ) → laid d p [] ≡ d
unfolding laid over
laid_nil d p = take-append-drop p d

-- a text behind a text is one text
pub laid_then : (d t u : List ℕ) (p q : ℕ) → p + length t ≡ q → q ≤ length d → laid (laid d p t) q u ≡ laid d p (t ++ u)
unfolding laid over
laid_then d t u p q e h =
    let l : length (take p d) ≡ p = length-take-le p d (omega arith) in
    let k : length (take p d ++ t) ≡ q = length-append (take p d) t ∙ omega arith in
    let r = drop (length t) (drop p d) in
    rw (← append_assoc (take p d) t r, take_at (take p d ++ t) r q k, drop_at (take p d ++ t) r q k, length-append t u, ← drop-drop (length u) (length t) (drop p d))
    (simp append_assoc)

pub over_then : (d t u : List ℕ) (q : ℕ) → length t ≡ q → q ≤ length d → laid (over d t) q u ≡ over d (t ++ u)
over_then d t u q e h = rw (← laid_front d t, ← laid_front d (t ++ u)) (laid_then d t u 0 q (zero-add (length t) ∙ e) h)

-- a lent tail reaches to the buffer's end
pub tail_length : (b : List ℕ) (q : ℕ) → length (take (length b - q) (drop q b)) ≡ length b - q
tail_length b q = length-take-le (length b - q) (drop q b) (omega (arith, length-drop q b))

-- a text behind a text, written over a tail that was lent from where the first ends
pub then_back : (d t u b ys : List ℕ) (q : ℕ) → b ≡ over d t → length t ≡ q → q ≤ length d → ys ≡ over (take (length b - q) (drop q b)) u
    → take q b ++ (ys ++ drop (length b - q) (drop q b)) ≡ over d (t ++ u)
then_back d t u b ys q f e h y = tail_back b u ys q y ∙ rw f (over_then d t u q e h)

-- ---- texts one after another, each from the place behind the one before it

-- b is d with a text from p on, and q is the place behind it
pub record Upto (d : List ℕ) (p : ℕ) (t : List ℕ) (q : ℕ) (b : List ℕ) : Type 0 where
  pub room : p + length t ≤ length d
  pub next : q ≡ p + length t
  pub bytes : b ≡ laid d p t

-- there is room for the next text
pub room_next : (d t u b : List ℕ) (p q : ℕ) → Upto d p t q b → p + length (t ++ u) ≤ length d → q + length u ≤ length b
room_next d t u b p q a h =
    rw (a.bytes, laid_length d t p a.room) (omega (arith, a.next, length-append t u))

-- it is written
pub put_next : (d t u b c : List ℕ) (p q r : ℕ) → Upto d p t q b → p + length (t ++ u) ≤ length d → r ≡ q + length u → c ≡ laid b q u → Upto d p (t ++ u) r c
put_next d t u b c p q r a h e f = record {
  room = h;
  next = e ∙ omega (arith, a.next, length-append t u);
  bytes = f ∙ rw a.bytes (laid_then d t u p q (sym a.next) (omega (arith, a.next, a.room)));
}

-- a whole reply of so many bytes, by what became of it with room and without
pub whole : (d reply b : List ℕ) (p n : ℕ) (r : Option ℕ) → n ≡ length reply → r ≡ cond (room (length d) p n) (Some n) None
    → (room (length d) p n ≡ true → b ≡ take p d ++ over (drop p d) reply) → (room (length d) p n ≡ false → b ≡ d)
    → (r ≡ answer d p reply) × (b ≡ after d p reply)
unfolding answer after laid
whole d reply b p n r e v w l = rw (v, e) (refl, by (room (length d) p (length reply)) (rw e at w) (rw e at l))
  where
    by : (t : Bool) → (t ≡ true → b ≡ take p d ++ over (drop p d) reply) → (t ≡ false → b ≡ d) → b ≡ cond t (take p d ++ over (drop p d) reply) d
    by true f g = f refl
    by false f g = g refl

-- a whole reply that had room, and one that had none: the answer and the buffer
pub wrote : (d reply ys : List ℕ) (p n : ℕ) → n ≡ length reply → room (length d) p n ≡ true → ys ≡ over (take (length d - p) (drop p d)) reply
    → (Some n ≡ answer d p reply) × (take p d ++ (ys ++ drop (length d - p) (drop p d)) ≡ after d p reply)
unfolding answer after
wrote d reply ys p n e r y = let t = rw e at r in (rw (t, e), rw t (tail_back d reply ys p y))

pub refused : (d reply : List ℕ) (p n : ℕ) → n ≡ length reply → room (length d) p n ≡ false
    → (None ≡ answer d p reply) × (d ≡ after d p reply)
unfolding answer after
refused d reply p n e r = let t = rw e at r in (rw t, rw t)
