-- Lines: feeding a block is cutting it at its first LF, and where a stream is cut into blocks makes no difference. Assumes nothing.
use mathlib.Core.Path.{◌≡◌, refl, sym, ap, ◌∙◌}
use mathlib.Core.Bool.{Bool, true, false, cond}
use mathlib.Core.List.{List, [], ◌∷◌, ◌++◌, append-nil, append_assoc}
use Prim.Native.Nat.{ℕ, suc, ◌+◌, ◌≤◌, ◌<◌}
use native.Mathlib.Omega.{arith}
use native.Mathlib.Numerals.{add-one}
use lib.Dec.{leb, ltb, eqb}
use lib.ListN.{length, take, drop, set, length-append, length-set}
use lib.Seq.{length-take-le, take-suc-set, drop_at, append_snoc}
use borrow.Author.Tests.{lt-ltb, le-ltb, le-leb, lt-leb, leb-true, leb-false, ltb-true, ltb-false}
use Rattle.text.proofs.Truth.{never}
use Rattle.text.specs.declared.Line.{Line}
use Rattle.text.specs.Line.{kept_bytes, Scanned, scan, with_byte, Heard, bytes, long, heard, kept, before, after, has, Feeds, Cut, cut_at, cut}

-- ---- one byte more

unfoldable push : Heard → ℕ → Heard
push (bytes l) b = cond (ltb (length l) kept_bytes) (bytes (l ++ (b ∷ []))) long
push long b = long

push_kept : (l : List ℕ) (b : ℕ) → push (kept l) b ≡ kept (l ++ (b ∷ []))
unfolding push kept
push_kept l b = go (leb (length l) kept_bytes) refl
  where
    one : length (l ++ (b ∷ [])) ≡ suc (length l)
    one = length-append l (b ∷ []) ∙ add-one (length l)

    go : (t : Bool) → leb (length l) kept_bytes ≡ t
        → push (cond t (bytes l) long) b ≡ cond (leb (length (l ++ (b ∷ []))) kept_bytes) (bytes (l ++ (b ∷ []))) long
    go true p = rw one
    go false p = let h = leb-false (length l) kept_bytes p in rw (one, lt-leb (suc (length l)) kept_bytes (omega arith))

heard_room : (line : List ℕ) (len b : ℕ) → length line ≡ kept_bytes → len < kept_bytes
    → cond (leb (len + 1) kept_bytes) (bytes (take (len + 1) (set line len b))) long ≡ push (cond (leb len kept_bytes) (bytes (take len line)) long) b
unfolding push
heard_room line len b e h =
    let i : len < length line = omega arith in
    let k : length (take len line) ≡ len = length-take-le _ _ (omega arith) in
    simp (le-leb len kept_bytes (omega arith), k, lt-ltb len kept_bytes h, add-one, take-suc-set line len b i)

heard_full : (line : List ℕ) (len b : ℕ) → length line ≡ kept_bytes → kept_bytes ≤ len → (t : Bool) → leb len kept_bytes ≡ t
    → long ≡ push (cond t (bytes (take len line)) long) b
unfolding push
heard_full line len b e h true p =
    let i : len ≤ kept_bytes = leb-true _ _ p in
    let k : length (take len line) ≡ len = length-take-le _ _ (omega arith) in
    simp (k, le-ltb len kept_bytes h)
heard_full line len b e h false p = refl

push_heard : (line : Line) (b : ℕ) → length line.room ≡ kept_bytes → heard (with_byte line b) ≡ push (heard line) b
unfolding heard with_byte
push_heard line b e = go (ltb line.len kept_bytes) refl
  where
    go : (t : Bool) → ltb line.len kept_bytes ≡ t
        → heard (cond t (record { room = set line.room line.len b; len = line.len + 1 }) (record { room = line.room; len = kept_bytes + 1 })) ≡ push (heard line) b
    go true p = heard_room line.room line.len b e (ltb-true line.len kept_bytes p)
    go false p = heard_full line.room line.len b e (ltb-false line.len kept_bytes p) (leb line.len kept_bytes) refl

-- a line that stands for l stands for l and b after it
keeps : (line : Line) (b : ℕ) (l : List ℕ) → length line.room ≡ kept_bytes → heard line ≡ kept l → heard (with_byte line b) ≡ kept (l ++ (b ∷ []))
keeps line b l e h = push_heard line b e ∙ ap (λ (x : Heard). push x b) h ∙ push_kept l b

kept_size : (line : Line) (b : ℕ) → length (with_byte line b).room ≡ length line.room
unfolding with_byte
kept_size line b = go (ltb line.len kept_bytes)
  where
    go : (t : Bool)
        → length (cond {A = Line} t (record { room = set line.room line.len b; len = line.len + 1 }) (record { room = line.room; len = kept_bytes + 1 })).room ≡ length line.room
    go true = length-set line.room line.len b
    go false = refl

-- ---- a block

-- what reading s did, where i bytes p of the block were read before: the bytes before the LF, those behind it, whether it is there
record Fed (i : ℕ) (s l head tail : List ℕ) (ended : Bool) (r : Scanned) : Type 0 where
  line : heard r.line ≡ kept (l ++ head)
  ends : r.step.ended ≡ ended
  rest : (p : List ℕ) → length p ≡ i → drop r.step.used (p ++ s) ≡ tail
  size : length r.line.room ≡ kept_bytes

snoc_length : (p : List ℕ) (b i : ℕ) → length p ≡ i → length (p ++ (b ∷ [])) ≡ i + 1
snoc_length p b i k = length-append p (b ∷ []) ∙ ap (λ (n : ℕ). n + 1) k

scan_feeds : (i : ℕ) (s : List ℕ) (line : Line) (l : List ℕ) → length line.room ≡ kept_bytes → heard line ≡ kept l
    → Fed i s l (before 10 s) (after 10 s) (has 10 s) (scan i s line)
unfolding scan before after has
scan_feeds i [] line l e h = record { line = rw (append-nil l) h; ends = refl; rest = λ p k. drop_at p [] i k; size = e }
scan_feeds i (b ∷ s) line l e h =
    go (eqb b 10) (scan_feeds (i + 1) s (with_byte line b) (l ++ (b ∷ [])) (kept_size line b ∙ e) (keeps line b l e h))
  where
    go : (t : Bool) → Fed (i + 1) s (l ++ (b ∷ [])) (before 10 s) (after 10 s) (has 10 s) (scan (i + 1) s (with_byte line b))
        → Fed i (b ∷ s) l (cond t [] (b ∷ before 10 s)) (cond t s (after 10 s)) (cond t true (has 10 s))
        (cond t (record { step = record { used = i + 1; ended = true }; line = line }) (scan (i + 1) s (with_byte line b)))
    go true next =
        record {
          line = rw (append-nil l) h;
          ends = refl;
          rest = λ p k. rw (← append_snoc p b s) (drop_at (p ++ (b ∷ [])) s (i + 1) (snoc_length p b i k));
          size = e;
        }
    go false next =
        record {
          line = next.line ∙ ap kept (append_snoc l b (before 10 s));
          ends = next.ends;
          rest = λ p k. rw (← append_snoc p b s) (next.rest (p ++ (b ∷ [])) (snoc_length p b i k));
          size = next.size;
        }

pub feeds : (s : List ℕ) (line : Line) (l : List ℕ) → length line.room ≡ kept_bytes → heard line ≡ kept l → Feeds s l (scan 0 s line)
feeds s line l e h =
    let f = scan_feeds 0 s line l e h in
    record { line = f.line; ends = f.ends; rest = f.rest [] refl; size = f.size }

-- a line that is not too long, and one that is
pub heard_is : (line : Line) → line.len ≤ kept_bytes → heard line ≡ bytes (take line.len line.room)
unfolding heard
heard_is line h = rw (le-leb line.len kept_bytes h)

pub heard_long : (line : Line) → kept_bytes < line.len → heard line ≡ long
unfolding heard
heard_long line h = rw (lt-leb line.len kept_bytes h)

-- a line of which nothing was read
pub empty_kept : (line : List ℕ) → heard (record { room = line; len = 0 }) ≡ kept []
unfolding heard kept
empty_kept line = refl

-- ---- a stream that is cut at each x

-- the pieces that ended before stand before those that end now
abbrev behind : List (List ℕ) → Cut → Cut
behind d c = record { done = d ++ c.done; since = c.since }

module _ (x : ℕ) where
  -- blocks one after another are one stream
  pub cut_blocks : (c : Cut) (s t : List ℕ) → cut x c (s ++ t) ≡ cut x (cut x c s) t
  unfolding cut
  cut_blocks c [] t = refl
  cut_blocks c (b ∷ s) t = cut_blocks (cut_at x c b) s t

  -- a block with an x ends a piece there, and goes on behind it; one without is part of the piece
  pub cut_ended : (d : List (List ℕ)) (l s : List ℕ) → has x s ≡ true
      → cut x (record { done = d; since = l }) s ≡ cut x (record { done = d ++ ((l ++ before x s) ∷ []); since = [] }) (after x s)
  unfolding cut cut_at before after has
  cut_ended d l [] e = never e
  cut_ended d l (b ∷ s) e = go (eqb b x) (cut_ended d (l ++ (b ∷ [])) s) e
    where
      go : (t : Bool)
          → (has x s ≡ true → cut x (record { done = d; since = l ++ (b ∷ []) }) s ≡ cut x (record { done = d ++ (((l ++ (b ∷ [])) ++ before x s) ∷ []); since = [] }) (after x s))
          → cond t true (has x s) ≡ true
          → cut x (cond t (record { done = d ++ (l ∷ []); since = [] }) (record { done = d; since = l ++ (b ∷ []) })) s
          ≡ cut x (record { done = d ++ ((l ++ cond t [] (b ∷ before x s)) ∷ []); since = [] }) (cond t s (after x s))
      go true next e = rw (append-nil l)
      go false next e = next e ∙ rw (append_snoc l b (before x s))

  pub cut_open : (d : List (List ℕ)) (l s : List ℕ) → has x s ≡ false
      → cut x (record { done = d; since = l }) s ≡ record { done = d; since = l ++ before x s }
  unfolding cut cut_at before has
  cut_open d l [] e = rw (append-nil l)
  cut_open d l (b ∷ s) e = go (eqb b x) (cut_open d (l ++ (b ∷ [])) s) e
    where
      go : (t : Bool)
          → (has x s ≡ false → cut x (record { done = d; since = l ++ (b ∷ []) }) s ≡ record { done = d; since = (l ++ (b ∷ [])) ++ before x s })
          → cond t true (has x s) ≡ false
          → cut x (cond t (record { done = d ++ (l ∷ []); since = [] }) (record { done = d; since = l ++ (b ∷ []) })) s
          ≡ record { done = d; since = l ++ cond t [] (b ∷ before x s) }
      go true next e = never (sym e)
      go false next e = next e ∙ rw (append_snoc l b (before x s))

  pub cut_behind : (s : List ℕ) (d : List (List ℕ)) (l : List ℕ)
      → cut x (record { done = d; since = l }) s ≡ behind d (cut x (record { done = []; since = l }) s)
  unfolding cut cut_at
  cut_behind [] d l = rw (append-nil d)
  cut_behind (b ∷ s) d l = go (eqb b x) (cut_behind s)
    where
      go : (t : Bool) → ((d : List (List ℕ)) (l : List ℕ) → cut x (record { done = d; since = l }) s ≡ behind d (cut x (record { done = []; since = l }) s))
          → cut x (cond t (record { done = d ++ (l ∷ []); since = [] }) (record { done = d; since = l ++ (b ∷ []) })) s
          ≡ behind d (cut x (cond t (record { done = [] ++ (l ∷ []); since = [] }) (record { done = []; since = l ++ (b ∷ []) })) s)
      go true next =
          let w = cut x (record { done = []; since = [] }) s in
          next (d ++ (l ∷ [])) []
          ∙ ap (λ (y : List (List ℕ)). record { done = y; since = w.since }) (append_assoc d (l ∷ []) w.done)
          ∙ sym (ap (behind d) (next (l ∷ []) []))
      go false next = next d (l ++ (b ∷ []))
