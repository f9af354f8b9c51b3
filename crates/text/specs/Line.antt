-- A stream of bytes cut at a separator, and its lines, of which only so many bytes are kept.
use Rattle.std.specs.Prelude.{ℕ, ◌+◌, ◌≤◌, ◌<◌, ◌≡◌, List, [], ◌∷◌, ◌++◌, Bool, true, false, cond, not, ◌&&◌, length, take, drop, set, leb, ltb, eqb, replicate}
use Rattle.text.specs.declared.Line.{Line}
use Rattle.text.specs.declared.Step.{Step}

-- the most bytes of a line that are kept
abbrev pub kept_bytes : ℕ
kept_bytes = 1024

-- ---- what the code does, to the byte

-- a line of which nothing has come
abbrev pub no_line : Line
no_line = record { room = replicate kept_bytes 0; len = 0 }

-- a line after one byte more
unfoldable pub with_byte : Line → ℕ → Line
with_byte line b =
    cond (ltb line.len kept_bytes)
    (record { room = set line.room line.len b; len = line.len + 1 })
    (record { room = line.room; len = kept_bytes + 1 })

-- what reading a block did, and the line after it
pub record Scanned : Type 0 where
  pub step : Step
  pub line : Line

-- a block is read up to its first LF, or to its end; i bytes of it were read before
unfoldable pub scan : ℕ → List ℕ → Line → Scanned
scan i [] line = record { step = record { used = i; ended = false }; line = line }
scan i (b ∷ s) line =
    cond (eqb b 10) (record { step = record { used = i + 1; ended = true }; line = line }) (scan (i + 1) s (with_byte line b))

-- a block that is not empty is read on
pub record Used (used size : ℕ) : Type 0 where
  pub within : used ≤ size
  pub on : 0 < size → 0 < used

-- ---- what that means

-- a line's bytes, or that they are more than are kept
pub data Heard : Type 0 where
  bytes : List ℕ → Heard
  long : Heard

-- what a line's room and its length stand for
unfoldable pub heard : Line → Heard
heard line = cond (leb line.len kept_bytes) (bytes (take line.len line.room)) long

-- what is kept of a line
unfoldable pub kept : List ℕ → Heard
kept l = cond (leb (length l) kept_bytes) (bytes l) long

-- the bytes before the first x, those behind it, and whether there is one
unfoldable pub before : ℕ → List ℕ → List ℕ
before x [] = []
before x (b ∷ s) = cond (eqb b x) [] (b ∷ before x s)

unfoldable pub after : ℕ → List ℕ → List ℕ
after x [] = []
after x (b ∷ s) = cond (eqb b x) s (after x s)

unfoldable pub has : ℕ → List ℕ → Bool
has x [] = false
has x (b ∷ s) = cond (eqb b x) true (has x s)

-- what `scan` does to a line of which the bytes l were read before
pub record Feeds (s l : List ℕ) (r : Scanned) : Type 0 where
  pub line : heard r.line ≡ kept (l ++ before 10 s)
  pub ends : r.step.ended ≡ has 10 s
  pub rest : drop r.step.used s ≡ after 10 s
  pub size : length r.line.room ≡ kept_bytes

-- ---- streams

-- bytes cut at each x: the pieces that ended, in order, and the bytes since
pub record Cut : Type 0 where
  pub done : List (List ℕ)
  pub since : List ℕ

unfoldable pub cut_at : ℕ → Cut → ℕ → Cut
cut_at x c b =
    cond (eqb b x) (record { done = c.done ++ (c.since ∷ []); since = [] }) (record { done = c.done; since = c.since ++ (b ∷ []) })

unfoldable pub cut : ℕ → Cut → List ℕ → Cut
cut x c [] = c
cut x c (b ∷ s) = cut x (cut_at x c b) s

-- the lines of a block that comes after the bytes l of a line
abbrev pub lines : List ℕ → List ℕ → Cut
lines l block = cut 10 (record { done = []; since = l }) block

-- a line that no LF ends counts, where it has a byte
abbrev pub unended : List ℕ → List (List ℕ)
unended [] = []
unended (b ∷ s) = (b ∷ s) ∷ []

-- every line of a whole stream
unfoldable pub all_lines : List ℕ → List (List ℕ)
all_lines stream = (lines [] stream).done ++ unended (lines [] stream).since

-- the input goes on where some of it came, and every write took all its bytes
abbrev pub goes_on : ℕ → Bool → Bool
goes_on came ok = not (eqb came 0) && ok

-- what is held stands for the bytes l of a line
pub record Stands (l : List ℕ) (line : Line) : Type 0 where
  pub keeps : heard line ≡ kept l
  pub size : length line.room ≡ kept_bytes

module _ {A : Type 0} (event : A → Heard → A) where
  -- a program's state after lines, one event each
  unfoldable pub ran : A → List (List ℕ) → A
  ran a [] = a
  ran a (l ∷ ls) = ran (event a (kept l)) ls

  -- a block after the bytes l of a line: the state is that of the lines which ended, and what is held stands for the bytes since
  pub record Ran (block l : List ℕ) (a a' : A) (line : Line) : Type 0 where
    pub state : a' ≡ ran a (lines l block).done
    pub stands : Stands (lines l block).since line

  -- the same after whatever bytes it stood for before
  abbrev pub Carried : (block : List ℕ) (line : Line) (a a' : A) (line' : Line) → Type 0
  Carried block line a a' line' = (l : List ℕ) → Stands l line → Ran block l a a' line'

  -- one read: the block's first bytes, as many as came
  pub record Turned (block : List ℕ) (line : Line) (a a' : A) (line' : Line) : Type 0 where
    pub count : ℕ
    pub within : count ≤ length block
    pub carries : Carried (take count block) line a a' line'

  -- any number of reads: the bytes that came, one block after another
  pub record Streamed (line : Line) (a a' : A) (line' : Line) : Type 0 where
    pub stream : List ℕ
    pub carries : Carried stream line a a' line'

  -- at the stream's end: a last line that no LF ends counts, where it has a byte
  unfoldable pub finished : A → Line → A
  finished a line = cond (eqb line.len 0) a (event a (heard line))
