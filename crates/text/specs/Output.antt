-- Bytes that wait in a buffer to be written.
use Rattle.std.specs.Prelude.{ℕ, ◌+◌, cond, List, [], ◌∷◌, ◌++◌, length, take, drop, leb}
use base.Fml.{GName}
use denote.MutBor.{MutBor}
use Rattle.text.specs.declared.output.Out.{Out}

-- a buffer, of which so many bytes wait; its name says that it is still the one that was lent
pub record Waiting : Type 0 where
  pub count : ℕ
  pub bytes : List ℕ
  pub name : GName

abbrev pub waiting : Out → Waiting
waiting out = record { count = out.pending.at; bytes = out.bytes.now; name = out.bytes.ghost_name }

-- where a program begins, with the buffer that it is lent
abbrev pub nothing_waits : MutBor (List ℕ) → Waiting
nothing_waits room = record { count = 0; bytes = room.now; name = room.ghost_name }

-- where n bytes go in a buffer of a size: behind those that wait, or at the start, once these are written, where they have no room there
abbrev pub place_for : ℕ → ℕ → ℕ → ℕ
place_for size count n = cond (leb (count + n) size) count 0

-- the bytes s in a buffer, from a place on
abbrev pub laid : List ℕ → ℕ → List ℕ → List ℕ
laid l place s = take place l ++ (s ++ drop (place + length s) l)

-- the bytes s are put behind what waits; a buffer shorter than s takes nothing
unfoldable pub put_in : Waiting → List ℕ → Waiting
put_in w s =
    cond (leb (length s) (length w.bytes))
    (record {
      count = place_for (length w.bytes) w.count (length s) + length s;
      bytes = laid w.bytes (place_for (length w.bytes) w.count (length s)) s;
      name = w.name;
    })
    w

-- the bytes that wait, and what is written of them to make room for s
abbrev pub waits : Waiting → List ℕ
waits w = take w.count w.bytes

abbrev pub sent : Waiting → List ℕ → List ℕ
sent w s = cond (leb (w.count + length s) (length w.bytes)) [] (waits w)

-- pieces one after another
unfoldable pub puts : Waiting → List (List ℕ) → Waiting
puts w [] = w
puts w (s ∷ ss) = puts (put_in w s) ss
