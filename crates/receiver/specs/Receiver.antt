-- The receiver, byte for byte, and what it has heard.
use Rattle.std.specs.Prelude.{ℕ, ◌+◌, Bool, cond, ◌||◌, List, ltb, eqb, take, set, replicate}
use Rattle.register.specs.Bytes.{byte}
use Rattle.receiver.specs.declared.Receiver.{Receiver}
use Rattle.receiver.specs.declared.Kind.{Kind}
use Rattle.receiver.specs.declared.Kind.TheVariants.{End, Drop, Part}

-- `*` and `$` end a string, CR and LF drop it, any other byte is part of it
abbrev pub ends : ℕ → Bool
ends b = eqb b (byte "*") || eqb b (byte "$")

abbrev pub drops : ℕ → Bool
drops b = eqb b (byte "\r") || eqb b (byte "\n")

unfoldable pub kind : ℕ → Kind
kind b = cond (ends b) End (cond (drops b) Drop Part)

-- a string is well-formed only with at most 32 bytes before its end
abbrev pub limit : ℕ
limit = 32

abbrev pub over : ℕ → Bool
over n = ltb limit n

-- ── every byte of the next receiver ──

-- at power-up nothing is held
abbrev pub silent : Receiver
silent = record { bytes = replicate limit 0; length = 0 }

-- a byte goes behind the string; where it has no room the length says "too long", and the bytes stay
unfoldable pub store : Receiver → ℕ → Receiver
store r b =
    cond (ltb r.length limit)
    (record { bytes = set r.bytes r.length b; length = r.length + 1 })
    (record { bytes = r.bytes; length = limit + 1 })

-- emptied by its length alone: the bytes stay, and mean nothing
abbrev pub emptied : Receiver → Receiver
emptied r = record { bytes = r.bytes; length = 0 }

-- a byte received: a string that ends is judged first, and then the receiver is emptied
abbrev pub taken : Kind → Receiver → ℕ → Receiver
taken End r b = emptied r
taken Drop r b = emptied r
taken Part r b = store r b

abbrev pub next : Receiver → ℕ → Receiver
next r b = taken (kind b) r b

-- ── what it means ──

-- the string so far, or that it is too long: then neither its bytes nor their number is known
pub data Heard : Type 0 where
  bytes : List ℕ → Heard
  too_long : Heard

unfoldable pub heard : Receiver → Heard
heard r = cond (over r.length) too_long (bytes (take r.length r.bytes))
