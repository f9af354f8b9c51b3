-- What a receiver has heard, said from the bytes since power-up alone. Bytes since power-up are a list, newest first: `b ∷ h` is h and then b.
use Rattle.std.specs.Prelude.{ℕ, ◌≡◌, Bool, true, false, cond, ◌||◌, List, [], ◌∷◌, ◌++◌, reverse, length, take}
use Rattle.receiver.specs.declared.Receiver.{Receiver}
use Rattle.receiver.specs.Receiver.{Heard, bytes, too_long, limit, ends, drops, over, silent, next, heard}

-- a string begins after a byte that ends or drops one
abbrev pub ending : ℕ → Bool
ending b = ends b || drops b

-- every byte since power-up or the last ending byte, in the order in which they came
unfoldable pub since : List ℕ → List ℕ
since [] = []
since (b ∷ h) = cond (ending b) [] (since h ++ b ∷ [])

-- what is heard of a string
abbrev pub hearing : List ℕ → Heard
hearing s = cond (over (length s)) too_long (bytes s)

-- the receiver after bytes since power-up
unfoldable pub after : List ℕ → Receiver
after [] = silent
after (b ∷ h) = next (after h) b

-- ── the same said without recursion, for the reader, over bytes in the order in which they came ──

-- no byte of a string is an ending one
pub data Unbroken : List ℕ → Type 0 where
  none : Unbroken []
  more : {b : ℕ} {s : List ℕ} → ending b ≡ false → Unbroken s → Unbroken (b ∷ s)

-- `Begun all s`: of the bytes all, s are those since power-up or the last ending byte
pub data Begun : List ℕ → List ℕ → Type 0 where
  at_power_up : {s : List ℕ} → Unbroken s → Begun s s
  behind : (before : List ℕ) (b : ℕ) {s : List ℕ} → ending b ≡ true → Unbroken s → Begun (before ++ b ∷ s) s

-- ── what is claimed ──

pub record Receives : Type 0 where
  -- a receiver has heard every byte since power-up or the last ending byte, or that they are too many
  pub hears : (h : List ℕ) → heard (after h) ≡ hearing (since h)
  -- those bytes are the ones meant, and there are no others
  pub begun : (h : List ℕ) → Begun (reverse h) (since h)
  pub only : (h s : List ℕ) → Begun (reverse h) s → since h ≡ s
  -- nothing that is heard depends on what stands behind the string, now or after any byte
  pub by_view : (r q : Receiver) (b : ℕ) → length r.bytes ≡ limit → length q.bytes ≡ limit → heard r ≡ heard q → heard (next r b) ≡ heard (next q b)
  pub by_string : (r q : Receiver) → r.length ≡ q.length → take r.length r.bytes ≡ take r.length q.bytes → heard r ≡ heard q
  -- too long is one state: a length above the limit tells nothing more
  pub one_state : (r : Receiver) → over r.length ≡ true → heard r ≡ too_long
