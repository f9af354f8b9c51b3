-- A well-formed V or R to a node: what a string changes, as a test of its bytes and by its form.
use Rattle.std.specs.Prelude.{ℕ, ◌≤◌, Bool, true, false, not, ◌&&◌, List, eqb, ℤ, length, None, Some}
use Rattle.receiver.specs.Receiver.{limit, over}
use Rattle.command.specs.Parse.{parse}
use Rattle.command.specs.declared.Asked.{Asked}
use Rattle.command.specs.declared.Asked.TheVariants.{Read, Print, Reset, Write, Status, BadForm}
use Rattle.command.specs.Parse.{Parsed}
use Rattle.form.specs.Grammar.{Says}

-- V and R change something, T and P only look
abbrev pub alters : Asked → Bool
alters (Read r) = false
alters Print = false
alters (Reset r) = true
alters (Write r z) = true
alters (Status b) = true
alters BadForm = false

abbrev pub alters_at : ℕ → Parsed → Bool
alters_at n None = false
alters_at n (Some (m, a)) = eqb m n && alters a

-- whether s is a well-formed V or R to node n: at most 32 bytes before its end, and no bad form
unfoldable pub change : ℕ → List ℕ → Bool
change n s = not (over (length s)) && alters_at n (parse s)

-- the same by the form of s
pub data VOrR : List ℕ → ℕ → Type 0 where
  reset : {s : List ℕ} {n r : ℕ} → Says s n (Reset r) → VOrR s n
  write : {s : List ℕ} {n r : ℕ} {z : ℤ} → Says s n (Write r z) → VOrR s n
  status : {s : List ℕ} {n b : ℕ} → Says s n (Status b) → VOrR s n

pub record Change (s : List ℕ) (n : ℕ) : Type 0 where
  pub short : length s ≤ limit
  pub says : VOrR s n
