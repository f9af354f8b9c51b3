-- Strings that are no V or R to a node: reads, strings of bad form, strings for another node.
use mathlib.Core.Path.{◌≡◌, refl}
use mathlib.Core.Bool.{Bool, true, false}
use mathlib.Core.List.{List}
use mathlib.Core.Logic.{◌≢◌}
use mathlib.Core.Option.{none, some}
use Prim.Native.Nat.{ℕ}
use native.Mathlib.Omega.{arith}
use Rattle.exact.proofs.Z.{and_false}
use Rattle.config.specs.declared.Config.{Config}
use Rattle.receiver.specs.Receiver.{ends}
use Rattle.command.specs.Addressed.{addressed}
use Rattle.command.specs.declared.Asked.{Asked}
use Rattle.command.specs.declared.Asked.TheVariants.{Read, Print, Reset, Write, Status}
use Rattle.form.specs.Grammar.{Says, NoDigit}
use Rattle.form.specs.Change as form
use Rattle.form.specs.Change.{alters, change, VOrR, Change}
use Rattle.form.specs.Understood.{Silent}
use Rattle.form.proofs.Meaning.{one_meaning, one_node, nobody, addressed_to}
use Rattle.form.proofs.Permitted.{changes}
use Rattle.looking.specs.History.{byte, node_of}
use Rattle.looking.specs.Kept.{keeps}
use Rattle.looking.specs.Sent as sent
use Rattle.looking.specs.Sent.{Reads}

no_change_by : (n : ℕ) (s : List ℕ) (t : Bool) → change n s ≡ t → (Change s n → ⊥) → t ≡ false
no_change_by n s true e x = absurd (x ((changes s n).0 e))
no_change_by n s false e x = refl

pub no_change : (n : ℕ) (s : List ℕ) → (Change s n → ⊥) → change n s ≡ false
no_change n s x = no_change_by n s (change n s) refl x

-- what a V or R says to its node
record Said (s : List ℕ) (n : ℕ) : Type 0 where
  pub asked : Asked
  pub says : Says s n asked
  pub changing : alters asked ≡ true

said : {s : List ℕ} {n : ℕ} → VOrR s n → Said s n
said (form.reset {r} x) = record { asked = Reset r; says = x; changing = refl }
said (form.write {r} {z} x) = record { asked = Write r z; says = x; changing = refl }
said (form.status {b} x) = record { asked = Status b; says = x; changing = refl }

apart : (a b : Asked) → a ≡ b → alters a ≡ true → alters b ≡ false → ⊥
apart a b e p q = let z : ◌≡◌ {A = ℕ} 0 1 = cc in omega arith

module _ (n : ℕ) (s : List ℕ) where
  -- a read, to whichever node
  pub read_changes_not : {m : ℕ} {a : Asked} → Reads s m a → change n s ≡ false
  read_changes_not {m} (sent.read {r} x) =
      no_change n s (λ y. let q = said y.says in apart q.asked (Read r) (one_meaning s n m q.asked (Read r) q.says x).1 q.changing refl)
  read_changes_not {m} (sent.print x) =
      no_change n s (λ y. let q = said y.says in apart q.asked Print (one_meaning s n m q.asked Print q.says x).1 q.changing refl)

  -- bad form
  pub silent_changes_not : Silent s n → change n s ≡ false
  silent_changes_not x = no_change n s (λ y. let q = said y.says in x q.asked q.says)

  pub no_digit_changes_not : NoDigit s → change n s ≡ false
  no_digit_changes_not x = no_change n s (λ y. (nobody s).0 x n (said y.says).says.to)

  -- a string for another node
  pub other_changes_not : (m : ℕ) → addressed s ≡ some m → m ≢ n → change n s ≡ false
  other_changes_not m e d = no_change n s (λ y. d (one_node s m n ((addressed_to s m).0 e) (said y.says).says.to))

-- nothing is kept where such a string ends
pub keeps_idle : (c : Config) (s : List ℕ) (b place : ℕ) (buffer : List ℕ) → change (node_of c) s ≡ false → keeps c s (byte b place buffer) ≡ none
keeps_idle c s b place buffer e = rw (e, and_false (ends b))
