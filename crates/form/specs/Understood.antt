-- What is claimed: the parser and the form agree on every string, and no string says two things.
use Rattle.std.specs.Prelude.{ℕ, ◌≤◌, ◌<◌, ◌≡◌, true, List, ◌∷◌, ◌≢◌, ◌↔◌, ℤ, None, Some}
use Rattle.std.proofs.Math.Option.{none, some}
use Rattle.std.specs.Int.Signed.{le_z}
use Rattle.exact.specs.Meaning.{IsHeld}
use Rattle.register.specs.Bytes.{byte}
use Rattle.register.specs.Registers.{entry, holds, count, at}
use Rattle.register.specs.declared.Limits.{Limits}
use Rattle.register.specs.declared.Writes.TheVariants.{Number as Limited}
use Rattle.numeral.specs.Number.{number}
use Rattle.numeral.specs.Reads.{Reads}
use Rattle.numeral.specs.declared.Number.TheVariants.{NoNumber}
use Rattle.command.specs.Parse.{body, parse}
use Rattle.command.specs.Addressed.{addressed}
use Rattle.command.specs.declared.Asked.{Asked}
use Rattle.command.specs.declared.Asked.TheVariants.{Read, Print, Reset, Write, Status, BadForm}
use Rattle.form.specs.Grammar.{BeginsN, BeginsDigit, Numeral, Letter, Body, For, Says, NoDigit}
use Rattle.form.specs.Change.{change, Change}

-- s asks nothing of node n
abbrev pub Silent : List ℕ → ℕ → Type 0
Silent s n = (a : Asked) → Says s n a → ⊥

-- what a string can ask: registers that their command takes, a number that the register holds, a byte of seven bits
abbrev pub Permitted : Asked → Type 0
Permitted (Read r) = r < count
Permitted Print = Unit
Permitted (Reset r) = (at "B" ≤ r) × (r ≤ at "H")
Permitted (Write r z) = (at "E" ≤ r) × (r ≤ at "I") × (holds (entry r).written z ≡ true)
Permitted (Status b) = b ≤ 127
Permitted BadForm = Unit

pub record Understood : Type 0 where
  -- the parser finds what is asked, and of which node, exactly where the form says so
  pub asked : (s : List ℕ) (n : ℕ) (a : Asked) → Says s n a ↔ ((parse s ≡ Some (n, a)) × (a ≢ BadForm))
  -- and bad form for a node exactly where the string is for that node and asks nothing of it
  pub bad_form : (s : List ℕ) (n : ℕ) → (parse s ≡ Some (n, BadForm)) ↔ (For s n × Silent s n)
  -- and no node exactly where N has no digit, which is where the string is for no node at all
  pub no_node : (s : List ℕ) → (parse s ≡ None) ↔ NoDigit s
  pub nobody : (s : List ℕ) → NoDigit s ↔ ((n : ℕ) → For s n → ⊥)
  -- a string is for one node at most, and says one thing at most
  pub one_node : (s : List ℕ) (m n : ℕ) → For s m → For s n → m ≡ n
  pub one_meaning : (s : List ℕ) (m n : ℕ) (a b : Asked) → Says s m a → Says s n b → (m ≡ n) × (a ≡ b)
  -- how much of a string is its address is no choice where it asks something: no command begins with N or with a digit
  pub no_choice : (s : List ℕ) (a : Asked) → Body a s → (BeginsN s → ⊥) × (BeginsDigit s → ⊥)
  -- which node a string is addressed to, its form bad or not
  pub addressed_to : (s : List ℕ) (n : ℕ) → (addressed s ≡ some n) ↔ For s n
  pub addressed_to_none : (s : List ℕ) → (addressed s ≡ none) ↔ NoDigit s
  -- the test for a well-formed V or R to node n holds exactly where the form says so
  pub changes : (s : List ℕ) (n : ℕ) → (change n s ≡ true) ↔ Change s n
  -- the number reader reads the number that stands there, cut to five digits, and holds that to the limits; where none stands there it says so
  pub numbers : (l : Limits) (s : List ℕ) (z : ℤ) → le_z l.low l.high ≡ true → Numeral z s → Reads l z (number l s)
  pub no_number : (l : Limits) (s : List ℕ) → (number l s ≡ NoNumber) ↔ ((z : ℤ) → Numeral z s → ⊥)
  -- so V of a number past a limit asks just what V of that limit asks
  pub held_alike : (r c : ℕ) (l : Limits) (z y : ℤ) (s t : List ℕ) → Letter r c → (entry r).written ≡ Limited l → IsHeld l.low l.high z y
      → Numeral z s → Numeral y t → body (byte "V" ∷ c ∷ s) ≡ body (byte "V" ∷ c ∷ t)
  -- whatever is found is within what its type may hold
  pub permitted : (s : List ℕ) (n : ℕ) (a : Asked) → parse s ≡ Some (n, a) → (n ≤ 99) × Permitted a
