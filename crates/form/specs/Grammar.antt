-- The form of the register strings: which strings say what, to which node. Nothing is computed here; each line is a rule of the form.
-- Optional N with one or two digits, command, register, data.
use Rattle.std.specs.Prelude.{ℕ, ◌+◌, ◌*◌, ◌≤◌, ◌<◌, ◌≡◌, ◌≢◌, true, List, [], ◌∷◌, ◌++◌, ℤ, pos, neg_ℤ, length}
use Rattle.register.specs.Bytes.{byte}
use Rattle.exact.specs.Meaning.{IsHeld}
use Rattle.register.specs.Registers.{entry, count}
use Rattle.register.specs.declared.Limits.{Limits}
use Rattle.register.specs.declared.Writes.TheVariants.{Number as Limited}
use Rattle.command.specs.declared.Asked.{Asked}
use Rattle.command.specs.declared.Asked.TheVariants.{Read, Print, Reset, Write, Status}

-- byte b is digit d
pub record Digit (d b : ℕ) : Type 0 where
  pub to_nine : d ≤ 9
  pub is : b ≡ byte "0" + d

-- ── the address ──

-- a string begins with N; a string begins with a digit
pub data BeginsN : List ℕ → Type 0 where
  begins_n : {s : List ℕ} → BeginsN (byte "N" ∷ s)

pub data BeginsDigit : List ℕ → Type 0 where
  begins_digit : {d b : ℕ} {s : List ℕ} → Digit d b → BeginsDigit (b ∷ s)

-- `Address n part rest`: part, with rest behind it, is an address of node n. N with one or two digits, as many as stand there; no N means node 0
pub data Address : ℕ → List ℕ → List ℕ → Type 0 where
  no_n : {rest : List ℕ} → (BeginsN rest → ⊥) → Address 0 [] rest
  one_digit : {d b : ℕ} {rest : List ℕ} → Digit d b → (BeginsDigit rest → ⊥) → Address d (byte "N" ∷ b ∷ []) rest
  two_digits : {d e b c : ℕ} {rest : List ℕ} → Digit d b → Digit e c → Address (10 * d + e) (byte "N" ∷ b ∷ c ∷ []) rest

-- ── a V number ──

-- `Figures ds s`: s is digits and points, and ds are its digits in order; points are ignored
pub data Figures : List ℕ → List ℕ → Type 0 where
  end : Figures [] []
  point : {ds s : List ℕ} → Figures ds s → Figures ds (byte "." ∷ s)
  digit : {d b : ℕ} {ds s : List ℕ} → Digit d b → Figures ds s → Figures (d ∷ ds) (b ∷ s)

-- `LastFive ds fs`: fs are the last five of the digits ds, all of them where they are no more
pub data LastFive : List ℕ → List ℕ → Type 0 where
  all : {ds : List ℕ} → length ds ≤ 5 → LastFive ds ds
  five : (before : List ℕ) {fs : List ℕ} → length fs ≡ 5 → LastFive (before ++ fs) fs

-- `Worth n ds`: digits ds are the decimal number n; one digit more makes ten times as much and that digit
pub data Worth : ℕ → List ℕ → Type 0 where
  zero : Worth 0 []
  more : {n : ℕ} {ds : List ℕ} (d : ℕ) → Worth n ds → Worth (10 * n + d) (ds ++ d ∷ [])

-- digits and points, at least one digit, and the last five count
pub data Counts : ℕ → List ℕ → Type 0 where
  counts : {n : ℕ} {ds fs s : List ℕ} → Figures ds s → ds ≢ [] → LastFive ds fs → Worth n fs → Counts n s

-- `Numeral z s`: s is the number z, with an optional leading minus
pub data Numeral : ℤ → List ℕ → Type 0 where
  plain : {n : ℕ} {s : List ℕ} → Counts n s → Numeral (pos n) s
  minus : {n : ℕ} {s : List ℕ} → Counts n s → Numeral (neg_ℤ (pos n)) (byte "-" ∷ s)

-- ── command, register, data ──

-- l is the letter of register r of the list
pub record Letter (r l : ℕ) : Type 0 where
  pub listed : r < count
  pub letter : (entry r).letter ≡ l

-- `Body a s`: s asks a. T, R and V take the registers that the list permits them, P takes none. Only V has data: a number, of which the one
-- nearest to it within the register's limits is written, and for J one byte of 0 to 127
pub data Body : Asked → List ℕ → Type 0 where
  read : {r l : ℕ} → Letter r l → (entry r).read ≡ true → Body (Read r) (byte "T" ∷ l ∷ [])
  reset : {r l : ℕ} → Letter r l → (entry r).reset ≡ true → Body (Reset r) (byte "R" ∷ l ∷ [])
  print : Body Print (byte "P" ∷ [])
  write : {r l : ℕ} {limits : Limits} {z y : ℤ} {s : List ℕ} → Letter r l → (entry r).written ≡ Limited limits → Numeral z s → IsHeld limits.low limits.high z y
      → Body (Write r y) (byte "V" ∷ l ∷ s)
  status : {b : ℕ} → b ≤ 127 → Body (Status b) (byte "V" ∷ byte "J" ∷ b ∷ [])

-- ── a string ──

-- s is for node n
pub record For (s : List ℕ) (n : ℕ) : Type 0 where
  pub part : List ℕ
  pub rest : List ℕ
  pub whole : s ≡ part ++ rest
  pub address : Address n part rest

-- s asks a of node n: it is for node n, and a stands behind the address
pub record Says (s : List ℕ) (n : ℕ) (a : Asked) : Type 0 where
  pub to : For s n
  pub body : Body a to.rest

-- N stands first, and no digit behind it: s is for no node
pub data NoDigit : List ℕ → Type 0 where
  no_digit : {s : List ℕ} → (BeginsDigit s → ⊥) → NoDigit (byte "N" ∷ s)
