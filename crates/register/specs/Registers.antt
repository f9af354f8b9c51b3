-- The registers, one fixed list: letter, mnemonic, which of T, V and R take it, and for V the limits of the number that it holds. A
-- register is known by its place in the list, which a search for its letter finds; definitions name it by its letter.
use Rattle.std.specs.Prelude.{ℕ, suc, Bool, true, false, cond, List, [], ◌∷◌, eqb, ℤ, pos, length, get_or}
use Prim.Native.Char.{Char}
use Rattle.exact.specs.Sign.{minus, within}
use Rattle.register.specs.Bytes.{byte, ascii}
use Rattle.register.specs.declared.Writes.{Writes}
use Rattle.register.specs.declared.Writes.TheVariants.{Nothing, Number, Byte}
use Rattle.register.specs.declared.Register.{Register}

-- a setpoint holds -19,999 to 99,999, the analog register 0 to 4,095
abbrev setpoint : Writes
setpoint = Number (record { low = minus 19_999; high = pos 99_999 })

abbrev code : Writes
code = Number (record { low = pos 0; high = pos 4_095 })

-- letter and mnemonic; whether T reads it, what V writes to it, whether R resets it
pub record Listed : Type 0 where
  pub letter : ℕ
  pub mnemonic : List ℕ
  pub read : Bool
  pub written : Writes
  pub reset : Bool

abbrev row : ℕ → List ℕ → Bool → Writes → Bool → Listed
row letter mnemonic t v r = record { letter = letter; mnemonic = mnemonic; read = t; written = v; reset = r }

abbrev pub registers : List Listed
registers =
    row (byte "A") (ascii "INP") true Nothing false
    ∷ row (byte "B") (ascii "TOT") true Nothing true
    ∷ row (byte "C") (ascii "MAX") true Nothing true
    ∷ row (byte "D") (ascii "MIN") true Nothing true
    ∷ row (byte "E") (ascii "SP1") true setpoint true
    ∷ row (byte "F") (ascii "SP2") true setpoint true
    ∷ row (byte "G") (ascii "SP3") true setpoint true
    ∷ row (byte "H") (ascii "SP4") true setpoint true
    ∷ row (byte "I") (ascii "AOR") true code false
    ∷ row (byte "J") (ascii "CSR") true Byte false
    ∷ []

-- what stands past the list's end: no command takes it
abbrev pub no_register : Listed
no_register = row 0 (0 ∷ 0 ∷ 0 ∷ []) false Nothing false

-- the register at a place of the list
unfoldable pub entry : ℕ → Listed
entry i = get_or registers i no_register

-- a row as the code has it: what V writes stands apart there
abbrev pub register_of : Listed → Register
register_of x = record { letter = x.letter; mnemonic = x.mnemonic; read = x.read; reset = x.reset }

-- whether a register holds z: a number within its limits
abbrev pub holds : Writes → ℤ → Bool
holds Nothing z = false
holds (Number l) z = within l.low l.high z
holds Byte z = false

-- how many there are
abbrev pub count : ℕ
count = length registers

-- the place of the first register with a letter; past the list's end where none has it
abbrev pub place_in : List Listed → ℕ → ℕ
place_in [] b = 0
place_in (r ∷ rs) b = cond (eqb b r.letter) 0 (suc (place_in rs b))

unfoldable pub index : ℕ → ℕ
index b = place_in registers b

-- the register that a definition names
abbrev pub at : Char → ℕ
at letter = place_in registers (byte letter)
