-- What a string asks, read from its first byte to its last. Crate `form` says the same by rules, and that both agree.
use Rattle.std.specs.Prelude.{ℕ, ◌+◌, ◌-◌, ◌*◌, cond, List, [], ◌∷◌, Option, None, Some, leb, eqb}
use Rattle.register.specs.Bytes.{byte}
use Rattle.register.specs.Registers.{entry, count, index}
use Rattle.register.specs.declared.Writes.{Writes}
use Rattle.register.specs.declared.Writes.TheVariants.{Nothing, Number as Limited, Byte}
use Rattle.numeral.specs.Number.{is_digit, number}
use Rattle.numeral.specs.declared.Number.{Number}
use Rattle.numeral.specs.declared.Number.TheVariants.{Is, Held, NoNumber}
use Rattle.command.specs.declared.Asked.{Asked}
use Rattle.command.specs.declared.Asked.TheVariants.{Read, Print, Reset, Write, Status, BadForm}

-- ── command, register, data ──

-- the place of the register whose letter is all that stands there, and past the list's end for anything else
unfoldable pub sole : List ℕ → ℕ
sole [] = count
sole (l ∷ []) = index l
sole (l ∷ b ∷ s) = count

-- T takes a register
unfoldable pub reading : List ℕ → Asked
reading s = cond (entry (sole s)).read (Read (sole s)) BadForm

-- R takes a register
unfoldable pub resetting : List ℕ → Asked
resetting s = cond (entry (sole s)).reset (Reset (sole s)) BadForm

-- P takes none
unfoldable pub printing : List ℕ → Asked
printing [] = Print
printing (b ∷ s) = BadForm

-- VJ takes exactly one byte of 0 to 127
unfoldable pub status : List ℕ → Asked
status [] = BadForm
status (b ∷ []) = cond (leb b 127) (Status b) BadForm
status (b ∷ c ∷ s) = BadForm

-- a number is written as it is, or as the limit that it was held to
abbrev pub write_to : ℕ → Number → Asked
write_to r (Is z) = Write r z
write_to r (Held z) = Write r z
write_to r NoNumber = BadForm

-- the data of V, by what the list says of the register: a number, held to the register's limits, or a byte
unfoldable pub data_of : ℕ → Writes → List ℕ → Asked
data_of r Nothing s = BadForm
data_of r (Limited l) s = write_to r (number l s)
data_of r Byte s = status s

-- V takes a register and its data
unfoldable pub writing : List ℕ → Asked
writing [] = BadForm
writing (l ∷ s) = data_of (index l) (entry (index l)).written s

unfoldable pub body : List ℕ → Asked
body [] = BadForm
body (b ∷ s) =
    cond (eqb b (byte "T")) (reading s)
    (cond (eqb b (byte "V")) (writing s)
    (cond (eqb b (byte "R")) (resetting s)
    (cond (eqb b (byte "P")) (printing s)
    BadForm)))

-- for which node, and what is asked of it; none for an N with no digit
abbrev pub Parsed : Type 0
Parsed = Option (ℕ × Asked)

-- ── the address: N with one or two digits, as many as stand there; no N means node 0 ──

unfoldable pub second_digit : ℕ → List ℕ → Parsed
second_digit d [] = Some (d, BadForm)
second_digit d (b ∷ s) = cond (is_digit b) (Some (10 * d + (b - byte "0"), body s)) (Some (d, body (b ∷ s)))

unfoldable pub first_digit : List ℕ → Parsed
first_digit [] = None
first_digit (b ∷ s) = cond (is_digit b) (second_digit (b - byte "0") s) None

unfoldable pub parse : List ℕ → Parsed
parse [] = Some (0, BadForm)
parse (b ∷ s) = cond (eqb b (byte "N")) (first_digit s) (Some (0, body (b ∷ s)))
