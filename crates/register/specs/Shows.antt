-- What a line of each register can show, one row for each of the ten registers, in the order of their list: the limits of its numbers;
-- whether it can lie beyond them, `OLOL` and `ULUL`; whether it can have none, `----`; and whether its numbers have decimal places. A
-- register that comes behind these ten in the list has no row here.
use Rattle.std.specs.Prelude.{ℕ, Bool, true, false, List, [], ◌∷◌, ℤ, pos, length, get_or}
use Rattle.exact.specs.Sign.{minus}
use Rattle.register.specs.declared.Shows.{Shows}

abbrev row : ℤ → ℤ → Bool → Bool → Bool → Shows
row low high beyond none places = record { numbers = record { low = low; high = high }; beyond = beyond; none = none; places = places }

-- the input: a number of the display range, Over, Under or none
abbrev input : Shows
input = row (minus 19_999) (pos 99_999) true true true

-- the total: a number of its own range, Over or Under
abbrev total : Shows
total = row (minus 199_999_999) (pos 999_999_999) true false true

-- max and min: a number of the display range, or none
abbrev extreme : Shows
extreme = row (minus 19_999) (pos 99_999) false true true

-- a setpoint: a number of the display range
abbrev setpoint : Shows
setpoint = row (minus 19_999) (pos 99_999) false false true

-- the analog code, 0 to 4,095, and the status number, 0 to 31, both with no places
abbrev code : Shows
code = row (pos 0) (pos 4_095) false false false

abbrev status : Shows
status = row (pos 0) (pos 31) false false false

-- INP, TOT, MAX, MIN, SP1 to SP4, AOR, CSR
abbrev pub shown : List Shows
shown = input ∷ total ∷ extreme ∷ extreme ∷ setpoint ∷ setpoint ∷ setpoint ∷ setpoint ∷ code ∷ status ∷ []

-- what stands past the list's end: no number lies within these limits
abbrev pub nothing : Shows
nothing = row (pos 1) (pos 0) false false false

unfoldable pub shows_at : ℕ → Shows
shows_at r = get_or shown r nothing

-- how many registers have lines that are read
abbrev pub read_count : ℕ
read_count = length shown
