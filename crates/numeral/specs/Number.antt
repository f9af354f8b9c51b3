-- A V number: an optional leading minus and then digits and points, at least one digit; points are ignored and the last five digits count.
-- Then the limits of the register hold, and the answer says whether they had to.
use Rattle.std.specs.Prelude.{ℕ, ◌+◌, ◌-◌, ◌*◌, Bool, true, false, cond, ◌&&◌, ◌||◌, List, [], ◌∷◌, Option, None, Some, eqb, ℤ, pos, neg_ℤ, length, drop}
use Rattle.exact.specs.Sign.{held_to, within as within_z}
use Rattle.register.specs.Bytes.{byte, within}
use Rattle.register.specs.declared.Limits.{Limits}
use Rattle.numeral.specs.declared.Number.{Number}
use Rattle.numeral.specs.declared.Number.TheVariants.{Is, Held, NoNumber}

abbrev pub is_digit : ℕ → Bool
is_digit b = within (byte "0") (byte "9") b

abbrev pub is_point : ℕ → Bool
is_point b = eqb b (byte ".")

-- digits and points, and nothing else
abbrev pub figures : List ℕ → Bool
figures [] = true
figures (b ∷ s) = (is_digit b || is_point b) && figures s

-- the digits of a string, in order, each as its number
abbrev pub keep : Bool → ℕ → List ℕ → List ℕ
keep true d ds = d ∷ ds
keep false d ds = ds

abbrev pub digits : List ℕ → List ℕ
digits [] = []
digits (b ∷ s) = keep (is_digit b) (b - byte "0") (digits s)

-- at least one
abbrev pub filled : List ℕ → Bool
filled [] = false
filled (d ∷ ds) = true

-- the number that digits say in base ten, behind what was read before them
abbrev pub onward : ℕ → List ℕ → ℕ
onward n [] = n
onward n (d ∷ ds) = onward (10 * n + d) ds

abbrev pub value : List ℕ → ℕ
value ds = onward 0 ds

-- the last k of a list, all of them where there are fewer
abbrev pub last : ℕ → List ℕ → List ℕ
last k ds = drop (length ds - k) ds

unfoldable pub amount : List ℕ → Option ℕ
amount s = cond (figures s && filled (digits s)) (Some (value (last 5 (digits s)))) None

-- z where it lies within the limits, else the limit nearest to it
abbrev pub held_by : Limits → ℤ → Number
held_by l z = cond (within_z l.low l.high z) (Is z) (Held (held_to l.low l.high z))

abbrev pub plus : Limits → Option ℕ → Number
plus l (Some n) = held_by l (pos n)
plus l None = NoNumber

abbrev pub minus : Limits → Option ℕ → Number
minus l (Some n) = held_by l (neg_ℤ (pos n))
minus l None = NoNumber

unfoldable pub number : Limits → List ℕ → Number
number l [] = NoNumber
number l (b ∷ s) = cond (eqb b (byte "-")) (minus l (amount s)) (plus l (amount (b ∷ s)))
