-- What a data field says, read back from its bytes.
use Rattle.std.specs.Prelude.{ℕ, ◌+◌, ◌-◌, ◌*◌, Bool, false, cond, ◌||◌, List, [], ◌∷◌, eqb, ℤ, pos, neg_ℤ, length}
use Rattle.reading.specs.declared.Reading.{Reading}
use Rattle.reading.specs.declared.Reading.TheVariants.{Nothing, Under, Number, Over}
use Rattle.register.specs.Bytes.{byte, within}

-- whether a byte stands in a text
unfoldable pub holds : ℕ → List ℕ → Bool
holds b [] = false
holds b (x ∷ text) = eqb b x || holds b text

-- whether a byte is a digit
abbrev pub is_digit : ℕ → Bool
is_digit b = within (byte "0") (byte "9") b

-- whether any digit stands in a text
unfoldable pub has_digit : List ℕ → Bool
has_digit [] = false
has_digit (x ∷ text) = is_digit x || has_digit text

-- n with the digits of a text behind its own; every other byte is passed over
unfoldable pub onward : ℕ → List ℕ → ℕ
onward n [] = n
onward n (x ∷ text) = onward (cond (is_digit x) (10 * n + (x - byte "0")) n) text

-- the number that a text's digits say, below zero where a minus stands in it
unfoldable pub value : List ℕ → ℤ
value text = cond (holds (byte "-") text) (neg_ℤ (pos (onward 0 text))) (pos (onward 0 text))

-- a number where any digit stands, else Over or Under by the mark's letter, else nothing
unfoldable pub read_back : List ℕ → Reading
read_back text = cond (has_digit text) (Number (value text)) (cond (holds (byte "O") text) Over (cond (holds (byte "U") text) Under Nothing))

-- how many bytes stand behind the first point of a text: a number's decimal places
unfoldable pub behind_point : List ℕ → ℕ
behind_point [] = 0
behind_point (x ∷ text) = cond (eqb (byte ".") x) (length text) (behind_point text)
