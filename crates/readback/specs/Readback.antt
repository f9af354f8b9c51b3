-- What the 12 data bytes of a reply line say, read from the left: a number with its decimal places, a mark, or neither. `Meaning` says what
-- that comes to: bytes are read exactly where the reply rules make them.
use Rattle.std.specs.Prelude.{ℕ, ◌+◌, ◌-◌, ◌*◌, ◌^◌, Option, Some, None, Bool, true, false, cond, ◌&&◌, List, [], ◌∷◌, eqb, ltb, pos}
use Rattle.exact.specs.Sign.{minus}
use Rattle.reading.specs.declared.Reading.{Reading}
use Rattle.reading.specs.declared.Reading.TheVariants as reading
use Rattle.register.specs.Bytes.{byte, ascii}
use Rattle.field.specs.Back.{is_digit}
use Rattle.readback.specs.declared.Data.{Data}
use Rattle.readback.specs.declared.Figure.{Figure}
use Rattle.readback.specs.declared.Figure.TheVariants as figure

-- ---- a number, byte by byte

-- a number with one digit more behind its own
abbrev pub onward : ℕ → ℕ → ℕ
onward n b = 10 * n + (b - byte "0")

-- behind spaces: another one, a minus or a digit; behind a minus a digit
abbrev pub front : Bool → ℕ → Figure
front negative b =
    cond (is_digit b) (figure.Whole negative (b - byte "0"))
    (cond negative figure.Not
    (cond (eqb b (byte " ")) (figure.Front false)
    (cond (eqb b (byte "-")) (figure.Front true)
    figure.Not)))

-- behind digits: another one, but not behind a zero in front, or a point. A tenth digit is never made
abbrev pub whole : Bool → ℕ → ℕ → Figure
whole negative n b =
    cond (is_digit b)
    (cond (ltb 0 n && ltb n (10 ^ 8)) (figure.Whole negative (onward n b)) figure.Not)
    (cond (eqb b (byte ".")) (figure.Fraction negative n 0) figure.Not)

-- behind a point: at most four digits
abbrev pub fraction : Bool → ℕ → ℕ → ℕ → Figure
fraction negative n places b =
    cond (is_digit b) (cond (ltb places 4 && ltb n (10 ^ 8)) (figure.Fraction negative (onward n b) (places + 1)) figure.Not) figure.Not

unfoldable pub step : Figure → ℕ → Figure
step (figure.Front negative) b = front negative b
step (figure.Whole negative n) b = whole negative n b
step (figure.Fraction negative n places) b = fraction negative n places b
step figure.Not b = figure.Not

-- a text behind what was made before it
unfoldable pub figure_from : Figure → List ℕ → Figure
figure_from f [] = f
figure_from f (b ∷ s) = figure_from (step f b) s

abbrev pub figure_of : List ℕ → Figure
figure_of s = figure_from (figure.Front false) s

-- how large the number is that is made
abbrev pub size : Figure → ℕ
size (figure.Front negative) = 0
size (figure.Whole negative n) = n
size (figure.Fraction negative n places) = n
size figure.Not = 0

-- what they say, where some value makes them
abbrev pub said : ℕ → Reading → Option Data
said places shown = Some (record { places = places; shown = shown })

-- no minus stands on zero
abbrev pub signed : Bool → ℕ → ℕ → Option Data
signed false n places = said places (reading.Number (pos n))
signed true n places = cond (eqb n 0) None (said places (reading.Number (minus n)))

-- a number is made where a digit stands last
unfoldable pub said_by : Figure → Option Data
said_by (figure.Front negative) = None
said_by (figure.Whole negative n) = signed negative n 0
said_by (figure.Fraction negative n places) = cond (eqb places 0) None (signed negative n places)
said_by figure.Not = None

-- ---- the data bytes

-- two texts are the same
unfoldable pub same : List ℕ → List ℕ → Bool
same [] [] = true
same [] (b ∷ t) = false
same (a ∷ s) [] = false
same (a ∷ s) (b ∷ t) = eqb a b && same s t

-- a mark, whose places are 0, or a number
unfoldable pub data_of : List ℕ → Option Data
data_of s =
    cond (same s (ascii "        OLOL")) (said 0 reading.Over)
    (cond (same s (ascii "        ULUL")) (said 0 reading.Under)
    (cond (same s (ascii "        ----")) (said 0 reading.Nothing)
    (said_by (figure_of s))))
