-- The reader: what bytes are taken for, where a full line, an abbreviated one or a block is expected. `Made` says which bytes the reply
-- rules make, and `Meaning` that these are the ones which are taken.
use Rattle.std.specs.Prelude.{ℕ, zero, suc, ◌+◌, ◌-◌, ◌*◌, Option, Some, None, Result, Ok, Err, Bool, true, false, cond, not, ◌&&◌, ◌||◌, List, [], ◌∷◌, ◌++◌, eqb, leb, ltb, length, take, drop, get_or, replicate}
use Rattle.reading.specs.declared.Reading.{Reading}
use Rattle.reading.specs.declared.Reading.TheVariants as reading
use Rattle.register.specs.Bytes.{byte}
use Rattle.register.specs.Registers.{entry, at}
use Rattle.register.specs.Shows.{read_count}
use Rattle.field.specs.Back.{is_digit}
use Rattle.readback.specs.Readback.{data_of}
use Rattle.readback.specs.declared.Data.{Data}
use Rattle.collected.specs.Shows.{can_show, any_shows}
use Rattle.collected.specs.declared.Kind.{Kind}
use Rattle.collected.specs.declared.Kind.TheVariants as kind
use Rattle.collected.specs.declared.Origin.{Origin}
use Rattle.collected.specs.declared.Line.{Line}
use Rattle.collected.specs.declared.Refusal.{Refusal}
use Rattle.collected.specs.declared.Refusal.TheVariants as refusal
use Rattle.collected.specs.declared.Earlier.{Earlier}
use Rattle.collected.specs.declared.Answer.{Answer}

-- ---- the numbers of document 02

abbrev pub refusal_number : Refusal → ℕ
refusal_number refusal.NoEnd = 20
refusal_number refusal.Length = 21
refusal_number refusal.Mnemonic = 22
refusal_number refusal.NodeOrData = 23
refusal_number refusal.Missing = 24

-- ---- where a line ends

-- how many bytes stand before the first CR LF, all of them where there is none
unfoldable pub ending : List ℕ → ℕ
ending [] = 0
ending (b ∷ s) = cond (eqb b 13 && eqb (get_or s 0 0) 10) 0 (suc (ending s))

abbrev pub has_end : List ℕ → Bool
has_end s = ltb (ending s) (length s)

-- ---- the parts of a full line: two bytes of node and a space, three of mnemonic, twelve of data

-- the node: two digits, not both 0, or two spaces for node 0
unfoldable pub node_of : List ℕ → Option ℕ
node_of s =
    cond (not (eqb (get_or s 2 0) (byte " "))) None
    (cond (eqb (get_or s 0 0) (byte " ") && eqb (get_or s 1 0) (byte " ")) (Some 0)
    (cond (is_digit (get_or s 0 0) && is_digit (get_or s 1 0)) (named (10 * (get_or s 0 0 - byte "0") + (get_or s 1 0 - byte "0"))) None))
  where
    named : ℕ → Option ℕ
    named n = cond (eqb n 0) None (Some n)

-- the bytes 3 to 5 are the mnemonic of a register
unfoldable pub spells : ℕ → List ℕ → Bool
spells register s =
    eqb (get_or s 3 0) (get_or (entry register).mnemonic 0 0)
    && (eqb (get_or s 4 0) (get_or (entry register).mnemonic 1 0)
    && eqb (get_or s 5 0) (get_or (entry register).mnemonic 2 0))

-- the first register from one on whose mnemonic it is
unfoldable pub register_from : (left register : ℕ) → List ℕ → ℕ
register_from zero register s = register
register_from (suc left) register s = cond (spells register s) register (register_from left (suc register) s)

-- of the ten, and past them where it is none's
abbrev pub register_of : List ℕ → ℕ
register_of s = register_from read_count 0 s

abbrev pub data_in : List ℕ → Option Data
data_in s = data_of (take 12 (drop 6 s))

-- ---- what fits the earlier lines

-- before any line
abbrev pub begun : Earlier
begun = record { next = 0; node = None; places = None }

-- a number that is known is met again
abbrev pub meets : Option ℕ → ℕ → Bool
meets (Some n) m = eqb n m
meets None m = true

-- a number that is shown with the places of the input; the total has its own, and a mark none
abbrev pub of_input : ℕ → Reading → Bool
of_input register reading.Nothing = false
of_input register reading.Under = false
of_input register (reading.Number z) = not (eqb register (at "B"))
of_input register reading.Over = false

-- one node, and one number of input places
unfoldable pub fits : Earlier → ℕ → ℕ → ℕ → Reading → Bool
fits e node register places x = meets e.node node && (not (of_input register x) || meets e.places places)

-- what is known behind a line
unfoldable pub after : Earlier → ℕ → ℕ → ℕ → Reading → Earlier
after e node register places x =
    record { next = suc register; node = Some node; places = cond (of_input register x) (Some places) e.places }

-- ---- a line

abbrev pub line_from : ℕ → ℕ → ℕ → Reading → Line
line_from node register places x = record { origin = Some (record { node = node; register = register }); places = places; shown = x }

-- node and data of a line whose register is known: 23 where they are bad, or fit no choice after the earlier lines
abbrev pub line_with : Earlier → ℕ → Option ℕ → Option Data → Result Line Refusal
line_with e register (Some node) (Some x) =
    cond (can_show register x.places x.shown && fits e node register x.places x.shown) (Ok (line_from node register x.places x.shown)) (Err refusal.NodeOrData)
line_with e register (Some node) None = Err refusal.NodeOrData
line_with e register None d = Err refusal.NodeOrData

-- a full line: 20 no line end; 21 not 20 bytes, or bytes left over; 22 unknown mnemonic; 23 bad node or data
unfoldable pub full_of : List ℕ → Result Line Refusal
full_of s =
    cond (not (has_end s)) (Err refusal.NoEnd)
    (cond (not (eqb (ending s) 18) || not (eqb (length s) 20)) (Err refusal.Length)
    (cond (not (ltb (register_of s) read_count)) (Err refusal.Mnemonic)
    (line_with begun (register_of s) (node_of s) (data_in s))))

-- an abbreviated one is its data alone, which any register may show
abbrev pub data_with : Option Data → Result Line Refusal
data_with (Some x) = cond (any_shows x.places x.shown) (Ok (record { origin = None; places = x.places; shown = x.shown })) (Err refusal.NodeOrData)
data_with None = Err refusal.NodeOrData

unfoldable pub abbreviated_of : List ℕ → Result Line Refusal
abbreviated_of s =
    cond (not (has_end s)) (Err refusal.NoEnd)
    (cond (not (eqb (ending s) 12) || not (eqb (length s) 14)) (Err refusal.Length)
    (data_with (data_of (take 12 s))))

-- ---- a block

-- whether a register stands first among those of its option: MIN comes with MAX, SP2 to SP4 with SP1
abbrev pub opens : ℕ → Bool
opens r = not (eqb r (at "D") || (eqb r (at "F") || (eqb r (at "G") || eqb r (at "H"))))

-- whether a register can come where those before a place are done with: the one there, and where an option begins there also the first
-- one of any later option
unfoldable pub can_come : ℕ → ℕ → Bool
can_come next r = leb r (at "H") && cond (opens next) (leb next r && opens r) (eqb r next)

-- whether a choice ends there: some line came, and the lines of its option all did
unfoldable pub can_end : ℕ → Bool
can_end next = ltb 0 next && opens next

-- space, CR, LF and nothing behind
unfoldable pub is_block_end : List ℕ → Bool
is_block_end s = eqb (length s) 3 && (eqb (get_or s 0 0) (byte " ") && (eqb (get_or s 1 0) 13 && eqb (get_or s 2 0) 10))

-- a line behind earlier ones: 24 no bytes; 20 no line end; 21 not 20 bytes, and so also an end that no choice has here or that bytes stand
-- behind; 22 a mnemonic that cannot come next; 23 bad node or data, or they fit no choice
unfoldable pub line_after : Earlier → List ℕ → Result Line Refusal
line_after e s =
    cond (eqb (length s) 0) (Err refusal.Missing)
    (cond (not (has_end s)) (Err refusal.NoEnd)
    (cond (not (eqb (ending s) 18)) (Err refusal.Length)
    (cond (not (can_come e.next (register_of s))) (Err refusal.Mnemonic)
    (line_with e (register_of s) (node_of s) (data_in s)))))

abbrev pub behind : Earlier → Line → Earlier
behind e x = behind_from x.origin
  where
    behind_from : Option Origin → Earlier
    behind_from (Some o) = after e o.node o.register x.places x.shown
    behind_from None = e

-- ---- answers

-- what stands behind the last line
abbrev pub no_line : Line
no_line = record { origin = None; places = 0; shown = reading.Nothing }

-- lines in the eight places that there are
abbrev pub placed : List Line → List Line
placed xs = xs ++ replicate (8 - length xs) no_line

unfoldable pub accepted : List Line → Answer
accepted xs = record { refusal = 0; count = length xs; lines = placed xs }

unfoldable pub refused : Refusal → Answer
refused why = record { refusal = refusal_number why; count = 0; lines = placed [] }

abbrev pub answer_to : Result Line Refusal → Answer
answer_to (Ok x) = accepted (x ∷ [])
answer_to (Err why) = refused why

-- a line more, or the refusal that it gives
abbrev pub going_on : Result Line Refusal → (Line → Answer) → Answer
going_on (Ok x) go = go x
going_on (Err why) go = refused why

-- what is left of a block behind the lines xs, of which so many may still come
unfoldable pub rest_of : (left : ℕ) → Earlier → List Line → List ℕ → Answer
rest_of zero e xs s = cond (is_block_end s && can_end e.next) (accepted xs) (refused refusal.Length)
rest_of (suc left) e xs s =
    cond (is_block_end s && can_end e.next) (accepted xs)
    (going_on (line_after e s) (λ (x : Line). rest_of left (behind e x) (xs ++ (x ∷ [])) (drop 20 s)))

-- the empty reply, or lines and the end
unfoldable pub block_of : List ℕ → Answer
block_of s = cond (eqb (length s) 0) (accepted []) (rest_of 9 begun [] s)

-- the reader, of any bytes
unfoldable pub read_of : Kind → List ℕ → Answer
read_of kind.Full s = answer_to (full_of s)
read_of kind.Abbreviated s = answer_to (abbreviated_of s)
read_of kind.Block s = block_of s
