-- What a line of a recorded history says: its words, cut at each space, and what they are.
use Rattle.std.specs.Prelude.{ℕ, ◌+◌, ◌<◌, ◌≡◌, Bool, true, false, cond, not, ◌&&◌, List, [], ◌∷◌, ◌++◌, length, set, replicate, leb, eqb, ℤ, pos, Option, Some, None}
use Rattle.register.specs.Bytes.{ascii}
use Rattle.text.specs.Line.{Heard, bytes, long, has}
use Rattle.text.specs.Number.{natural_of, number_of, flag_of}
use Rattle.record.specs.declared.Event.{Event}
use Rattle.record.specs.declared.Event.TheVariants.{Configuration, Sample, Key, Byte}

-- ---- words

-- one byte more at the front of a line's first word
abbrev pub grown : ℕ → List (List ℕ) → List (List ℕ)
grown b [] = (b ∷ []) ∷ []
grown b (w ∷ ws) = (b ∷ w) ∷ ws

-- one byte more at the front of a line: a space stands before a word, any other byte is part of the first
abbrev pub led : Bool → ℕ → List (List ℕ) → List (List ℕ)
led true b ws = [] ∷ ws
led false b ws = grown b ws

-- the words of a line, cut at each space; two spaces have a word of no bytes between them
unfoldable pub words : List ℕ → List (List ℕ)
words [] = [] ∷ []
words (b ∷ s) = led (eqb b 32) b (words s)

-- words with one space between two of them
unfoldable pub joined : List (List ℕ) → List ℕ
joined [] = []
joined (w ∷ []) = w
joined (w ∷ v ∷ ws) = w ++ (32 ∷ joined (v ∷ ws))

-- no word has a space in it
unfoldable pub spaceless : List (List ℕ) → Bool
spaceless [] = true
spaceless (w ∷ ws) = not (has 32 w) && spaceless ws

-- what it is to be the words of a line
pub record Words (s : List ℕ) (ws : List (List ℕ)) : Type 0 where
  pub some : 0 < length ws
  pub plain : spaceless ws ≡ true
  pub text : joined ws ≡ s

-- two words are the same
unfoldable pub same : List ℕ → List ℕ → Bool
same [] [] = true
same [] (b ∷ v) = false
same (a ∷ w) [] = false
same (a ∷ w) (b ∷ v) = eqb a b && same w v

-- ---- S, K and B

-- `S n`: a signed number of 32 bits
abbrev pub sample_of : Option ℤ → Option Event
sample_of (Some n) = Some (Sample n)
sample_of None = None

-- `K n place`: a place is an unsigned number of 64 bits
abbrev pub key_of : Option ℤ → Option ℕ → Option Event
key_of (Some n) (Some place) = Some (Key n place)
key_of (Some n) None = None
key_of None place = None

-- `B byte place`
abbrev pub byte_of : Option ℕ → Option ℕ → Option Event
byte_of (Some b) (Some place) = cond (leb b 255) (Some (Byte b place)) None
byte_of (Some b) None = None
byte_of None place = None

-- a place has at most 20 digits, a byte at most 3
abbrev pub place_of : List ℕ → Option ℕ
place_of w = natural_of 20 w

-- one word, or two, and no other number of them
unfoldable pub one_word : (List ℕ → Option Event) → List (List ℕ) → Option Event
one_word f [] = None
one_word f (a ∷ []) = f a
one_word f (a ∷ b ∷ ws) = None

unfoldable pub two_words : (List ℕ → List ℕ → Option Event) → List (List ℕ) → Option Event
two_words f [] = None
two_words f (a ∷ []) = None
two_words f (a ∷ b ∷ []) = f a b
two_words f (a ∷ b ∷ c ∷ ws) = None

abbrev pub sample_said : List (List ℕ) → Option Event
sample_said ws = one_word (λ (n : List ℕ). sample_of (number_of n)) ws

abbrev pub key_said : List (List ℕ) → Option Event
key_said ws = two_words (λ (n place : List ℕ). key_of (number_of n) (place_of place)) ws

abbrev pub byte_said : List (List ℕ) → Option Event
byte_said ws = two_words (λ (b place : List ℕ). byte_of (natural_of 3 b) (place_of place)) ws

-- ---- CFG

-- how many words a configuration has
abbrev pub word_count : ℕ
word_count = 74

-- the place of the last, the sensor, which may be left out: a line without it has so many
abbrev pub sensor_at : ℕ
sensor_at = 73

-- an alarm's six words: setpoint, hysteresis, on, off are numbers, low and latched a yes or no
abbrev pub alarm_kinds : List Bool
alarm_kinds = false ∷ false ∷ false ∷ false ∷ true ∷ true ∷ []

-- which of them are a yes or no: node, places, rounding, points, factor, base and low cut are none; four alarms; capture and
-- analog are none; batch, abbreviated, the four of a print and the sensor are
unfoldable pub kinds : List Bool
kinds =
    replicate 40 false ++ (alarm_kinds ++ (alarm_kinds ++ (alarm_kinds ++ (alarm_kinds ++ (replicate 3 false ++ replicate 7 true)))))

-- a yes is 1, a no is 0
abbrev pub as_number : Option Bool → Option ℤ
as_number (Some true) = Some (pos 1)
as_number (Some false) = Some (pos 0)
as_number None = None

abbrev pub setting_of : Bool → List ℕ → Option ℤ
setting_of true w = as_number (flag_of w)
setting_of false w = number_of w

abbrev pub onto : Option ℤ → List ℤ → List ℤ
onto (Some v) l = v ∷ l
onto None l = []

-- the settings that words are, up to the first that is none
unfoldable pub settings_of : List Bool → List (List ℕ) → List ℤ
settings_of [] ws = []
settings_of (k ∷ ks) [] = []
settings_of (k ∷ ks) (w ∷ ws) = onto (setting_of k w) (settings_of ks ws)

-- what so many words leave out: a line without the sensor says what it says with a 0 there, so that a file from before there was one
-- means what it meant
abbrev pub left_out : ℕ → List (List ℕ)
left_out n = cond (eqb n sensor_at) (ascii "0" ∷ []) []

abbrev pub completed : List (List ℕ) → List (List ℕ)
completed ws = ws ++ left_out (length ws)

abbrev pub configuration_read : List (List ℕ) → List ℤ
configuration_read ws = settings_of kinds (completed ws)

-- as many words, each of them a setting
unfoldable pub configuration_said : List (List ℕ) → Option Event
configuration_said ws = cond (eqb (length (completed ws)) word_count && eqb (length (configuration_read ws)) word_count) (Some Configuration) None

-- ---- a line

-- the first word says which line it is: S, K, B
unfoldable pub short_said : List ℕ → List (List ℕ) → Option Event
short_said k ws =
    cond (same k (ascii "S")) (sample_said ws) (cond (same k (ascii "K")) (key_said ws) (cond (same k (ascii "B")) (byte_said ws) None))

abbrev pub short_by : List (List ℕ) → Option Event
short_by [] = None
short_by (k ∷ ws) = short_said k ws

-- or CFG; any other line is bad
abbrev pub is_cfg : List ℕ → Bool
is_cfg k = same k (ascii "CFG")

abbrev pub said_by : List (List ℕ) → Option Event
said_by [] = None
said_by (k ∷ ws) = cond (is_cfg k) (configuration_said ws) (short_said k ws)

unfoldable pub event_of : List ℕ → Option Event
event_of l = said_by (words l)

-- the settings of a line: none, where it is no `CFG`
abbrev pub read_by : List (List ℕ) → List ℤ
read_by [] = []
read_by (k ∷ ws) = cond (is_cfg k) (configuration_read ws) []

unfoldable pub read_of : List ℕ → List ℤ
read_of l = read_by (words l)

-- settings that are read take the places from i on
unfoldable pub stored : ℕ → List ℤ → List ℤ → List ℤ
stored i old [] = old
stored i old (v ∷ read) = stored (i + 1) (set old i v) read

-- a line that is too long is bad
unfoldable pub event_heard : Heard → Option Event
event_heard (bytes l) = event_of l
event_heard long = None

unfoldable pub read_heard : Heard → List ℤ
read_heard (bytes l) = read_of l
read_heard long = []
