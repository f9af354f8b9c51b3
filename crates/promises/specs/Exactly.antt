-- The table of answers read backwards: the conditions of its rows cover every call and exclude each other, so an answer comes exactly
-- where a row of its number says.
use Rattle.std.specs.Prelude.{◌≡◌, true, false, List, ◌≢◌, ◌↔◌, ℕ, ◌≤◌, ℤ, pos}
use Rattle.config.specs.Config.{judged}
use Rattle.config.specs.declared.Config.{Config}
use Rattle.config.specs.Verdict.{Accepted, Broken}
use Rattle.receiver.specs.Receiver as receivers
use Rattle.receiver.specs.Receiver.{kind, heard}
use Rattle.receiver.specs.declared.Kind.TheVariants.{End, Drop, Part}
use Rattle.command.specs.declared.Asked.TheVariants.{Read, Print, Reset, Write, Status}
use Rattle.form.specs.Grammar.{For, Says, NoDigit}
use Rattle.form.specs.Understood.{Silent}
use Rattle.instrument.specs.Instrument.{shut}
use Rattle.meter.specs.Door.{started, sound, reach_of, door}
use Rattle.meter.specs.declared.Meter.{Meter}
use Rattle.promises.specs.Calls.{Call, power_up, sample, key, byte, answered}
use Rattle.promises.specs.Rows.{Ends, node_of, Room, Cramped, line_of, block_of}

-- ---- what is given, and the number of the row that names it

pub data OfConfig (c : Config) : ℕ → Type 0 where
  accepted : judged c ≡ Accepted → OfConfig c 0
  refused : (rule : ℕ) → judged c ≡ Broken rule → OfConfig c 11

pub data OfSample (m : Meter) : ℕ → Type 0 where
  not_sampled : sound m ≡ false → OfSample m 12
  sampled : sound m ≡ true → OfSample m 0

pub data OfKey (m : Meter) (buffer : List ℕ) (place : ℕ) : ℤ → ℕ → Type 0 where
  not_pressed : (k : ℤ) → sound m ≡ false → OfKey m buffer place k 12
  batch : sound m ≡ true → m.config.working.totalizer.batch ≡ true → OfKey m buffer place (pos 1) 0
  no_batch : sound m ≡ true → m.config.working.totalizer.batch ≡ false → OfKey m buffer place (pos 1) 10
  total_key : sound m ≡ true → OfKey m buffer place (pos 2) 0
  max_key : sound m ≡ true → OfKey m buffer place (pos 3) 0
  min_key : sound m ≡ true → OfKey m buffer place (pos 4) 0
  alarms_key : sound m ≡ true → OfKey m buffer place (pos 5) 0
  print_key : sound m ≡ true → Room (block_of m) buffer place → OfKey m buffer place (pos 6) 2
  cramped_key : sound m ≡ true → Cramped (block_of m) buffer place → OfKey m buffer place (pos 6) 9
  unknown : (k : ℤ) → sound m ≡ true → ((n : ℕ) → 1 ≤ n → n ≤ 6 → k ≢ pos n) → OfKey m buffer place k 10

-- a string's end is judged in the order 6, address, 4, 8, 9: a condition names none of those behind it, so it holds whatever they say
pub data OfByte (m : Meter) (b : ℕ) (buffer : List ℕ) (place : ℕ) : ℕ → Type 0 where
  not_received : door (reach_of (kind b)) m ≡ false → OfByte m b buffer place 12
  stored : started m ≡ true → kind b ≡ Part → OfByte m b buffer place 1
  dropped : started m ≡ true → kind b ≡ Drop → OfByte m b buffer place 5
  too_long : sound m ≡ true → kind b ≡ End → heard m.receiver ≡ receivers.too_long → OfByte m b buffer place 6
  -- the address: N has no digit, or another node's
  no_digit : (s : List ℕ) → Ends m b s → NoDigit s → OfByte m b buffer place 4
  other_node : (s : List ℕ) (n : ℕ) → Ends m b s → For s n → n ≢ node_of m → OfByte m b buffer place 3
  -- the string is for this node, and asks nothing of it
  bad_form : (s : List ℕ) → Ends m b s → For s (node_of m) → Silent s (node_of m) → OfByte m b buffer place 4
  -- V of a number, which says the number that is written, held to its limits or not: whether its register is shut
  in_automatic : (s : List ℕ) (r : ℕ) (z : ℤ) → Ends m b s → Says s (node_of m) (Write r z) → shut m.instrument.outputs.mode r ≡ true → OfByte m b buffer place 8
  written : (s : List ℕ) (r : ℕ) (z : ℤ) → Ends m b s → Says s (node_of m) (Write r z) → shut m.instrument.outputs.mode r ≡ false → OfByte m b buffer place 0
  status : (s : List ℕ) (v : ℕ) → Ends m b s → Says s (node_of m) (Status v) → OfByte m b buffer place 0
  -- R
  reset : (s : List ℕ) (r : ℕ) → Ends m b s → Says s (node_of m) (Reset r) → OfByte m b buffer place 0
  -- T and P: whether the reply has room
  read : (s : List ℕ) (r : ℕ) → Ends m b s → Says s (node_of m) (Read r) → Room (line_of m r) buffer place → OfByte m b buffer place 2
  read_cramped : (s : List ℕ) (r : ℕ) → Ends m b s → Says s (node_of m) (Read r) → Cramped (line_of m r) buffer place → OfByte m b buffer place 9
  print : (s : List ℕ) → Ends m b s → Says s (node_of m) Print → Room (block_of m) buffer place → OfByte m b buffer place 2
  print_cramped : (s : List ℕ) → Ends m b s → Says s (node_of m) Print → Cramped (block_of m) buffer place → OfByte m b buffer place 9

-- what is given with a call is what a row of number n names
abbrev pub Falls : Call → ℕ → Type 0
Falls (power_up c) n = OfConfig c n
Falls (sample m x) n = OfSample m n
Falls (key m k buffer place) n = OfKey m buffer place k n
Falls (byte m b buffer place) n = OfByte m b buffer place n

pub record Exactly : Type 0 where
  -- every call falls under a row,
  pub covers : (k : Call) → (n : ℕ) × Falls k n
  -- and under rows of one number alone
  pub only_one : (k : Call) (n p : ℕ) → Falls k n → Falls k p → n ≡ p
  -- a call is answered by a number exactly where it falls under a row of that number
  pub exactly : (k : Call) (n : ℕ) → (answered k ≡ n) ↔ Falls k n
