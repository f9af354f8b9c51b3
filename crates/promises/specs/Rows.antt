-- Document 01's table of answers, row by row: what is given, and what is then returned and left.
use Rattle.std.specs.Prelude.{◌≡◌, true, false, List, [], ◌∷◌, ◌++◌, ◌≢◌, ℕ, ◌+◌, ◌≤◌, ◌<◌, ℤ, pos, nat_abs, length}
use Rattle.register.specs.Registers.{at}
use Rattle.answer.specs.Answer as answers
use Rattle.config.specs.Config as configs
use Rattle.config.specs.declared.Config.{Config}
use Rattle.config.specs.Verdict.{Accepted, Broken}
use Rattle.receiver.specs.Receiver as receivers
use Rattle.receiver.specs.Receiver.{Heard, bytes, too_long, limit}
use Rattle.receiver.specs.declared.Kind.TheVariants.{End, Drop, Part}
use Rattle.command.specs.declared.Asked.TheVariants.{Read, Print, Reset, Write, Status}
use Rattle.form.specs.Grammar.{For, Says, NoDigit}
use Rattle.form.specs.Understood.{Silent}
use Rattle.line.specs.Buffer.{laid}
use Rattle.instrument.specs.Instrument as instruments
use Rattle.instrument.specs.Instrument.{shut}
use Rattle.instrument.specs.declared.Instrument.{Instrument}
use Rattle.effect.specs.Reply.{read_reply, print_reply}
use Rattle.meter.specs.Door.{started, sound, reach_of, door}
use Rattle.meter.specs.Meter.{fresh, not_started, with_instrument, with_receiver, takes, measured}
use Rattle.meter.specs.declared.Meter.{Meter}
use Rattle.promises.specs.Calls.{Call, power_up, sample, key, byte, result, left}

-- ---- what is returned and left: the answer's number and the number that it carries, the meter, and every byte of the buffer

pub record Gives (k : Call) (n carried : ℕ) (m : Meter) (buffer : List ℕ) : Type 0 where
  pub number : answers.number (result k).outcome.answer ≡ n
  pub value : answers.value (result k).outcome.answer ≡ carried
  pub meter : (result k).outcome.meter ≡ m
  pub bytes : (result k).buffer ≡ buffer

-- ---- what is given

-- `*` or `$` comes to a started meter and ends the string s
pub record Ends (m : Meter) (b : ℕ) (s : List ℕ) : Type 0 where
  pub started : sound m ≡ true
  pub ends : receivers.kind b ≡ End
  pub string : receivers.heard m.receiver ≡ bytes s

-- a byte that is part of a string comes to a started meter, which has heard h so far and has the 32 places of its receiver
pub record GoesOn (m : Meter) (b : ℕ) (h : Heard) : Type 0 where
  pub ready : started m ≡ true
  pub part : receivers.kind b ≡ Part
  pub places : length m.receiver.bytes ≡ limit
  pub so_far : receivers.heard m.receiver ≡ h

-- this meter's node, as strings name it
abbrev pub node_of : Meter → ℕ
node_of m = nat_abs m.config.talking.node

-- a reply has room in the buffer from the place on
abbrev pub Room : List ℕ → List ℕ → ℕ → Type 0
Room reply buffer place = place + length reply ≤ length buffer

abbrev pub Cramped : List ℕ → List ℕ → ℕ → Type 0
Cramped reply buffer place = length buffer < place + length reply

-- what T of a register shows, and what P and key 6 show
abbrev pub line_of : Meter → ℕ → List ℕ
line_of m r = read_reply m.config.talking m.config.working m.instrument r

abbrev pub block_of : Meter → List ℕ
block_of m = print_reply m.config.talking m.config.working m.instrument

-- the meter with nothing in its receiver
abbrev pub emptied : Meter → Meter
emptied m = with_receiver m (receivers.emptied m.receiver)

-- the meter that a string leaves which changes the instrument: its receiver is emptied
abbrev pub changed : Meter → Instrument → Meter
changed m i = with_instrument (emptied m) i

-- R of a register
abbrev pub reset_by : Meter → ℕ → Instrument
reset_by m r = instruments.reset_register m.config.working m.instrument r

-- ---- the rows

module _ (m : Meter) (buffer : List ℕ) (place : ℕ) where
  -- 0: a sample, a key or a V or R string is carried out
  pub record Row0 : Type 0 where
    pub sampled : (x : ℤ) → sound m ≡ true → Gives (sample m x) 0 0 (with_instrument m (measured m x)) []
    pub batch : sound m ≡ true → m.config.working.totalizer.batch ≡ true
        → Gives (key m (pos 1) buffer place) 0 0 (with_instrument m (instruments.batched m.config.working m.instrument)) buffer
    -- keys 2, 3 and 4 act as RB, RC and RD do, and key 5 resets all alarms
    pub total_key : sound m ≡ true → Gives (key m (pos 2) buffer place) 0 0 (with_instrument m (reset_by m (at "B"))) buffer
    pub max_key : sound m ≡ true → Gives (key m (pos 3) buffer place) 0 0 (with_instrument m (reset_by m (at "C"))) buffer
    pub min_key : sound m ≡ true → Gives (key m (pos 4) buffer place) 0 0 (with_instrument m (reset_by m (at "D"))) buffer
    pub alarms_key : sound m ≡ true → Gives (key m (pos 5) buffer place) 0 0 (with_instrument m (instruments.reset_alarms m.config.working m.instrument)) buffer
    pub reset : (b r : ℕ) (s : List ℕ) → Ends m b s → Says s (node_of m) (Reset r)
        → Gives (byte m b buffer place) 0 0 (changed m (reset_by m r)) buffer
    -- z is what is written: the number that stands there, or the limit that it is held to
    pub write : (b r : ℕ) (z : ℤ) (s : List ℕ) → Ends m b s → Says s (node_of m) (Write r z) → shut m.instrument.outputs.mode r ≡ false
        → Gives (byte m b buffer place) 0 0 (changed m (instruments.write_register m.config.working m.instrument r z)) buffer
    pub status : (b v : ℕ) (s : List ℕ) → Ends m b s → Says s (node_of m) (Status v)
        → Gives (byte m b buffer place) 0 0 (changed m (instruments.write_status m.config.working m.instrument v)) buffer

  -- 1: a byte is stored, or passed over where the string is already too long; only the receiver changes
  pub record Row1 : Type 0 where
    pub stored : (b : ℕ) → started m ≡ true → receivers.kind b ≡ Part
        → Gives (byte m b buffer place) 1 0 (takes m b) buffer
    -- what is stored is the byte, behind those of the string so far
    pub heard : (b : ℕ) (s : List ℕ) → GoesOn m b (bytes s) → length s < limit → receivers.heard (left (byte m b buffer place)).receiver ≡ bytes (s ++ b ∷ [])
    -- the 33rd makes the string too long, and every further one leaves it so
    pub full : (b : ℕ) (s : List ℕ) → GoesOn m b (bytes s) → limit ≤ length s → receivers.heard (left (byte m b buffer place)).receiver ≡ too_long
    pub passed_over : (b : ℕ) → GoesOn m b too_long → receivers.heard (left (byte m b buffer place)).receiver ≡ too_long

  -- 2: a reply is written, and just its bytes
  pub record Row2 : Type 0 where
    pub read : (b r : ℕ) (s : List ℕ) → Ends m b s → Says s (node_of m) (Read r) → Room (line_of m r) buffer place
        → Gives (byte m b buffer place) 2 (length (line_of m r)) (emptied m) (laid buffer place (line_of m r))
    pub print : (b : ℕ) (s : List ℕ) → Ends m b s → Says s (node_of m) Print → Room (block_of m) buffer place
        → Gives (byte m b buffer place) 2 (length (block_of m)) (emptied m) (laid buffer place (block_of m))
    pub print_key : sound m ≡ true → Room (block_of m) buffer place
        → Gives (key m (pos 6) buffer place) 2 (length (block_of m)) m (laid buffer place (block_of m))

  -- 3: a string for another node, of good form or bad
  abbrev pub Row3 : Type 0
  Row3 = (b n : ℕ) (s : List ℕ) → Ends m b s → For s n → n ≢ node_of m → Gives (byte m b buffer place) 3 0 (emptied m) buffer

  -- 4: bad form. N has no digit, or the string is for this node and asks nothing of it
  pub record Row4 : Type 0 where
    pub no_digit : (b : ℕ) (s : List ℕ) → Ends m b s → NoDigit s → Gives (byte m b buffer place) 4 0 (emptied m) buffer
    pub bad_form : (b : ℕ) (s : List ℕ) → Ends m b s → For s (node_of m) → Silent s (node_of m) → Gives (byte m b buffer place) 4 0 (emptied m) buffer

  -- 5: CR or LF, whether or not anything was waiting
  abbrev pub Row5 : Type 0
  Row5 = (b : ℕ) → started m ≡ true → receivers.kind b ≡ Drop → Gives (byte m b buffer place) 5 0 (emptied m) buffer

  -- 6: the string has more than 32 bytes before its end
  abbrev pub Row6 : Type 0
  Row6 =
      (b : ℕ) → sound m ≡ true → receivers.kind b ≡ End → receivers.heard m.receiver ≡ too_long
      → Gives (byte m b buffer place) 6 0 (emptied m) buffer

  -- 8: the analog register is written in automatic mode, whatever the number
  abbrev pub Row8 : Type 0
  Row8 =
      (b r : ℕ) (z : ℤ) (s : List ℕ) → Ends m b s → Says s (node_of m) (Write r z) → shut m.instrument.outputs.mode r ≡ true
      → Gives (byte m b buffer place) 8 0 (emptied m) buffer

  -- 9: the reply has no room. The receiver is emptied where a string asked for it; the buffer is as it was
  pub record Row9 : Type 0 where
    pub read : (b r : ℕ) (s : List ℕ) → Ends m b s → Says s (node_of m) (Read r) → Cramped (line_of m r) buffer place
        → Gives (byte m b buffer place) 9 0 (emptied m) buffer
    pub print : (b : ℕ) (s : List ℕ) → Ends m b s → Says s (node_of m) Print → Cramped (block_of m) buffer place
        → Gives (byte m b buffer place) 9 0 (emptied m) buffer
    pub print_key : sound m ≡ true → Cramped (block_of m) buffer place → Gives (key m (pos 6) buffer place) 9 0 m buffer

  -- 10: a key that is none of 1 to 6, or key 1 in a meter not set for batch; nothing changes
  pub record Row10 : Type 0 where
    pub unknown : (k : ℤ) → sound m ≡ true → ((n : ℕ) → 1 ≤ n → n ≤ 6 → k ≢ pos n) → Gives (key m k buffer place) 10 0 m buffer
    pub no_batch : sound m ≡ true → m.config.working.totalizer.batch ≡ false → Gives (key m (pos 1) buffer place) 10 0 m buffer

  -- 12: any event to a meter not started; nothing changes. A byte that only goes into the receiver asks no more than that it was started
  pub record Row12 : Type 0 where
    pub sampled : (x : ℤ) → sound m ≡ false → Gives (sample m x) 12 0 m []
    pub pressed : (k : ℤ) → sound m ≡ false → Gives (key m k buffer place) 12 0 m buffer
    pub received : (b : ℕ) → door (reach_of (receivers.kind b)) m ≡ false → Gives (byte m b buffer place) 12 0 m buffer

  pub record EventRows : Type 0 where
    pub row_0 : Row0
    pub row_1 : Row1
    pub row_2 : Row2
    pub row_3 : Row3
    pub row_4 : Row4
    pub row_5 : Row5
    pub row_6 : Row6
    pub row_8 : Row8
    pub row_9 : Row9
    pub row_10 : Row10
    pub row_12 : Row12

-- power-up: 0 and a fresh meter where the configuration is accepted, 11 with the rule's number and a meter not started where it is refused
pub record PowerUpRows (c : Config) : Type 0 where
  pub row_0 : configs.judged c ≡ Accepted → Gives (power_up c) 0 0 (fresh c) []
  pub row_11 : (rule : ℕ) → configs.judged c ≡ Broken rule → Gives (power_up c) 11 rule not_started []
  pub not_started_is : started not_started ≡ false
