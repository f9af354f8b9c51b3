-- What the answers leave as it was.
use Rattle.std.specs.Prelude.{◌≡◌, true, List, [], ◌≢◌, ℕ, ◌+◌, ◌≤◌, ℤ, length, take, drop}
use Rattle.answer.specs.Answer.{number, value}
use Rattle.receiver.specs.Receiver.{bytes, heard, kind, next}
use Rattle.receiver.specs.declared.Kind.TheVariants.{Part}
use Rattle.meter.specs.Door.{reach_of, door}
use Rattle.meter.specs.Meter.{Step}
use Rattle.meter.specs.declared.Meter.{Meter}
use Rattle.promises.specs.Calls.{sample, key, byte, answered, left}

-- what a step does to the buffer that was lent with a place
pub record Buffer (lent : List ℕ) (place : ℕ) (s : Step) : Type 0 where
  -- only answer 2 touches it
  pub untouched : number s.outcome.answer ≢ 2 → s.buffer ≡ lent
  -- and then just the reply's bytes at the place, as many as the answer says: they lie within it,
  pub within : number s.outcome.answer ≡ 2 → place + value s.outcome.answer ≤ length lent
  -- and what stands before the place and behind the reply is as it was
  pub before : take place s.buffer ≡ take place lent
  pub behind : drop (place + value s.outcome.answer) s.buffer ≡ drop (place + value s.outcome.answer) lent
  pub as_long : length s.buffer ≡ length lent

-- a meter n that is m but for its receiver, which is empty
pub record Emptied (m n : Meter) : Type 0 where
  pub config : n.config ≡ m.config
  pub instrument : n.instrument ≡ m.instrument
  pub receiver : heard n.receiver ≡ bytes []

pub record Leaves (m : Meter) : Type 0 where
  -- a refused string, 3 to 9, empties the receiver and changes nothing else
  pub refused : (b : ℕ) (buffer : List ℕ) (place : ℕ) → 3 ≤ answered (byte m b buffer place) → answered (byte m b buffer place) ≤ 9
      → Emptied m (left (byte m b buffer place))
  -- so does a reply
  pub replied : (b : ℕ) (buffer : List ℕ) (place : ℕ) → answered (byte m b buffer place) ≡ 2 → Emptied m (left (byte m b buffer place))
  -- a byte that is let in does to the receiver what one does to a receiver, whatever is answered
  pub hears : (b : ℕ) (buffer : List ℕ) (place : ℕ) → door (reach_of (kind b)) m ≡ true → (left (byte m b buffer place)).receiver ≡ next m.receiver b
  -- so any string's end empties the receiver, and so do CR and LF
  pub ended : (b : ℕ) (buffer : List ℕ) (place : ℕ) → door (reach_of (kind b)) m ≡ true → kind b ≢ Part → heard (left (byte m b buffer place)).receiver ≡ bytes []
  -- samples and keys leave a half received string as it is
  pub sample_half : (x : ℤ) → (left (sample m x)).receiver ≡ m.receiver
  pub key_half : (k : ℤ) (buffer : List ℕ) (place : ℕ) → (left (key m k buffer place)).receiver ≡ m.receiver
  -- a key that is answered by anything but 0 changes nothing at all: a print, with room or without, and an unknown key
  pub other_key : (k : ℤ) (buffer : List ℕ) (place : ℕ) → answered (key m k buffer place) ≢ 0 → left (key m k buffer place) ≡ m
  -- no event changes the configuration
  pub sample_config : (x : ℤ) → (left (sample m x)).config ≡ m.config
  pub key_config : (k : ℤ) (buffer : List ℕ) (place : ℕ) → (left (key m k buffer place)).config ≡ m.config
  pub byte_config : (b : ℕ) (buffer : List ℕ) (place : ℕ) → (left (byte m b buffer place)).config ≡ m.config
