-- A history with looking put into it.
use Rattle.std.specs.Prelude.{◌≡◌, Bool, true, false, ◌||◌, List, [], ◌∷◌, ◌++◌, ◌≢◌, ℕ, ◌≤◌, eqb, ℤ, pos}
use Rattle.std.proofs.Math.Option.{Option, none, some}
use Rattle.config.specs.declared.Config.{Config}
use Rattle.register.specs.Registers.{at}
use Rattle.receiver.specs.Receiver.{ends, drops}
use Rattle.receiver.specs.Since.{ending}
use Rattle.command.specs.Addressed.{addressed}
use Rattle.command.specs.declared.Asked.{Asked}
use Rattle.command.specs.declared.Asked.TheVariants.{Write}
use Rattle.form.specs.Grammar.{Says}
use Rattle.alarms.specs.Alarms.{setpoint_of}
use Rattle.instrument.specs.Instrument.{alarm_of}
use Rattle.instrument.specs.declared.Instrument.{Instrument}
use Rattle.answer.specs.Answer.{number}
use Rattle.answer.specs.declared.Answer.{Answer}
use Rattle.looking.specs.History.{Event, sample, key, byte, History, outcome_of, meter_after, node_of, half}
use Rattle.looking.specs.Sent.{Reads}

-- the refusals: another node, bad form, too long, automatic mode, no room
abbrev pub refusal : Answer → Bool
refusal a = let n : ℕ = number a in eqb n 3 || eqb n 4 || eqb n 6 || eqb n 8 || eqb n 9

-- a string s, sent to a meter that holds the instrument i and answers its end so, that only looks, or is for another node, or is
-- refused; or one that writes a setpoint's present value, as it is or by a number that is held to it
pub data Idle (c : Config) (i : Instrument) (s : List ℕ) (answer : Answer) : Type 0 where
  read : (a : Asked) → Reads s (node_of c) a → Idle c i s answer
  other_node : (n : ℕ) → addressed s ≡ some n → n ≢ node_of c → Idle c i s answer
  refused : refusal answer ≡ true → Idle c i s answer
  rewrites : (r : ℕ) → at "E" ≤ r → r ≤ at "H" → Says s (node_of c) (Write r (setpoint_of i.alarms (alarm_of r))) → Idle c i s answer

-- `Inserted c h g going`: g is h with looking put into it. Between the strings so put in `going` is none; while one comes in it is
-- what has come of it
pub data Inserted (c : Config) : History → History → Option (List ℕ) → Type 0 where
  power_up : Inserted c [] [] none
  -- what happens in h happens in g
  event : {h g : History} (e : Event) → Inserted c h g none → Inserted c (e ∷ h) (e ∷ g) none
  -- key 6 at any point at all
  print_key : {h g : History} {going : Option (List ℕ)} (place : ℕ) (buffer : List ℕ) → Inserted c h g going
      → Inserted c h (key (pos 6) place buffer ∷ g) going
  -- a string begins where none is half received, and has its bytes; samples and keys of h may come between them
  begins : {h g : History} → half g ≡ [] → Inserted c h g none → Inserted c h g (some [])
  part : {h g : History} {s : List ℕ} (b place : ℕ) (buffer : List ℕ) → ending b ≡ false → Inserted c h g (some s)
      → Inserted c h (byte b place buffer ∷ g) (some (s ++ b ∷ []))
  sample_between : {h g : History} {s : List ℕ} (x : ℤ) → Inserted c h g (some s) → Inserted c (sample x ∷ h) (sample x ∷ g) (some s)
  key_between : {h g : History} {s : List ℕ} (k : ℤ) (place : ℕ) (buffer : List ℕ) → Inserted c h g (some s)
      → Inserted c (key k place buffer ∷ h) (key k place buffer ∷ g) (some s)
  -- it ends, and is idle there; or CR or LF drops it, as it does another meter's reply
  ended : {h g : History} {s : List ℕ} (b place : ℕ) (buffer : List ℕ) → ends b ≡ true
      → Idle c (meter_after c g).instrument s (outcome_of (meter_after c g) (byte b place buffer)).answer → Inserted c h g (some s) → Inserted c h (byte b place buffer ∷ g) none
  dropped : {h g : History} {s : List ℕ} (b place : ℕ) (buffer : List ℕ) → drops b ≡ true → Inserted c h g (some s)
      → Inserted c h (byte b place buffer ∷ g) none
