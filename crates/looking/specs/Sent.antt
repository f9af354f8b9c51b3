-- Strings sent whole, what they ask to see, and what a reply is.
use Rattle.std.specs.Prelude.{List, [], ◌∷◌, ◌++◌, ℕ, ◌+◌, ◌/◌, ◌%◌, take, drop}
use Rattle.config.specs.declared.Config.{Config}
use Rattle.register.specs.Bytes.{byte as char}
use Rattle.register.specs.Registers.{entry}
use Rattle.command.specs.declared.Asked.{Asked}
use Rattle.command.specs.declared.Asked.TheVariants.{Read, Print, Reset, Write, Status, BadForm}
use Rattle.form.specs.Grammar.{Says}
use Rattle.instrument.specs.declared.Instrument.{Instrument}
use Rattle.answer.specs.Answer.{value}
use Rattle.effect.specs.Reply.{read_reply, print_reply}
use Rattle.meter.specs.Meter.{Step}
use Rattle.looking.specs.History.{byte, History}

-- h and then the bytes s, each with the same place and buffer
abbrev pub sending : ℕ → List ℕ → List ℕ → History → History
sending place buffer [] h = h
sending place buffer (b ∷ s) h = sending place buffer s (byte b place buffer ∷ h)

-- `Sent h s g`: g is h and then the bytes s, each with a place and a buffer of its own
pub data Sent (h : History) : List ℕ → History → Type 0 where
  none : Sent h [] h
  more : {s : List ℕ} {g : History} (b place : ℕ) (buffer : List ℕ) → Sent h s g → Sent h (s ++ b ∷ []) (byte b place buffer ∷ g)

-- `Reads s n a`: s asks a of node n, and a is T of a register or P
pub data Reads : List ℕ → ℕ → Asked → Type 0 where
  read : {s : List ℕ} {n r : ℕ} → Says s n (Read r) → Reads s n (Read r)
  print : {s : List ℕ} {n : ℕ} → Says s n Print → Reads s n Print

-- N with the two digits of a node; T of a register and P, sent to it
abbrev pub to_node : ℕ → List ℕ
to_node n = char "N" ∷ (char "0" + n / 10) ∷ (char "0" + n % 10) ∷ []

abbrev pub t_string : ℕ → ℕ → List ℕ
t_string n r = to_node n ++ char "T" ∷ (entry r).letter ∷ []

abbrev pub p_string : ℕ → List ℕ
p_string n = to_node n ++ char "P" ∷ []

-- the bytes that T and P show of an instrument
abbrev pub reply_to : Config → Instrument → Asked → List ℕ
reply_to c i (Read r) = read_reply c.talking c.working i r
reply_to c i Print = print_reply c.talking c.working i
reply_to c i (Reset r) = []
reply_to c i (Write r z) = []
reply_to c i (Status b) = []
reply_to c i BadForm = []

-- the bytes that stand in the buffer from the place on, as many as the answer says
abbrev pub shown_by : Step → ℕ → List ℕ
shown_by o place = take (value o.outcome.answer) (drop place o.buffer)
