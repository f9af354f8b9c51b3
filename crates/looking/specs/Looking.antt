-- Demand 3: looking changes nothing. For one accepted configuration, sentence by sentence.
use Rattle.std.specs.Prelude.{◌≡◌, true, false, cond, List, [], ◌∷◌, ◌≢◌, ℕ, ◌≤◌, ◌<◌, pos, length}
use Rattle.std.proofs.Math.Option.{none, some}
use Rattle.total.specs.Total.{shown}
use Rattle.config.specs.declared.Config.{Config}
use Rattle.register.specs.Registers.{count}
use Rattle.receiver.specs.Receiver.{ends, drops, over}
use Rattle.receiver.specs.Since.{ending}
use Rattle.command.specs.Addressed.{addressed}
use Rattle.command.specs.declared.Asked.{Asked}
use Rattle.command.specs.declared.Asked.TheVariants.{Read, Print}
use Rattle.alarms.specs.Alarms.{alarm_at}
use Rattle.outputs.specs.declared.Mode.{Mode}
use Rattle.outputs.specs.declared.Mode.TheVariants.{Automatic, Manual}
use Rattle.instrument.specs.declared.Instrument.{Instrument}
use Rattle.effect.specs.Reply.{print_reply}
use Rattle.answer.specs.Answer.{number}
use Rattle.meter.specs.Meter.{Step, step, takes, received, keyed}
use Rattle.answer.specs.declared.Answer.TheVariants.{Stored, OtherNode, Dropped, TooLong}
use Rattle.looking.specs.History.{Event, sample, key, byte, History, outcome_of, meter_after, node_of, half}
use Rattle.promises.specs.Rows.{Room, emptied}
use Rattle.looking.specs.Kept.{Entry, measured, pressed, told, kept}
use Rattle.looking.specs.Given.{given}
use Rattle.looking.specs.Sent.{sending, Sent, Reads, t_string, p_string, reply_to, shown_by}
use Rattle.looking.specs.Inserted.{Inserted}
use Rattle.register.specs.Bytes.{byte as char}

-- the manual outputs, held as 0 in automatic mode
abbrev pub outputs_of : Mode → ℕ
outputs_of Automatic = 0
outputs_of (Manual outputs) = outputs

-- two instruments are the same in all that demand 3 names
pub record Alike (c : Config) (i j : Instrument) : Type 0 where
  pub reading : i.measured.reading ≡ j.measured.reading
  -- the total, and the sum that it is cut from, with its remainder
  pub total : shown c.working.totalizer i.measured.total ≡ shown c.working.totalizer j.measured.total
  pub sum : i.measured.total.sum ≡ j.measured.total.sum
  pub range : i.measured.total.range ≡ j.measured.total.range
  -- max and min, each with its run: how many readings it has, and the number that it remembers
  pub max : i.measured.max.kept ≡ j.measured.max.kept
  pub max_run : i.measured.max.run ≡ j.measured.max.run
  pub min : i.measured.min.kept ≡ j.measured.min.kept
  pub min_run : i.measured.min.run ≡ j.measured.min.run
  -- of each of the four alarms
  pub setpoint : (k : ℕ) → k < 4 → (alarm_at i.alarms k).setpoint ≡ (alarm_at j.alarms k).setpoint
  pub alarm_state : (k : ℕ) → k < 4 → (alarm_at i.alarms k).on ≡ (alarm_at j.alarms k).on
  pub delay_run : (k : ℕ) → k < 4 → (alarm_at i.alarms k).run ≡ (alarm_at j.alarms k).run
  pub analog_code : i.outputs.code ≡ j.outputs.code
  pub mode : i.outputs.mode ≡ j.outputs.mode
  pub manual_outputs : outputs_of i.outputs.mode ≡ outputs_of j.outputs.mode
  -- the number that is stored of the outputs that are driven
  pub status : i.outputs.status ≡ j.outputs.status

-- the kept list as a history of its own, with nothing lent: each string is sent byte by byte, and a star ends it
abbrev pub playing : Entry → History → History
playing (measured x) h = sample x ∷ h
playing (pressed k) h = key k 0 [] ∷ h
playing (told s) h = byte (char "*") 0 [] ∷ sending 0 [] s h

abbrev pub replay : List Entry → History
replay [] = []
replay (k ∷ ks) = playing k (replay ks)

-- two steps answer 2, and have put the same bytes from their places on
pub record SameReply (o₁ o₂ : Step) (place₁ place₂ : ℕ) : Type 0 where
  pub first : number o₁.outcome.answer ≡ 2
  pub second : number o₂.outcome.answer ≡ 2
  pub bytes : shown_by o₁ place₁ ≡ shown_by o₂ place₂

-- what can draw a reply: key 6, and the end of a string of at most 32 bytes that is T or P for this node
abbrev pub Draws : Config → History → Event → Type 0
Draws c h (sample x) = ⊥
Draws c h (key k place buffer) = k ≡ pos 6
Draws c h (byte b place buffer) = (ends b ≡ true) × (length (half h) ≤ 32) × ((a : Asked) × Reads (half h) (node_of c) a)

pub record Looking (c : Config) : Type 0 where
  -- 1. the instrument after a history is what the kept list gives by demand 2's definitions
  pub holds : (h : History) → (meter_after c h).instrument ≡ given c (kept c h)
  -- 2. so after two histories with equal kept lists all that demand 3 names is the same
  pub alike : (h₁ h₂ : History) → kept c h₁ ≡ kept c h₂ → Alike c (meter_after c h₁).instrument (meter_after c h₂).instrument
  -- 3. a fresh meter that gets the kept list and nothing else holds the same
  pub replayed : (h : History) → (meter_after c (replay (kept c h))).instrument ≡ (meter_after c h).instrument
  -- and keeps that list
  pub kept_again : (h : History) → kept c (replay (kept c h)) ≡ kept c h
  -- 4. T of each register and P are reads:
  pub t_reads : (r : ℕ) → r < count → Reads (t_string (node_of c) r) (node_of c) (Read r)
  pub p_reads : Reads (p_string (node_of c)) (node_of c) Print
  -- after two such histories, with no string half received, a read sent whole and with room gets the same bytes, whatever the buffers
  -- held and wherever their places were
  pub same_reply : (h₁ h₂ g₁ g₂ : History) (s : List ℕ) (a : Asked) (b₁ b₂ place₁ place₂ : ℕ) (buffer₁ buffer₂ : List ℕ)
      → kept c h₁ ≡ kept c h₂ → half h₁ ≡ [] → half h₂ ≡ []
      → Reads s (node_of c) a → Sent h₁ s g₁ → Sent h₂ s g₂ → ends b₁ ≡ true → ends b₂ ≡ true
      → Room (reply_to c (meter_after c h₁).instrument a) buffer₁ place₁ → Room (reply_to c (meter_after c h₂).instrument a) buffer₂ place₂
      → SameReply (received (meter_after c g₁) b₁ buffer₁ place₁) (received (meter_after c g₂) b₂ buffer₂ place₂) place₁ place₂
  -- and so does key 6, a string half received or not
  pub same_print : (h₁ h₂ : History) (place₁ place₂ : ℕ) (buffer₁ buffer₂ : List ℕ) → kept c h₁ ≡ kept c h₂
      → Room (print_reply c.talking c.working (meter_after c h₁).instrument) buffer₁ place₁ → Room (print_reply c.talking c.working (meter_after c h₂).instrument) buffer₂ place₂
      → SameReply (keyed (meter_after c h₁) (pos 6) buffer₁ place₁) (keyed (meter_after c h₂) (pos 6) buffer₂ place₂) place₁ place₂
  -- 5. a string for another node, of good form or bad, changes nothing but the receiver and draws no reply: not while it comes in, not
  -- where CR or LF drops it,
  pub coming_in : (h : History) (b place : ℕ) (buffer : List ℕ) → ending b ≡ false
      → received (meter_after c h) b buffer place ≡ step Stored (takes (meter_after c h) b) buffer
  pub dropping : (h : History) (b place : ℕ) (buffer : List ℕ) → drops b ≡ true → received (meter_after c h) b buffer place ≡ step Dropped (emptied (meter_after c h)) buffer
  -- and not where it ends
  pub other_node : (h : History) (n b place : ℕ) (buffer : List ℕ) → ends b ≡ true → addressed (half h) ≡ some n → n ≢ node_of c
      → received (meter_after c h) b buffer place ≡ step (cond (over (length (half h))) TooLong OtherNode) (emptied (meter_after c h)) buffer
  -- whatever draws a reply is key 6 or a read for this node
  pub only_ours : (h : History) (e : Event) → number (outcome_of (meter_after c h) e).answer ≡ 2 → Draws c h e
  -- 6. looking put into a history leaves the instrument after it as it was
  pub unmoved : (h g : History) → Inserted c h g none → (meter_after c g).instrument ≡ (meter_after c h).instrument
