-- The same in document 01's words: which keys and which strings they are, by the form of the strings.
use Rattle.std.specs.Prelude.{◌≡◌, true, false, List, ◌↔◌, ℕ, ◌+◌, ◌≤◌, ℤ, pos, length}
use Rattle.std.proofs.Math.Option.{some}
use Rattle.receiver.specs.Receiver.{ends}
use Rattle.reading.specs.declared.Reading.{Reading}
use Rattle.total.specs.History as totals
use Rattle.alarm.specs.History as alarms
use Rattle.alarms.specs.Alarms.{bit}
use Rattle.register.specs.Registers.{at}
use Rattle.config.specs.declared.Config.{Config}
use Rattle.command.specs.declared.Asked.{Asked}
use Rattle.command.specs.declared.Asked.TheVariants.{Reset, Write, Status}
use Rattle.form.specs.Grammar.{Says}
use Rattle.instrument.specs.Instrument.{read}
use Rattle.looking.specs.History.{Event, sample, key, byte, History, node_of, half}
use Rattle.looking.specs.Kept.{kept}
use Rattle.looking.specs.Captured.{present}
use Rattle.extracts.specs.Events.{total_event, alarm_event}

module _ (c : Config) (h : History) where
  -- a sample of reading r
  pub data Samples (r : Reading) : Event → Type 0 where
    read_as : (x : ℤ) → read c.scale x ≡ r → Samples r (sample x)

  -- the end of a string of at most 32 bytes that asks a of this meter
  pub data Tells (a : Asked) : Event → Type 0 where
    tells : (b place : ℕ) (buffer : List ℕ) → ends b ≡ true → length (half h) ≤ 32 → Says (half h) (node_of c) a → Tells a (byte b place buffer)

  -- key 1 in a meter set for batch, with the present reading
  pub data Batches (r : Reading) : Event → Type 0 where
    key_1 : (place : ℕ) (buffer : List ℕ) → c.working.totalizer.batch ≡ true → present c (kept c h) ≡ r → Batches r (key (pos 1) place buffer)

  -- the total is reset by RB and by key 2
  pub data ResetsTotal : Event → Type 0 where
    rb : {e : Event} → Tells (Reset (at "B")) e → ResetsTotal e
    key_2 : (place : ℕ) (buffer : List ℕ) → ResetsTotal (key (pos 2) place buffer)

  -- alarm k is reset by the R of its own register, RE to RH, by key 5, and by VJ with bit 4 clear and its own bit 0
  pub data ResetsAlarm (k : ℕ) : Event → Type 0 where
    own : {e : Event} → Tells (Reset (at "E" + k)) e → ResetsAlarm k e
    key_5 : (place : ℕ) (buffer : List ℕ) → ResetsAlarm k (key (pos 5) place buffer)
    vj : {e : Event} (b : ℕ) → bit b 4 ≡ false → bit b k ≡ false → Tells (Status b) e → ResetsAlarm k e

  -- what can change an alarm: a sample, or a reset of it
  pub data CanChange (k : ℕ) : Event → Type 0 where
    by_sample : {e : Event} (r : Reading) → Samples r e → CanChange k e
    by_reset : {e : Event} → ResetsAlarm k e → CanChange k e

  -- exactly these come to the total and to an alarm
  pub record Told : Type 0 where
    pub total_sampled : (e : Event) (r : Reading) → (total_event c h e ≡ some (totals.sample r)) ↔ Samples r e
    pub total_batched : (e : Event) (r : Reading) → (total_event c h e ≡ some (totals.batch_key r)) ↔ Batches r e
    pub total_reset : (e : Event) → (total_event c h e ≡ some totals.reset_key) ↔ ResetsTotal e
    pub alarm_sampled : (k : ℕ) (e : Event) (r : Reading) → (alarm_event c k h e ≡ some (alarms.sample r)) ↔ Samples r e
    pub alarm_reset : (k : ℕ) (e : Event) → (alarm_event c k h e ≡ some alarms.reset_key) ↔ ResetsAlarm k e
    pub alarm_written : (k : ℕ) (e : Event) (z : ℤ) → (alarm_event c k h e ≡ some (alarms.setpoint z)) ↔ Tells (Write (at "E" + k) z) e
