-- Which effects a key and a string can have. Assumes nothing.
use mathlib.Core.Path.{◌≡◌, refl}
use mathlib.Core.Bool.{true}
use mathlib.Core.List.{List}
use mathlib.Core.Logic.{◌⊎◌, inl, inr}
use Prim.Native.Nat.{ℕ, ◌≤◌}
use native.Mathlib.Omega.{arith}
use lib.Dec.{eqb}
use lib.IntN.{ℤ, pos, nat_abs}
use lib.ListN.{take}
use Rattle.exact.specs.Sign.{eq_z}
use Rattle.exact.proofs.Z.{either}
use Rattle.register.specs.Registers.{entry, holds, at}
use Rattle.answer.specs.Answer.{number}
use Rattle.answer.specs.declared.Answer.{Answer}
use Rattle.answer.specs.declared.Answer.TheVariants.{Done, OtherNode, BadForm, TooLong, InAutomatic, UnknownKey}
use Rattle.config.specs.declared.Talking.{Talking}
use Rattle.config.specs.declared.Working.{Working}
use Rattle.receiver.specs.Receiver.{over}
use Rattle.command.specs.Parse.{parse}
use Rattle.command.specs.declared.Asked.{Asked}
use Rattle.command.specs.declared.Asked.TheVariants.{Read, Print, Reset, Write, Status, BadForm as BadString}
use Rattle.command.specs.Parse.{Parsed}
use Rattle.std.specs.Prelude.{None, Some}
use Rattle.form.specs.Understood.{Permitted}
use Rattle.form.proofs.Understood.{understood}
use Rattle.instrument.specs.Instrument as instruments
use Rattle.instrument.specs.declared.Instrument.{Instrument}
use Rattle.effect.specs.Effect.{Effect, stands, replies, settled, carried, addressed, pressed}
use Rattle.meter.specs.Meter.{key_effect, end_effect}
use Rattle.meter.specs.declared.Meter.{Meter}

-- the instruments that keys and strings make of i
pub data Changed (w : Working) (i : Instrument) : Instrument → Type 0 where
  by_batch : Changed w i (instruments.batched w i)
  by_reset : (r : ℕ) → r ≤ at "H" → Changed w i (instruments.reset_register w i r)
  by_alarms : Changed w i (instruments.reset_alarms w i)
  by_write : (r : ℕ) (z : ℤ) → at "E" ≤ r → r ≤ at "I" → holds (entry r).written z ≡ true → Changed w i (instruments.write_register w i r z)
  by_status : (b : ℕ) → Changed w i (instruments.write_status w i b)

-- what an effect upon i can be: a change that is carried out (0), or a refusal or a reply, which leave i as it was
pub data Upon (w : Working) (i : Instrument) (Refusal : ℕ → Type 0) : Effect → Type 0 where
  done : {j : Instrument} → Changed w i j → Upon w i Refusal (stands (settled Done j))
  refused : (a : Answer) → Refusal (number a) → Upon w i Refusal (stands (settled a i))
  reply : (text : List ℕ) → Upon w i Refusal (replies text i)

-- a key is refused by 10, a string by one of 3 to 6 or by 8
abbrev pub KeyRefusal : ℕ → Type 0
KeyRefusal n = n ≡ 10

abbrev pub StringRefusal : ℕ → Type 0
StringRefusal n = ((3 ≤ n) × (n ≤ 6)) ⊎ (n ≡ 8)

module _ (t : Talking) (w : Working) (i : Instrument) where
  abbrev ByKey : Effect → Type 0
  ByKey = Upon w i KeyRefusal

  pub pressed_upon : (k : ℤ) → ByKey (pressed t w i k)
  pressed_upon k =
      either ByKey (eq_z k (pos 1)) (either (λ s. ByKey (stands s)) w.totalizer.batch (done by_batch) (refused UnknownKey refl))
      (either ByKey (eq_z k (pos 2)) (done (by_reset (at "B") (omega arith)))
      (either ByKey (eq_z k (pos 3)) (done (by_reset (at "C") (omega arith)))
      (either ByKey (eq_z k (pos 4)) (done (by_reset (at "D") (omega arith)))
      (either ByKey (eq_z k (pos 5)) (done by_alarms)
      (either ByKey (eq_z k (pos 6)) (reply _) (refused UnknownKey refl))))))

  abbrev ByString : Effect → Type 0
  ByString = Upon w i StringRefusal

  carried_upon : (a : Asked) → Permitted a → ByString (carried t w i a)
  carried_upon (Read r) h = reply _
  carried_upon Print h = reply _
  carried_upon (Reset r) h = done (by_reset r h.1)
  carried_upon (Write r z) h =
      either (λ s. ByString (stands s)) (instruments.shut i.outputs.mode r) (refused InAutomatic (inr refl)) (done (by_write r z h.0 h.1 h.2))
  carried_upon (Status b) h = done (by_status b)
  carried_upon BadString h = refused BadForm (inl (omega arith, omega arith))

  pub addressed_upon : (s : List ℕ) (p : Parsed) → parse s ≡ p → ByString (addressed t w i p)
  addressed_upon s None e = refused BadForm (inl (omega arith, omega arith))
  addressed_upon s (Some (n, a)) e =
      either ByString (eqb n (nat_abs t.node)) (carried_upon a (understood.permitted s n a e).1) (refused OtherNode (inl (omega arith, omega arith)))

pub key_upon : (m : Meter) (k : ℤ) → Upon m.config.working m.instrument KeyRefusal (key_effect m k)
key_upon m k = pressed_upon m.config.talking m.config.working m.instrument k

pub end_upon : (m : Meter) → Upon m.config.working m.instrument StringRefusal (end_effect m)
end_upon m =
    let s = take m.receiver.length m.receiver.bytes in
    either (Upon m.config.working m.instrument StringRefusal) (over m.receiver.length)
    (refused TooLong (inl (omega arith, omega arith)))
    (addressed_upon m.config.talking m.config.working m.instrument s (parse s) refl)
