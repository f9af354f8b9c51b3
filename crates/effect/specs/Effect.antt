-- What a key or a string asks, carried out over settings and instrument alone. No receiver, no buffer and no place occurs in an effect:
-- whoever lends a buffer settles it.
use Rattle.std.specs.Prelude.{cond, Option, None, Some, List, ℕ, eqb, ℤ, pos, nat_abs}
use Rattle.exact.specs.Sign.{eq_z}
use Rattle.register.specs.Registers.{at}
use Rattle.config.specs.declared.Talking.{Talking}
use Rattle.config.specs.declared.Working.{Working}
use Rattle.command.specs.declared.Asked.{Asked}
use Rattle.command.specs.declared.Asked.TheVariants.{Read, Print, Reset, Write, Status, BadForm as BadString}
use Rattle.command.specs.Parse.{Parsed}
use Rattle.command.specs.Parse.{parse}
use Rattle.line.specs.Buffer as buffers
use Rattle.instrument.specs.Instrument.{reset_register, reset_alarms, batched, shut, write_register, write_status}
use Rattle.instrument.specs.declared.Instrument.{Instrument}
use Rattle.answer.specs.declared.Answer.{Answer}
use Rattle.answer.specs.declared.Answer.TheVariants.{Done, Replied, OtherNode, BadForm, InAutomatic, NoRoom, UnknownKey}
use Rattle.effect.specs.Reply.{read_reply, print_reply}
use Rattle.effect.specs.declared.Settled.{Settled}

-- an answer, and the instrument with it
abbrev pub settled : Answer → Instrument → Settled
settled a i = record { answer = a; instrument = i }

-- an effect is settled as it stands, or is a reply that is due with the instrument that goes with it
pub data Effect : Type 0 where
  stands : Settled → Effect
  replies : (reply : List ℕ) (i : Instrument) → Effect

-- the instrument that an effect leaves
abbrev pub leaves : Effect → Instrument
leaves (stands s) = s.instrument
leaves (replies reply i) = i

-- ---- what is asked of this meter

-- a number that is written: 8 where its register is shut, else 0
abbrev pub written : Working → Instrument → ℕ → ℤ → Settled
written w i r z = cond (shut i.outputs.mode r) (settled InAutomatic i) (settled Done (write_register w i r z))

abbrev pub carried : Talking → Working → Instrument → Asked → Effect
carried t w i (Read r) = replies (read_reply t w i r) i
carried t w i Print = replies (print_reply t w i) i
carried t w i (Reset r) = stands (settled Done (reset_register w i r))
carried t w i (Write r z) = stands (written w i r z)
carried t w i (Status b) = stands (settled Done (write_status w i b))
carried t w i BadString = stands (settled BadForm i)

-- ---- a string: the address first (4 where N has no digit, 3 for another node), then what is asked

abbrev pub addressed : Talking → Working → Instrument → Parsed → Effect
addressed t w i None = stands (settled BadForm i)
addressed t w i (Some (node, asked)) =
    cond (eqb node (nat_abs t.node)) (carried t w i asked) (stands (settled OtherNode i))

abbrev pub told : Talking → Working → Instrument → List ℕ → Effect
told t w i s = addressed t w i (parse s)

-- ---- a key: 1 batch, 2 reset total, 3 reset max, 4 reset min, 5 reset all alarms, 6 block print; 10 for any other, and for key 1 in
-- a meter not set for batch

abbrev pub batch : Working → Instrument → Settled
batch w i = cond w.totalizer.batch (settled Done (batched w i)) (settled UnknownKey i)

abbrev pub resets : Working → Instrument → ℕ → Effect
resets w i r = stands (settled Done (reset_register w i r))

abbrev pub pressed : Talking → Working → Instrument → ℤ → Effect
pressed t w i k =
    cond (eq_z k (pos 1)) (stands (batch w i))
    (cond (eq_z k (pos 2)) (resets w i (at "B"))
    (cond (eq_z k (pos 3)) (resets w i (at "C"))
    (cond (eq_z k (pos 4)) (resets w i (at "D"))
    (cond (eq_z k (pos 5)) (stands (settled Done (reset_alarms w i)))
    (cond (eq_z k (pos 6)) (replies (print_reply t w i) i)
    (stands (settled UnknownKey i)))))))

-- ---- with a buffer lent from a place on: a reply is written (2) where it has room; where it has none (9) the instrument and the buffer
-- stay as they were

pub record Settlement : Type 0 where
  pub settled : Settled
  pub buffer : List ℕ

abbrev pub by_room : Instrument → Instrument → Option ℕ → Settled
by_room before i (Some n) = settled (Replied n) i
by_room before i None = settled NoRoom before

abbrev pub settle : Instrument → Effect → List ℕ → ℕ → Settlement
settle before (stands s) buffer place = record { settled = s; buffer = buffer }
settle before (replies reply i) buffer place =
    record { settled = by_room before i (buffers.answer buffer place reply); buffer = buffers.after buffer place reply }
