-- The table of answers, row by row. Assumes nothing.
use mathlib.Core.Path.{◌≡◌, refl, ap, ◌∙◌}
use mathlib.Core.Bool.{true, false}
use mathlib.Core.List.{List, [], ◌∷◌}
use mathlib.Core.Logic.{◌≢◌}
use Prim.Native.Nat.{ℕ, ◌+◌, ◌≤◌}
use native.Mathlib.Omega.{arith}
use borrow.Author.Tests.{eq-eqb, ne_eqb, lt-ltb, le-ltb}
use lib.IntN.{ℤ, pos}
use lib.ListN.{length, length-append}
use Rattle.exact.specs.Sign.{eq_z}
use Rattle.exact.proofs.Z.{eq_z_false}
use Rattle.answer.specs.Answer as answers
use Rattle.answer.specs.declared.Answer.{Answer}
use Rattle.answer.specs.declared.Answer.TheVariants.{Done, Stored, Replied, OtherNode, BadForm, Dropped, TooLong, InAutomatic, NoRoom, UnknownKey, Refused, NotStarted}
use Rattle.config.specs.declared.Config.{Config}
use Rattle.receiver.specs.Receiver.{Heard, bytes, too_long, limit, kind, heard}
use Rattle.receiver.specs.declared.Kind.TheVariants.{End, Drop, Part}
use Rattle.receiver.proofs.Hearing.{more, stored_heard}
use Rattle.command.specs.declared.Asked.{Asked}
use Rattle.command.specs.declared.Asked.TheVariants.{Read, Print, Reset, Write, Status}
use Rattle.form.specs.Grammar.{Says}
use Rattle.form.proofs.Meaning.{says_parse, for_parse}
use Rattle.form.proofs.Understood.{understood}
use Rattle.line.specs.Buffer.{laid}
use Rattle.effect.specs.Effect.{Effect, replies, settle, carried}
use Rattle.meter.specs.Door.{sound, works, reach_of}
use Rattle.meter.specs.Meter.{Step, step, with_instrument, settled_in, received}
use Rattle.meter.specs.declared.Meter.{Meter}
use Rattle.promises.specs.Calls.{Call, power_up, sample, key, byte, result, left}
use Rattle.promises.specs.Rows.{Gives, Ends, GoesOn, node_of, Room, Cramped, emptied, line_of, block_of, Row0, Row1, Row2, Row3, Row4, Row5, Row6, Row8, Row9, Row10, Row12, EventRows, PowerUpRows}
use Rattle.promises.specs.Started.{Shut}
use Rattle.promises.proofs.Door.{shuts, stands_shut, keyed_in, received_as, ended_as, at_end}
use Rattle.promises.proofs.Settling.{with_room, without_room}

-- a call whose step is known gives the numbers of its answer, its meter and its buffer
gives : (k : Call) (a : Answer) (m : Meter) (buffer : List ℕ) → result k ≡ step a m buffer → Gives k (answers.number a) (answers.value a) m buffer
gives k a m buffer e =
    record {
      number = ap (λ (s : Step). answers.number s.outcome.answer) e;
      value = ap (λ (s : Step). answers.value s.outcome.answer) e;
      meter = ap (λ (s : Step). s.outcome.meter) e;
      bytes = ap (λ (s : Step). s.buffer) e;
    }

module _ (m : Meter) (buffer : List ℕ) (place : ℕ) where
  -- ---- what an effect upon this meter comes to

  abbrev settles : Meter → Effect → Step
  settles n e = settled_in n (settle m.instrument e buffer place)

  written : (n : Meter) (text : List ℕ) → Room text buffer place
      → settles n (replies text m.instrument) ≡ step (Replied (length text)) (with_instrument n m.instrument) (laid buffer place text)
  written n text room = ap (settled_in n) (with_room m.instrument m.instrument text buffer place room)

  crowded : (n : Meter) (text : List ℕ) → Cramped text buffer place → settles n (replies text m.instrument) ≡ step NoRoom (with_instrument n m.instrument) buffer
  crowded n text cramped = ap (settled_in n) (without_room m.instrument m.instrument text buffer place cramped)

  -- ---- the end of a string that was heard

  ends : (b : ℕ) (h : Heard) → sound m ≡ true → kind b ≡ End → heard m.receiver ≡ h → received m b buffer place ≡ settles (emptied m) (ended_as m h)
  ends b h ok end e = received_as m buffer place b End end ok ∙ ap (settles (emptied m)) (at_end m h e)

  tells : (b : ℕ) (s : List ℕ) → Ends m b s → received m b buffer place ≡ settles (emptied m) (ended_as m (bytes s))
  tells b s e = ends b (bytes s) e.started e.ends e.string

  obeys : (b : ℕ) (s : List ℕ) (a : Asked) → Ends m b s → Says s (node_of m) a
      → received m b buffer place ≡ settles (emptied m) (carried m.config.talking m.config.working m.instrument a)
  obeys b s a e x = tells b s e ∙ rw (says_parse x, eq-eqb (node_of m) (node_of m) refl)

  -- ---- a byte that is part of one

  goes_on : (b : ℕ) (h : Heard) → GoesOn m b h → heard (left (byte m b buffer place)).receiver ≡ more h b
  goes_on b h g =
      ap (λ (s : Step). heard s.outcome.meter.receiver) (received_as m buffer place b Part g.part g.ready)
      ∙ stored_heard m.receiver b g.places
      ∙ ap (λ (x : Heard). more x b) g.so_far

  -- ---- the rows

  row_0 : Row0 m buffer place
  row_0 =
      record {
        sampled = λ x ok. gives (sample m x) Done _ _ (rw ok);
        batch = λ ok set. gives (key m (pos 1) buffer place) Done _ _ (keyed_in m buffer place (pos 1) ok ∙ rw set);
        total_key = λ ok. gives (key m (pos 2) buffer place) Done _ _ (keyed_in m buffer place (pos 2) ok);
        max_key = λ ok. gives (key m (pos 3) buffer place) Done _ _ (keyed_in m buffer place (pos 3) ok);
        min_key = λ ok. gives (key m (pos 4) buffer place) Done _ _ (keyed_in m buffer place (pos 4) ok);
        alarms_key = λ ok. gives (key m (pos 5) buffer place) Done _ _ (keyed_in m buffer place (pos 5) ok);
        reset = λ b r s e x. gives (byte m b buffer place) Done _ _ (obeys b s (Reset r) e x);
        write =
            λ b r z s e x free. gives (byte m b buffer place) Done _ _ (obeys b s (Write r z) e x ∙ rw free);
        status = λ b v s e x. gives (byte m b buffer place) Done _ _ (obeys b s (Status v) e x);
      }

  row_1 : Row1 m buffer place
  row_1 =
      record {
        stored = λ b ok part. gives (byte m b buffer place) Stored _ _ (received_as m buffer place b Part part ok ∙ rw part);
        heard = λ b s g room. goes_on b (bytes s) g ∙ rw (length-append s (b ∷ []), le-ltb limit (length s + 1) (omega arith));
        full = λ b s g none. goes_on b (bytes s) g ∙ rw (length-append s (b ∷ []), lt-ltb limit (length s + 1) (omega arith));
        passed_over = λ b g. goes_on b too_long g;
      }

  row_2 : Row2 m buffer place
  row_2 =
      record {
        read = λ b r s e x room. gives (byte m b buffer place) (Replied (length (line_of m r))) _ _ (obeys b s (Read r) e x ∙ written (emptied m) (line_of m r) room);
        print = λ b s e x room. gives (byte m b buffer place) (Replied (length (block_of m))) _ _ (obeys b s Print e x ∙ written (emptied m) (block_of m) room);
        print_key = λ ok room. gives (key m (pos 6) buffer place) (Replied (length (block_of m))) _ _ (keyed_in m buffer place (pos 6) ok ∙ written m (block_of m) room);
      }

  row_3 : Row3 m buffer place
  row_3 b n s e f other = gives (byte m b buffer place) OtherNode _ _ (tells b s e ∙ rw (for_parse f, ne_eqb n (node_of m) other))

  row_4 : Row4 m buffer place
  row_4 =
      record {
        no_digit = λ b s e d. gives (byte m b buffer place) BadForm _ _ (tells b s e ∙ rw ((understood.no_node s).1 d));
        bad_form =
            λ b s e f silent.
            gives (byte m b buffer place) BadForm _ _
            (tells b s e ∙ rw ((understood.bad_form s (node_of m)).1 (f, silent), eq-eqb (node_of m) (node_of m) refl));
      }

  row_5 : Row5 m buffer place
  row_5 b ok drop = gives (byte m b buffer place) Dropped _ _ (received_as m buffer place b Drop drop ok)

  row_6 : Row6 m buffer place
  row_6 b ok end long = gives (byte m b buffer place) TooLong _ _ (ends b too_long ok end long)

  row_8 : Row8 m buffer place
  row_8 b r z s e x closed = gives (byte m b buffer place) InAutomatic _ _ (obeys b s (Write r z) e x ∙ rw closed)

  row_9 : Row9 m buffer place
  row_9 =
      record {
        read = λ b r s e x cramped. gives (byte m b buffer place) NoRoom _ _ (obeys b s (Read r) e x ∙ crowded (emptied m) (line_of m r) cramped);
        print = λ b s e x cramped. gives (byte m b buffer place) NoRoom _ _ (obeys b s Print e x ∙ crowded (emptied m) (block_of m) cramped);
        print_key = λ ok cramped. gives (key m (pos 6) buffer place) NoRoom _ _ (keyed_in m buffer place (pos 6) ok ∙ crowded m (block_of m) cramped);
      }

  none_of : (k : ℤ) → ((n : ℕ) → 1 ≤ n → n ≤ 6 → k ≢ pos n) → (n : ℕ) → 1 ≤ n → n ≤ 6 → eq_z k (pos n) ≡ false
  none_of k h n low high = eq_z_false k (pos n) (h n low high)

  row_10 : Row10 m buffer place
  row_10 =
      record {
        unknown =
            λ k ok h.
            let no = none_of k h in
            gives (key m k buffer place) UnknownKey _ _
            (keyed_in m buffer place k ok
            ∙ rw (no 1 (omega arith) (omega arith), no 2 (omega arith) (omega arith), no 3 (omega arith) (omega arith), no 4 (omega arith) (omega arith), no 5 (omega arith) (omega arith), no 6 (omega arith) (omega arith)));
        no_batch = λ ok unset. gives (key m (pos 1) buffer place) UnknownKey _ _ (keyed_in m buffer place (pos 1) ok ∙ rw unset);
      }

  row_12 : Row12 m buffer place
  row_12 =
      record {
        sampled = λ x no. gives (sample m x) NotStarted _ _ (rw no);
        pressed = λ k no. gives (key m k buffer place) NotStarted _ _ (shuts _ _ no);
        received = λ b no. gives (byte m b buffer place) NotStarted _ _ (shuts _ _ no);
      }

  pub event_rows : EventRows m buffer place
  event_rows =
      record {
        row_0 = row_0;
        row_1 = row_1;
        row_2 = row_2;
        row_3 = row_3;
        row_4 = row_4;
        row_5 = row_5;
        row_6 = row_6;
        row_8 = row_8;
        row_9 = row_9;
        row_10 = row_10;
        row_12 = row_12;
      }

pub power_up_rows : (c : Config) → PowerUpRows c
power_up_rows c =
    record {
      row_0 = λ e. gives (power_up c) Done _ _ (rw e);
      row_11 = λ rule e. gives (power_up c) (Refused rule) _ _ (rw e);
      not_started_is = refl;
    }

-- ---- a value that was not started is shut out

pub shut : (m : Meter) → Shut m
shut m =
    record {
      sampled = λ x never. (event_rows m [] 0).row_12.sampled x (stands_shut m works never);
      keyed = λ k buffer place never. (event_rows m buffer place).row_12.pressed k (stands_shut m works never);
      received = λ b buffer place never. (event_rows m buffer place).row_12.received b (stands_shut m (reach_of (kind b)) never);
    }
