-- The rows of the table of answers cover every call, and exclude each other. Assumes nothing.
use mathlib.Core.Path.{◌≡◌, refl, sym, ap, subst, ◌∙◌}
use mathlib.Core.Bool.{Bool, true, false}
use mathlib.Core.List.{List, []}
use mathlib.Core.Logic.{◌≢◌}
use Prim.Native.Nat.{ℕ, zero, suc, ◌+◌}
use native.Mathlib.Omega.{arith}
use borrow.Author.Tests.{leb-true, leb-false, eqb-true, eqb-false}
use lib.Dec.{eqb, leb}
use lib.IntN.{ℤ, pos, negsuc}
use lib.ListN.{length}
use Rattle.config.specs.Config.{judged}
use Rattle.config.specs.declared.Config.{Config}
use Rattle.config.specs.Verdict.{Verdict}
use Rattle.config.specs.Verdict.{Accepted, Broken}
use Rattle.receiver.specs.Receiver as receivers
use Rattle.receiver.specs.Receiver.{Heard, bytes, kind, heard}
use Rattle.receiver.specs.declared.Kind.{Kind}
use Rattle.receiver.specs.declared.Kind.TheVariants.{End, Drop, Part}
use Rattle.command.specs.Parse.{parse}
use Rattle.command.specs.Addressed.{parsed_node}
use Rattle.command.proofs.Addressed.{parsed_node_lem}
use Rattle.command.specs.declared.Asked.{Asked}
use Rattle.command.specs.declared.Asked.TheVariants.{Read, Print, Reset, Write, Status, BadForm}
use Rattle.command.specs.Parse.{Parsed}
use Rattle.std.specs.Prelude.{None, Some}
use Rattle.form.specs.Grammar.{Says}
use Rattle.form.proofs.Understood.{understood}
use Rattle.instrument.specs.Instrument.{shut}
use Rattle.meter.specs.Door.{sound, reach_of, door}
use Rattle.meter.specs.declared.Meter.{Meter}
use Rattle.promises.specs.Calls.{Call, power_up, sample, key, byte, answered}
use Rattle.promises.specs.Rows.{Ends, node_of, Room, Cramped, line_of, block_of, EventRows}
use Rattle.promises.specs.Exactly as rows
use Rattle.promises.specs.Exactly.{OfConfig, OfSample, OfKey, OfByte, Falls, Exactly}
use Rattle.promises.proofs.Rows.{power_up_rows, event_rows}

-- ---- a call is answered by the number of the row under which it falls

config_answers : {c : Config} {n : ℕ} → OfConfig c n → answered (power_up c) ≡ n
config_answers {c} (rows.accepted e) = ((power_up_rows c).row_0 e).number
config_answers {c} (rows.refused rule e) = ((power_up_rows c).row_11 rule e).number

sample_answers : {m : Meter} {n : ℕ} (x : ℤ) → OfSample m n → answered (sample m x) ≡ n
sample_answers {m} x (rows.not_sampled out) = ((event_rows m [] 0).row_12.sampled x out).number
sample_answers {m} x (rows.sampled ok) = ((event_rows m [] 0).row_0.sampled x ok).number

module _ {m : Meter} {buffer : List ℕ} {place : ℕ} where
  abbrev table : EventRows m buffer place
  table = event_rows m buffer place

  key_answers : {k : ℤ} {n : ℕ} → OfKey m buffer place k n → answered (key m k buffer place) ≡ n
  key_answers (rows.not_pressed k out) = (table.row_12.pressed k out).number
  key_answers (rows.batch ok set) = (table.row_0.batch ok set).number
  key_answers (rows.no_batch ok unset) = (table.row_10.no_batch ok unset).number
  key_answers (rows.total_key ok) = (table.row_0.total_key ok).number
  key_answers (rows.max_key ok) = (table.row_0.max_key ok).number
  key_answers (rows.min_key ok) = (table.row_0.min_key ok).number
  key_answers (rows.alarms_key ok) = (table.row_0.alarms_key ok).number
  key_answers (rows.print_key ok room) = (table.row_2.print_key ok room).number
  key_answers (rows.cramped_key ok cramped) = (table.row_9.print_key ok cramped).number
  key_answers (rows.unknown k ok other) = (table.row_10.unknown k ok other).number

  byte_answers : {b n : ℕ} → OfByte m b buffer place n → answered (byte m b buffer place) ≡ n
  byte_answers {b} (rows.not_received out) = (table.row_12.received b out).number
  byte_answers {b} (rows.stored ok part) = (table.row_1.stored b ok part).number
  byte_answers {b} (rows.dropped ok drop) = (table.row_5 b ok drop).number
  byte_answers {b} (rows.too_long ok end long) = (table.row_6 b ok end long).number
  byte_answers {b} (rows.no_digit s e d) = (table.row_4.no_digit b s e d).number
  byte_answers {b} (rows.other_node s n e f other) = (table.row_3 b n s e f other).number
  byte_answers {b} (rows.bad_form s e f silent) = (table.row_4.bad_form b s e f silent).number
  byte_answers {b} (rows.in_automatic s r z e x closed) = (table.row_8 b r z s e x closed).number
  byte_answers {b} (rows.written s r z e x free) = (table.row_0.write b r z s e x free).number
  byte_answers {b} (rows.status s v e x) = (table.row_0.status b v s e x).number
  byte_answers {b} (rows.reset s r e x) = (table.row_0.reset b r s e x).number
  byte_answers {b} (rows.read s r e x room) = (table.row_2.read b r s e x room).number
  byte_answers {b} (rows.read_cramped s r e x cramped) = (table.row_9.read b r s e x cramped).number
  byte_answers {b} (rows.print s e x room) = (table.row_2.print b s e x room).number
  byte_answers {b} (rows.print_cramped s e x cramped) = (table.row_9.print b s e x cramped).number

answers : (k : Call) {n : ℕ} → Falls k n → answered k ≡ n
answers (power_up c) f = config_answers f
answers (sample m x) f = sample_answers x f
answers (key m k buffer place) f = key_answers f
answers (byte m b buffer place) f = byte_answers f

-- ---- every call falls under a row

-- one of a kind of rows
abbrev Any : (ℕ → Type 0) → Type 0
Any Of = (n : ℕ) × Of n

config_covers : (c : Config) (v : Verdict) → judged c ≡ v → Any (OfConfig c)
config_covers c Accepted e = (0, rows.accepted e)
config_covers c (Broken rule) e = (11, rows.refused rule e)

sample_covers : (m : Meter) (t : Bool) → sound m ≡ t → Any (OfSample m)
sample_covers m true e = (0, rows.sampled e)
sample_covers m false e = (12, rows.not_sampled e)

-- a reply has room, or it has not
roomy : (reply buffer : List ℕ) (place : ℕ) {P : Type 0} → (Room reply buffer place → P) → (Cramped reply buffer place → P) → (t : Bool) → leb (place + length reply) (length buffer) ≡ t → P
roomy reply buffer place with_it without true e = with_it (leb-true (place + length reply) (length buffer) e)
roomy reply buffer place with_it without false e = without (leb-false (place + length reply) (length buffer) e)

module _ (m : Meter) (buffer : List ℕ) (place : ℕ) where
  by_room_lem : (reply : List ℕ) {P : Type 0} → (Room reply buffer place → P) → (Cramped reply buffer place → P) → P
  by_room_lem reply with_it without = roomy reply buffer place with_it without (leb (place + length reply) (length buffer)) refl

  batch_covers : sound m ≡ true → (t : Bool) → m.config.working.totalizer.batch ≡ t → Any (OfKey m buffer place (pos 1))
  batch_covers ok true e = (0, rows.batch ok e)
  batch_covers ok false e = (10, rows.no_batch ok e)

  pressed_covers : (k : ℤ) → sound m ≡ true → Any (OfKey m buffer place k)
  pressed_covers (negsuc n) ok = (10, rows.unknown (negsuc n) ok (λ p low high e. let z : ◌≡◌ {A = ℕ} 0 1 = cc in omega arith))
  pressed_covers (pos zero) ok = (10, rows.unknown (pos 0) ok (λ p low high e. let z : 0 ≡ p = cc in omega arith))
  pressed_covers (pos (suc zero)) ok = batch_covers ok m.config.working.totalizer.batch refl
  pressed_covers (pos (suc (suc zero))) ok = (0, rows.total_key ok)
  pressed_covers (pos (suc (suc (suc zero)))) ok = (0, rows.max_key ok)
  pressed_covers (pos (suc (suc (suc (suc zero))))) ok = (0, rows.min_key ok)
  pressed_covers (pos (suc (suc (suc (suc (suc zero)))))) ok = (0, rows.alarms_key ok)
  pressed_covers (pos (suc (suc (suc (suc (suc (suc zero))))))) ok = by_room_lem (block_of m) (λ room. (2, rows.print_key ok room)) (λ cramped. (9, rows.cramped_key ok cramped))
  pressed_covers (pos (suc (suc (suc (suc (suc (suc (suc n)))))))) ok =
      (10, rows.unknown (pos (suc (suc (suc (suc (suc (suc (suc n)))))))) ok (λ p low high e. let z : suc (suc (suc (suc (suc (suc (suc n)))))) ≡ p = cc in omega arith))

  key_covers : (k : ℤ) (t : Bool) → sound m ≡ t → Any (OfKey m buffer place k)
  key_covers k true e = pressed_covers k e
  key_covers k false e = (12, rows.not_pressed k e)

  module _ (b : ℕ) where
    abbrev Byte : Type 0
    Byte = Any (OfByte m b buffer place)

    module _ (s : List ℕ) (e : Ends m b s) where
      written_covers : (r : ℕ) (z : ℤ) → Says s (node_of m) (Write r z) → (t : Bool) → shut m.instrument.outputs.mode r ≡ t → Byte
      written_covers r z x true c = (8, rows.in_automatic s r z e x c)
      written_covers r z x false c = (0, rows.written s r z e x c)

      says : (a : Asked) → parse s ≡ Some (node_of m, a) → a ≢ BadForm → Says s (node_of m) a
      says a p good = (understood.asked s (node_of m) a).1 (p, good)

      -- what is asked of this meter
      asked_covers : (a : Asked) → parse s ≡ Some (node_of m, a) → Byte
      asked_covers (Read r) p =
          let x = says (Read r) p (λ k. let z : ◌≡◌ {A = ℕ} 0 1 = cc in omega arith) in
          by_room_lem (line_of m r) (λ room. (2, rows.read s r e x room)) (λ cramped. (9, rows.read_cramped s r e x cramped))
      asked_covers Print p =
          let x = says Print p (λ k. let z : ◌≡◌ {A = ℕ} 0 1 = cc in omega arith) in
          by_room_lem (block_of m) (λ room. (2, rows.print s e x room)) (λ cramped. (9, rows.print_cramped s e x cramped))
      asked_covers (Reset r) p = (0, rows.reset s r e (says (Reset r) p (λ k. let z : ◌≡◌ {A = ℕ} 0 1 = cc in omega arith)))
      asked_covers (Write r z) p =
          written_covers r z (says (Write r z) p (λ k. let z : ◌≡◌ {A = ℕ} 0 1 = cc in omega arith)) (shut m.instrument.outputs.mode r) refl
      asked_covers (Status v) p = (0, rows.status s v e (says (Status v) p (λ k. let z : ◌≡◌ {A = ℕ} 0 1 = cc in omega arith)))
      asked_covers BadForm p = let f = (understood.bad_form s (node_of m)).0 p in (4, rows.bad_form s e f.0 f.1)

      -- of which node
      node_covers : (n : ℕ) (a : Asked) → parse s ≡ Some (n, a) → (t : Bool) → eqb n (node_of m) ≡ t → Byte
      node_covers n a p true q = asked_covers a (p ∙ ap (λ (k : ℕ). Some (k, a)) (eqb-true n (node_of m) q))
      node_covers n a p false q = (3, rows.other_node s n e ((understood.addressed_to s n).0 (sym (parsed_node_lem s) ∙ ap parsed_node p)) (eqb-false n (node_of m) q))

      parsed_covers : (p : Parsed) → parse s ≡ p → Byte
      parsed_covers None p = (4, rows.no_digit s e ((understood.no_node s).0 p))
      parsed_covers (Some (n, a)) p = node_covers n a p (eqb n (node_of m)) refl

    heard_covers : sound m ≡ true → kind b ≡ End → (h : Heard) → heard m.receiver ≡ h → Byte
    heard_covers ok end (bytes s) h = parsed_covers s (record { started = ok; ends = end; string = h }) (parse s) refl
    heard_covers ok end receivers.too_long h = (6, rows.too_long ok end h)

    kind_covers : (k : Kind) → kind b ≡ k → door (reach_of k) m ≡ true → Byte
    kind_covers Part e ok = (1, rows.stored ok e)
    kind_covers Drop e ok = (5, rows.dropped ok e)
    kind_covers End e ok = heard_covers ok e (heard m.receiver) refl

    byte_covers : (t : Bool) → door (reach_of (kind b)) m ≡ t → Byte
    byte_covers true e = kind_covers (kind b) refl e
    byte_covers false e = (12, rows.not_received e)

covers : (k : Call) → Any (Falls k)
covers (power_up c) = config_covers c (judged c) refl
covers (sample m x) = sample_covers m (sound m) refl
covers (key m k buffer place) = key_covers m buffer place k (sound m) refl
covers (byte m b buffer place) = byte_covers m buffer place b (door (reach_of (kind b)) m) refl

pub exactly : Exactly
exactly =
    record {
      covers = covers;
      only_one = λ k n p f g. sym (answers k f) ∙ answers k g;
      exactly = λ k n. (λ e. subst (Falls k) (sym (answers k (covers k).1) ∙ e) (covers k).1, λ f. answers k f);
    }
