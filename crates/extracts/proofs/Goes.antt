-- What an entry makes of reading, total and alarms is a step of each by what the entry is to it. Assumes nothing.
use mathlib.Core.Path.{◌≡◌, refl, ap, ◌∙◌}
use mathlib.Core.Bool.{Bool, true, false, cond, ◌||◌}
use mathlib.Core.List.{List}
use mathlib.Core.Option.{Option, none, some}
use Prim.Native.Nat.{ℕ, ◌+◌, ◌≤◌, ◌<◌}
use native.Mathlib.Omega.{arith}
use borrow.Author.Tests.{ne_eqb, eqb-true, eqb-false, ltb-true, ltb-false}
use lib.Dec.{eqb, ltb}
use lib.IntN.{ℤ, pos}
use lib.ListN.{length, set, length-set, length-map, get_or-map}
use Rattle.exact.specs.Sign.{eq_z}
use Rattle.exact.proofs.Z.{either, eq_z_true}
use Rattle.course.specs.Course.{stepped}
use Rattle.reading.specs.declared.Reading.{Reading}
use Rattle.total.specs.History as totals
use Rattle.alarm.specs.Alarm.{off, reset, written}
use Rattle.alarm.specs.History as alarm
use Rattle.alarm.specs.declared.Alarm.{Alarm}
use Rattle.alarms.specs.Alarms.{alarm_at, settings_at, reset_at, written_at, reset_by_bits, bit}
use Rattle.alarms.specs.Meaning.{OneAlarm}
use Rattle.alarms.proofs.Laws as alarms
use Rattle.register.specs.Registers.{at}
use Rattle.config.specs.declared.Config.{Config}
use Rattle.command.specs.Parse.{parse}
use Rattle.command.specs.declared.Asked.{Asked}
use Rattle.command.specs.declared.Asked.TheVariants.{Read, Print, Reset, Write, Status, BadForm}
use Rattle.command.specs.Parse.{Parsed}
use Rattle.std.specs.Prelude.{None, Some}
use Rattle.form.specs.Understood.{Permitted}
use Rattle.form.proofs.Permitted.{permitted}
use Rattle.measured.specs.declared.Measured.{Measured}
use Rattle.instrument.specs.Instrument.{read, alarm_of, shut, reset_register, reset_alarms, batched, write_register, write_status}
use Rattle.instrument.specs.declared.Instrument.{Instrument}
use Rattle.instrument.proofs.Soundness.{chosen}
use Rattle.instrument.proofs.Keys.{resets_each}
use Rattle.instrument.proofs.Registers.{reset_is, write_is}
use Rattle.effect.specs.Effect as effects
use Rattle.effect.specs.Effect.{Effect, leaves, stands, settled}
use Rattle.effect.specs.declared.Settled.{Settled}
use Rattle.answer.specs.declared.Answer.TheVariants.{Done, UnknownKey}
use Rattle.looking.specs.History.{node_of}
use Rattle.looking.specs.Kept.{Entry, measured, pressed, told}
use Rattle.looking.specs.Given.{carry}
use Rattle.extracts.specs.Events.{through, asks, asked_of_total, to_total, asked_of_alarm, to_alarm}

-- an instrument i has become j: the reading stands, and total and alarms have made the steps that are given
record Steps (c : Config) (i : Instrument) (t : Option totals.Event) (a : ℕ → Option alarm.Event) (j : Instrument) : Type 0 where
  reading : j.measured.reading ≡ i.measured.reading
  total : j.measured.total ≡ stepped (totals.step c.working.totalizer) i.measured.total t
  each : (k : ℕ) → k < 4 → alarm_at j.alarms k ≡ stepped (alarm.step (settings_at c.working.alarms k)) (alarm_at i.alarms k) (a k)
  four : length j.alarms ≡ 4

-- where alarm j alone has made a step, each alarm has made it whose register is that of alarm j
one_step : (step : ℕ → Alarm → alarm.Event → Alarm) (l n : List Alarm) (j k : ℕ) (e : alarm.Event) → OneAlarm l n j (step j (alarm_at l j) e)
    → alarm_at n k ≡ stepped (step k) (alarm_at l k) (cond (eqb (at "E" + j) (at "E" + k)) (some e) none)
one_step step l n j k e o = go (eqb (at "E" + j) (at "E" + k)) refl
  where
    go : (t : Bool) → eqb (at "E" + j) (at "E" + k) ≡ t → alarm_at n k ≡ stepped (step k) (alarm_at l k) (cond t (some e) none)
    go true q = let same : k ≡ j = omega (arith, eqb-true (at "E" + j) (at "E" + k) q) in rw same o.own
    go false q = o.others k (λ same. eqb-false (at "E" + j) (at "E" + k) q (omega arith))

module _ (c : Config) (i : Instrument) (all : length i.alarms ≡ 4) where
  abbrev step : ℕ → Alarm → alarm.Event → Alarm
  step k = alarm.step (settings_at c.working.alarms k)

  untouched : Steps c i none (λ k. none) i
  untouched = record { reading = refl; total = refl; each = λ k h. refl; four = all }

  -- ---- R

  -- one of the four alarms that is put in its place
  put_four : (j : ℕ) (a : Alarm) → length (set i.alarms j a) ≡ 4
  put_four j a = length-set i.alarms j a ∙ all

  resets_alarm : (j : ℕ) → j < 4 → Steps c i (asked_of_total (Reset (at "E" + j))) (λ k. asked_of_alarm k (Reset (at "E" + j))) (reset_register c.working i (at "E" + j))
  resets_alarm j h =
      rw (reset_is c.working i j h, ne_eqb (at "E" + j) (at "B") (λ e. omega arith))
      (record {
        reading = refl;
        total = refl;
        each = λ k g. one_step step i.alarms (reset_at i.alarms j) j k alarm.reset_key (alarms.reset_one i.alarms j all h);
        four = put_four j (reset (alarm_at i.alarms j));
      })

  -- RB, RC and RD leave the alarms
  resets_measured : (r : ℕ) → r < at "E" → (j : Instrument) → j.alarms ≡ i.alarms → j.measured.reading ≡ i.measured.reading
      → j.measured.total ≡ stepped (totals.step c.working.totalizer) i.measured.total (asked_of_total (Reset r)) → Steps c i (asked_of_total (Reset r)) (λ k. asked_of_alarm k (Reset r)) j
  resets_measured r h j a q t =
      record {
        reading = q;
        total = t;
        each = λ k g. rw (a, ne_eqb r (at "E" + k) (λ e. omega arith));
        four = ap length a ∙ all;
      }

  resets_below : (r : ℕ) → at "B" ≤ r → r < at "E" → Steps c i (asked_of_total (Reset r)) (λ k. asked_of_alarm k (Reset r)) (reset_register c.working i r)
  unfolding reset_register
  resets_below r from below =
      let P : Instrument → Type 0 = Steps c i (asked_of_total (Reset r)) (λ k. asked_of_alarm k (Reset r)) in
      chosen P (eqb r (at "B")) (λ e. resets_measured r below _ refl refl (rw e))
      (λ b. chosen P (eqb r (at "C")) (λ e. resets_measured r below _ refl refl (rw b))
      (λ d. chosen P (eqb r (at "D")) (λ e. resets_measured r below _ refl refl (rw b))
      (λ f. absurd (omega (arith, eqb-false r (at "B") b, eqb-false r (at "C") d, eqb-false r (at "D") f)))))

  resets : (r : ℕ) → at "B" ≤ r → r ≤ at "H" → Steps c i (asked_of_total (Reset r)) (λ k. asked_of_alarm k (Reset r)) (reset_register c.working i r)
  resets r from to = go (ltb r (at "E")) refl
    where
      go : (t : Bool) → ltb r (at "E") ≡ t → Steps c i (asked_of_total (Reset r)) (λ k. asked_of_alarm k (Reset r)) (reset_register c.working i r)
      go true e = resets_below r from (ltb-true r (at "E") e)
      go false e = let q : r ≡ at "E" + alarm_of r = omega (arith, ltb-false r (at "E") e) in rw q (resets_alarm (alarm_of r) (omega arith))

  -- ---- V

  writes_setpoint : (j : ℕ) → j < 4 → (z : ℤ) → Steps c i none (λ k. asked_of_alarm k (Write (at "E" + j) z)) (write_register c.working i (at "E" + j) z)
  writes_setpoint j h z =
      rw (write_is c.working i j h z)
      (record {
        reading = refl;
        total = refl;
        each = λ k g. one_step step i.alarms (written_at i.alarms j z) j k (alarm.setpoint z) (alarms.written_one i.alarms j all h z);
        four = put_four j (written (alarm_at i.alarms j) z);
      })

  -- what leaves measurement and alarms, and is nothing to any of the four
  leaves_all : (a : ℕ → Option alarm.Event) → ((k : ℕ) → k < 4 → a k ≡ none) → (j : Instrument) → j.measured ≡ i.measured → j.alarms ≡ i.alarms → Steps c i none a j
  leaves_all a n j m q =
      record {
        reading = ap (λ (x : Measured). x.reading) m;
        total = ap (λ (x : Measured). x.total) m;
        each = λ k h. rw (q, n k h);
        four = ap length q ∙ all;
      }

  -- the analog register is none of an alarm's
  writes_code : (z : ℤ) → Steps c i none (λ k. asked_of_alarm k (Write (at "I") z)) (effects.written c.working i (at "I") z).instrument
  unfolding write_register
  writes_code z =
      either (λ (s : Settled). Steps c i none (λ k. asked_of_alarm k (Write (at "I") z)) s.instrument) (shut i.outputs.mode (at "I"))
      (leaves_all _ none_asked i refl refl) (leaves_all _ none_asked _ refl refl)
    where
      none_asked : (k : ℕ) → k < 4 → asked_of_alarm k (Write (at "I") z) ≡ none
      none_asked k h = rw (ne_eqb (at "I") (at "E" + k) (λ e. omega arith))

  writes : (r : ℕ) (z : ℤ) → at "E" ≤ r → r ≤ at "I" → Steps c i none (λ k. asked_of_alarm k (Write r z)) (effects.written c.working i r z).instrument
  writes r z from to = go (eqb r (at "I")) refl
    where
      go : (t : Bool) → eqb r (at "I") ≡ t → Steps c i none (λ k. asked_of_alarm k (Write r z)) (effects.written c.working i r z).instrument
      go true e = rw (eqb-true r (at "I") e) (writes_code z)
      go false e =
          let q : r ≡ at "E" + alarm_of r = omega arith in
          let n = eqb-false r (at "I") e in
          rw (e, q) (writes_setpoint (alarm_of r) (omega arith) z)

  -- ---- VJ

  status_automatic : (b k : ℕ) → k < 4 → (t : Bool) → bit b k ≡ t → alarm_at (reset_by_bits b i.alarms) k ≡ stepped (step k) (alarm_at i.alarms k) (cond t none (some alarm.reset_key))
  status_automatic b k h true e = (alarms.reset_by_bits_is b i.alarms).stays k h e
  status_automatic b k h false e = (alarms.reset_by_bits_is b i.alarms).resets k h e

  status : (b : ℕ) → Steps c i none (λ k. asked_of_alarm k (Status b)) (write_status c.working i b)
  unfolding write_status
  status b =
      chosen (Steps c i none (λ k. asked_of_alarm k (Status b))) (bit b 4)
      (λ e. leaves_all _ (λ k h. ap (λ (t : Bool). cond (t || bit b k) none (some alarm.reset_key)) e) _ refl refl)
      (λ e. record { reading = refl; total = refl; each = λ k h. rw e (status_automatic b k h (bit b k) refl); four = refl })

  -- ---- what is asked, by a string and by a key

  carried : (a : Asked) → Permitted a → Steps c i (asked_of_total a) (λ k. asked_of_alarm k a) (leaves (effects.carried c.talking c.working i a))
  carried (Read r) p = untouched
  carried Print p = untouched
  carried (Reset r) p = resets r p.0 p.1
  carried (Write r z) p = writes r z p.0 p.1
  carried (Status b) p = status b
  carried BadForm p = untouched

  -- where it is for this node
  addressed : (p : Parsed) → ((n : ℕ) (a : Asked) → p ≡ Some (n, a) → Permitted a)
      → Steps c i (through asked_of_total (asks (node_of c) p)) (λ k. through (asked_of_alarm k) (asks (node_of c) p)) (leaves (effects.addressed c.talking c.working i p))
  addressed None p = untouched
  addressed (Some (n, a)) p = go (eqb n (node_of c)) _ refl
    where
      go : (t : Bool) (other : Effect) → leaves other ≡ i
          → Steps c i (through asked_of_total (cond t (some a) none)) (λ k. through (asked_of_alarm k) (cond t (some a) none)) (leaves (cond t (effects.carried c.talking c.working i a) other))
      go true other e = carried a (p n a refl)
      go false other e = rw e untouched

  all_reset : (k : ℕ) → alarm_at (reset_alarms c.working i).alarms k ≡ reset (alarm_at i.alarms k)
  unfolding reset
  all_reset k = ap (λ (j : Instrument). alarm_at j.alarms k) (resets_each c.working i all) ∙ get_or-map reset i.alarms k (off (pos 0))

  reset_four : length (reset_alarms c.working i).alarms ≡ 4
  reset_four = ap (λ (j : Instrument). length j.alarms) (resets_each c.working i all) ∙ length-map i.alarms reset ∙ all

  keys : (n : ℤ) → Steps c i (to_total c i.measured.reading (pressed n)) (λ k. to_alarm c k (pressed n)) (leaves (effects.pressed c.talking c.working i n))
  unfolding reset_register
  keys n =
      let P : Effect → Type 0 = λ e. Steps c i (to_total c i.measured.reading (pressed n)) (λ k. to_alarm c k (pressed n)) (leaves e) in
      chosen P (eq_z n (pos 1))
      (λ e. rw (eq_z_true n (pos 1) e) (batch_key c.working.totalizer.batch))
      (λ a. chosen P (eq_z n (pos 2)) (λ e. rw (eq_z_true n (pos 2) e) (record { reading = refl; total = refl; each = λ k h. refl; four = all }))
      (λ b. chosen P (eq_z n (pos 3)) (λ e. rw (eq_z_true n (pos 3) e) (record { reading = refl; total = refl; each = λ k h. refl; four = all }))
      (λ _. chosen P (eq_z n (pos 4)) (λ e. rw (eq_z_true n (pos 4) e) (record { reading = refl; total = refl; each = λ k h. refl; four = all }))
      (λ _. chosen P (eq_z n (pos 5)) (λ e. rw (eq_z_true n (pos 5) e) (record { reading = refl; total = refl; each = λ k h. all_reset k; four = reset_four }))
      (λ d. chosen P (eq_z n (pos 6)) (λ e. rw (eq_z_true n (pos 6) e) untouched)
      (λ _. rw (a, b, d) untouched))))))
    where
      batch_key : (t : Bool) → Steps c i (cond t (some (totals.batch_key i.measured.reading)) none) (λ k. none) (leaves (stands (cond t (settled Done (batched c.working i)) (settled UnknownKey i))))
      batch_key true = record { reading = refl; total = refl; each = λ k h. refl; four = all }
      batch_key false = untouched

-- ---- an entry

-- the reading behind an entry
abbrev reading_by : Config → Reading → Entry → Reading
reading_by c now (measured x) = read c.scale x
reading_by c now (pressed k) = now
reading_by c now (told s) = now

pub record Goes (c : Config) (i : Instrument) (x : Entry) : Type 0 where
  pub reading : (carry c i x).measured.reading ≡ reading_by c i.measured.reading x
  pub total : (carry c i x).measured.total ≡ stepped (totals.step c.working.totalizer) i.measured.total (to_total c i.measured.reading x)
  pub each : (k : ℕ) → k < 4 → alarm_at (carry c i x).alarms k ≡ stepped (alarm.step (settings_at c.working.alarms k)) (alarm_at i.alarms k) (to_alarm c k x)
  pub four : length (carry c i x).alarms ≡ 4

pub goes : (c : Config) (i : Instrument) → length i.alarms ≡ 4 → (x : Entry) → Goes c i x
goes c i all (measured x) =
    record {
      reading = refl;
      total = refl;
      each = alarms.at_each c.working.alarms i.alarms (read c.scale x);
      four = alarms.four c.working.alarms i.alarms (read c.scale x);
    }
goes c i all (pressed n) = let s = keys c i all n in record { reading = s.reading; total = s.total; each = s.each; four = s.four }
goes c i all (told s) =
    let p = addressed c i all (parse s) (λ n a e. (permitted s n a e).1) in
    record { reading = p.reading; total = p.total; each = p.each; four = p.four }
