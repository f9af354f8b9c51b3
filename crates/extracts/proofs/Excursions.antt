-- The excursions of a meter's alarm: they are made by its own events, and looking put into a history moves neither end. Assumes nothing.
use mathlib.Core.Path.{◌≡◌, refl, sym, ap, ◌∙◌}
use mathlib.Core.Bool.{Bool, true, false, cond}
use mathlib.Core.List.{List, [], ◌∷◌}
use mathlib.Core.Option.{Option, none, some}
use Prim.Native.Nat.{ℕ, suc, ◌<◌}
use lib.IntN.{pos}
use Rattle.exact.proofs.Z.{never}
use Rattle.course.specs.Course as courses
use Rattle.course.specs.Course.{events}
use Rattle.reading.specs.declared.Reading.{Reading}
use Rattle.alarm.specs.History as alarms
use Rattle.alarm.specs.declared.Alarm.{Alarm}
use Rattle.alarm.specs.Excursions.{is_sample, noted, samples_in}
use Rattle.alarm.proofs.Excursions.{lasting, noted_none, by_events}
use Rattle.alarms.specs.Alarms.{alarm_at, settings_at}
use Rattle.register.specs.Bytes.{byte as char}
use Rattle.config.specs.Config.{judged}
use Rattle.config.specs.declared.Config.{Config}
use Rattle.config.specs.Verdict.{Accepted}
use Rattle.meter.specs.Meter.{Step}
use Rattle.looking.specs.History.{Event, sample, key, byte, History, meter_after, half}
use Rattle.looking.specs.Kept.{Entry, keeps, add, kept}
use Rattle.looking.specs.Inserted.{Inserted, power_up, event, print_key, begins, part, sample_between, key_between, ended, dropped}
use Rattle.looking.proofs.Looking.{looking}
use Rattle.extracts.specs.Events.{through, to_alarm, alarm_event, alarm_course, first_of, alarm_on, is_on}
use Rattle.extracts.specs.Told.{Samples, read_as}
use Rattle.extracts.specs.Extracts.{excursions_of, Excursions}
use Rattle.extracts.proofs.Follows.{alarm_follows}
use Rattle.extracts.proofs.Told.{are_told}

module _ (c : Config) (k : ℕ) where
  -- ---- what comes to an alarm is made of the kept list

  abbrev picked : List Entry → List alarms.Event
  picked [] = []
  picked (x ∷ ks) = courses.add (to_alarm c k x) (picked ks)

  picked_more : (o : Option Entry) (ks : List Entry) → courses.add (through (to_alarm c k) o) (picked ks) ≡ picked (add o ks)
  picked_more none ks = refl
  picked_more (some x) ks = refl

  events_are : (h : History) → events (alarm_course c k) h ≡ picked (kept c h)
  events_are [] = refl
  events_are (e ∷ h) = rw (events_are h) (picked_more (keeps c (half h) e) (kept c h))

  -- ---- samples alone are samples

  abbrev is_input : Event → Bool
  is_input (sample x) = true
  is_input (key n place buffer) = false
  is_input (byte b place buffer) = false

  is_input_lem : {h : History} {r : Reading} {e : Event} → Samples c h r e → is_input e ≡ true
  is_input_lem (read_as x q) = refl

  not_sampled : (h : History) (e : Event) → is_input e ≡ false → is_sample (alarm_event c k h e) ≡ false
  not_sampled h e n = go (alarm_event c k h e) refl
    where
      go : (o : Option alarms.Event) → alarm_event c k h e ≡ o → is_sample o ≡ false
      go none q = refl
      go (some (alarms.sample r)) q = never (sym n ∙ is_input_lem (((are_told c h).alarm_sampled k e r).0 q))
      go (some alarms.reset_key) q = refl
      go (some (alarms.setpoint z)) q = refl

  sampled_is : (h : History) (e : Event) → is_sample (alarm_event c k h e) ≡ is_input e
  sampled_is h (sample x) = refl
  sampled_is h (key n place buffer) = not_sampled h (key n place buffer) refl
  sampled_is h (byte b place buffer) = not_sampled h (byte b place buffer) refl

  -- ---- two histories with the same excursions after the same number of samples

  pub record Same (h g : History) : Type 0 where
    pub excursions : excursions_of c k g ≡ excursions_of c k h
    pub samples : samples_in (alarm_course c k) g ≡ samples_in (alarm_course c k) h

  -- the same event after both
  event_same : (h g : History) (e : Event) → is_on c k g ≡ is_on c k h → is_on c k (e ∷ g) ≡ is_on c k (e ∷ h) → Same h g → Same (e ∷ h) (e ∷ g)
  event_same h g e before after s =
      let q : is_sample (alarm_event c k g e) ≡ is_sample (alarm_event c k h e) = sampled_is g e ∙ sym (sampled_is h e) in
      let n : samples_in (alarm_course c k) (e ∷ g) ≡ samples_in (alarm_course c k) (e ∷ h) = λ i. cond (q i) (suc (s.samples i)) (s.samples i) in
      record { excursions = λ i. noted (q i) (n i) (before i) (after i) (s.excursions i); samples = n }

  -- an event more that is no sample and leaves the state
  event_more : (h g : History) (e : Event) → is_input e ≡ false → is_on c k (e ∷ g) ≡ is_on c k g → Same h g → Same h (e ∷ g)
  event_more h g e n stays s =
      let q = not_sampled g e n in
      let m : samples_in (alarm_course c k) (e ∷ g) ≡ samples_in (alarm_course c k) g = λ i. cond (q i) (suc (samples_in (alarm_course c k) g)) (samples_in (alarm_course c k) g) in
      record {
        excursions = (λ i. noted (q i) (m i) (is_on c k g) (stays i) (excursions_of c k g)) ∙ noted_none (samples_in (alarm_course c k) g) (is_on c k g) (excursions_of c k g) ∙ s.excursions;
        samples = m ∙ s.samples;
      }

module _ (c : Config) (accepted : judged c ≡ Accepted) (k : ℕ) where
  -- CR drops what is half received and leaves the instrument: so looking that is not at its end leaves it as well
  still : (h g : History) (going : Option (List ℕ)) → Inserted c h g going → (meter_after c g).instrument ≡ (meter_after c h).instrument
  still h g none x = (looking c accepted).unmoved h g x
  still h g (some s) x =
      ap (λ (o : Step). o.outcome.meter.instrument) (sym ((looking c accepted).dropping g (char "\r") 0 [] refl))
      ∙ (looking c accepted).unmoved h (byte (char "\r") 0 [] ∷ g) (dropped (char "\r") 0 [] refl x)

  on_still : {h g : History} {going : Option (List ℕ)} → Inserted c h g going → is_on c k g ≡ is_on c k h
  on_still {h} {g} {going} x = ap (alarm_on k) (still h g going x)

  same : {h g : History} {going : Option (List ℕ)} → Inserted c h g going → Same c k h g
  same power_up = record { excursions = refl; samples = refl }
  same (event {h} {g} e x) = event_same c k h g e (on_still x) (on_still (event e x)) (same x)
  same (print_key {h} {g} place buffer x) = event_more c k h g (key (pos 6) place buffer) refl (on_still (print_key place buffer x) ∙ sym (on_still x)) (same x)
  same (begins n x) = same x
  same (part {h} {g} b place buffer e x) = event_more c k h g (byte b place buffer) refl (on_still (part b place buffer e x) ∙ sym (on_still x)) (same x)
  same (sample_between {h} {g} y x) = event_same c k h g (sample y) (on_still x) (on_still (sample_between y x)) (same x)
  same (key_between {h} {g} n place buffer x) = event_same c k h g (key n place buffer) (on_still x) (on_still (key_between n place buffer x)) (same x)
  same (ended {h} {g} b place buffer e i x) = event_more c k h g (byte b place buffer) refl (on_still (ended b place buffer e i x) ∙ sym (on_still x)) (same x)
  same (dropped {h} {g} b place buffer e x) = event_more c k h g (byte b place buffer) refl (on_still (dropped b place buffer e x) ∙ sym (on_still x)) (same x)

  pub are_excursions : k < 4 → Excursions c k
  are_excursions h =
      let f = alarm_follows c accepted k h in
      let by = by_events (settings_at c.working.alarms k) (first_of c k) (alarm_course c k) (λ g. alarm_at (meter_after c g).instrument.alarms k) f in
      record {
        lasting = lasting (alarm_course c k) (is_on c k) (ap (λ (a : Alarm). a.on) f.starts);
        by_events = by;
        by_kept = λ h₁ h₂ q. by h₁ h₂ (events_are c k h₁ ∙ ap (picked c k) q ∙ sym (events_are c k h₂));
        unmoved = λ h₁ g x. (same x).excursions;
      }
