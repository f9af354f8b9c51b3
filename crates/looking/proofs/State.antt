-- The meter after a history in closed form: its configuration, what the kept list gives, and a receiver that has heard the bytes.
use mathlib.Core.Path.{◌≡◌, refl, ap, sym, subst, ◌∙◌}
use mathlib.Core.Bool.{true}
use mathlib.Core.List.{List, [], ◌∷◌}
use mathlib.Core.Option.{Option, none, some}
use Rattle.config.specs.Config.{judged}
use Rattle.config.specs.declared.Config.{Config}
use Rattle.config.specs.Verdict.{Verdict}
use Rattle.config.specs.Verdict.{Accepted}
use Rattle.receiver.specs.Receiver.{heard}
use Rattle.receiver.specs.Since.{after, hearing}
use Rattle.receiver.proofs.Hearing.{hears}
use Rattle.meter.specs.Door.{sound}
use Rattle.meter.specs.Meter.{fresh, by_verdict}
use Rattle.meter.specs.declared.Meter.{Meter}
use Rattle.looking.specs.History.{Event, sample, key, byte, History, outcome_of, meter_after, bytes_of, half}
use Rattle.looking.specs.Kept.{Entry, keeps, add, kept}
use Rattle.looking.specs.Given.{given}
use Rattle.looking.proofs.Sound.{fresh_sound, event_sound}
use Rattle.looking.proofs.Does.{carried_by, hears_next, meter_of, next_of, does}

-- what the kept list gives, and what the bytes leave in the receiver
abbrev pub closed : Config → History → Meter
closed c h = meter_of c (given c (kept c h)) (after (bytes_of h))

pub given_add : (c : Config) (o : Option Entry) (ks : List Entry) → carried_by c (given c ks) o ≡ given c (add o ks)
given_add c none ks = refl
given_add c (some k) ks = refl

after_next : (e : Event) (h : History) → hears_next (after (bytes_of h)) e ≡ after (bytes_of (e ∷ h))
unfolding after
after_next (sample x) h = refl
after_next (key k place buffer) h = refl
after_next (byte b place buffer) h = refl

next_closed : (c : Config) (e : Event) (h : History) → next_of c (given c (kept c h)) (after (bytes_of h)) (half h) e ≡ closed c (e ∷ h)
next_closed c e h = λ i. meter_of c (given_add c (keeps c (half h) e) (kept c h) i) (after_next e h i)

module _ (c : Config) (accepted : judged c ≡ Accepted) where
  starts : meter_after c [] ≡ fresh c
  starts = ap (λ (v : Verdict). (by_verdict c v).meter) accepted

  -- the tests at the door never bite
  pub sound_after : (h : History) → sound (meter_after c h) ≡ true
  sound_after [] = rw starts (fresh_sound c accepted)
  sound_after (e ∷ h) = event_sound (meter_after c h) e (sound_after h)

  heard_by : (m : Meter) (h : History) → m ≡ closed c h → heard m.receiver ≡ hearing (half h)
  heard_by m h e = ap (λ (n : Meter). heard n.receiver) e ∙ hears (bytes_of h)

  pub state : (h : History) → meter_after c h ≡ closed c h
  unfolding after
  state [] = starts
  state (e ∷ h) =
      ap (λ (m : Meter). (outcome_of m e).meter) (state h)
      ∙ does c accepted (given c (kept c h)) (after (bytes_of h)) (half h) e (subst (λ (m : Meter). sound m ≡ true) (state h) (sound_after h)) (hears (bytes_of h))
      ∙ next_closed c e h

  -- the receiver has heard the string half received
  pub heard_after : (h : History) → heard (meter_after c h).receiver ≡ hearing (half h)
  heard_after h = heard_by (meter_after c h) h (state h)

  pub config_after : (h : History) → (meter_after c h).config ≡ (fresh c).config
  config_after h = ap (λ (m : Meter). m.config) (state h)

  pub holds : (h : History) → (meter_after c h).instrument ≡ given c (kept c h)
  holds h = ap (λ (m : Meter). m.instrument) (state h)

  pub same_instrument : (h₁ h₂ : History) → kept c h₁ ≡ kept c h₂ → (meter_after c h₁).instrument ≡ (meter_after c h₂).instrument
  same_instrument h₁ h₂ e = holds h₁ ∙ ap (given c) e ∙ sym (holds h₂)
