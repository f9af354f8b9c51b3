-- Each event does to a sound meter what the entry that is kept of it says, and to its receiver what a byte does; its configuration stays.
use Rattle.std.specs.Prelude.{Option as Written, None, Some}
use mathlib.Core.Path.{◌≡◌, refl, sym, ap, ◌∙◌}
use mathlib.Core.Bool.{Bool, true, false, cond, not, ◌&&◌}
use mathlib.Core.List.{List}
use mathlib.Core.Option.{Option, none, some}
use Prim.Native.Nat.{ℕ}
use lib.Dec.{eqb}
use lib.IntN.{ℤ, pos}
use lib.ListN.{length}
use Rattle.exact.proofs.Z.{never, eq_z_true}
use Rattle.config.specs.Config.{judged}
use Rattle.config.specs.declared.Config.{Config}
use Rattle.config.specs.Verdict.{Accepted}
use Rattle.config.specs.declared.Working.{Working}
use Rattle.config.proofs.Acceptance.{scale_accepted}
use Rattle.segments.proofs.ByPoints.{reads}
use Rattle.receiver.specs.Receiver.{bytes, too_long, ends, drops, over, kind, next, heard}
use Rattle.receiver.specs.Since.{hearing}
use Rattle.receiver.specs.declared.Receiver.{Receiver}
use Rattle.receiver.specs.declared.Kind.TheVariants.{End, Drop, Part}
use Rattle.command.specs.Parse.{parse}
use Rattle.command.specs.declared.Asked.{Asked}
use Rattle.command.specs.declared.Asked.TheVariants.{Read, Print, Reset, Write, Status, BadForm}
use Rattle.command.specs.Parse.{Parsed}
use Rattle.form.specs.Change.{alters, alters_at, change}
use Rattle.line.specs.Buffer as buffers
use Rattle.instrument.specs.declared.Instrument.{Instrument}
use Rattle.effect.specs.Effect as effects
use Rattle.effect.specs.Effect.{Effect, stands, leaves, settled, by_room, settle, addressed, carried}
use Rattle.answer.specs.declared.Answer.TheVariants.{OtherNode}
use Rattle.meter.specs.Door.{sound, reach_of}
use Rattle.meter.specs.Meter.{Step, fresh, with_instrument, with_receiver, end_effect, takes, by_kind}
use Rattle.meter.specs.declared.Meter.{Meter}
use Rattle.promises.proofs.Door.{stands_open, keyed_in, received_in, ended_as, at_end}
use Rattle.promises.proofs.Effects.{Upon, done, refused, reply, key_upon, end_upon}
use Rattle.looking.specs.History.{Event, sample, key, byte, outcome_of, node_of}
use Rattle.looking.specs.Kept.{Entry, pressed, told, prints, keeps}
use Rattle.looking.specs.Given.{carry}

-- what nothing or one entry does
abbrev pub carried_by : Config → Instrument → Option Entry → Instrument
carried_by c i none = i
carried_by c i (some k) = carry c i k

-- what an event does to the receiver
abbrev pub hears_next : Receiver → Event → Receiver
hears_next r (sample x) = r
hears_next r (key k place buffer) = r
hears_next r (byte b place buffer) = next r b

-- a meter of a configuration
abbrev pub meter_of : Config → Instrument → Receiver → Meter
meter_of c i r = record { config = (fresh c).config; instrument = i; receiver = r }

-- the meter after an event, with the string s half received
abbrev pub next_of : Config → Instrument → Receiver → List ℕ → Event → Meter
next_of c i r s e = meter_of c (carried_by c i (keeps c s e)) (hears_next r e)

module _ (c : Config) (i : Instrument) where
  -- ── a string that is no V or R to this meter leaves the instrument ──

  asked_idle : (a : Asked) → alters a ≡ false → leaves (carried c.talking c.working i a) ≡ i
  asked_idle (Read r) e = refl
  asked_idle Print e = refl
  asked_idle (Reset r) e = never (sym e)
  asked_idle (Write r z) e = never (sym e)
  asked_idle (Status b) e = never (sym e)
  asked_idle BadForm e = refl

  node_idle : (a : Asked) (t : Bool) → (t && alters a) ≡ false → leaves (cond t (carried c.talking c.working i a) (stands (settled OtherNode i))) ≡ i
  node_idle a true e = asked_idle a e
  node_idle a false e = refl

  parsed_idle : (p : Parsed) → alters_at (node_of c) p ≡ false → leaves (addressed c.talking c.working i p) ≡ i
  parsed_idle None e = refl
  parsed_idle (Some (n, a)) e = node_idle a (eqb n (node_of c)) e

  told_does : (s : List ℕ) (t : Bool) → alters_at (node_of c) (parse s) ≡ t
      → leaves (effects.told c.talking c.working i s) ≡ carried_by c i (cond t (some (told s)) none)
  told_does s true e = refl
  told_does s false e = parsed_idle (parse s) e

  -- ── key 6 leaves it too ──

  key_does : (k : ℤ) (t : Bool) → prints k ≡ t → leaves (effects.pressed c.talking c.working i k) ≡ carried_by c i (cond t none (some (pressed k)))
  key_does k true e = rw (eq_z_true k (pos 6) e)
  key_does k false e = refl

-- ── an effect is settled with the instrument that it leaves: a reply's is the one before it, so room makes no difference ──

by_room_lem : (i : Instrument) (w : Written ℕ) → (by_room i i w).instrument ≡ i
by_room_lem i (Some n) = refl
by_room_lem i None = refl

settles : {w : Working} {i : Instrument} {Refusal : ℕ → Type 0} {e : Effect} (buffer : List ℕ) (place : ℕ) → Upon w i Refusal e
    → (settle i e buffer place).settled.instrument ≡ leaves e
settles buffer place (done c) = refl
settles buffer place (refused a r) = refl
settles {i = i} buffer place (reply text) = by_room_lem i (buffers.answer buffer place text)

-- ── a byte ──

module _ (c : Config) (i : Instrument) (r : Receiver) (s : List ℕ) (buffer : List ℕ) (place : ℕ) where
  abbrev m : Meter
  m = meter_of c i r

  long_does : (t : Bool) → leaves (ended_as m (cond t too_long (bytes s))) ≡ carried_by c i (cond (not t && alters_at (node_of c) (parse s)) (some (told s)) none)
  long_does true = refl
  long_does false = told_does c i s (alters_at (node_of c) (parse s)) refl

  end_does : heard r ≡ hearing s → leaves (end_effect m) ≡ carried_by c i (cond (change (node_of c) s) (some (told s)) none)
  unfolding change
  end_does e = ap leaves (at_end m (hearing s) e) ∙ long_does (over (length s))

  kind_does : (q : Receiver) (t u : Bool) → heard r ≡ hearing s
      → (by_kind m (with_receiver m q) buffer place (cond t End (cond u Drop Part))).outcome.meter
      ≡ meter_of c (carried_by c i (cond (t && change (node_of c) s) (some (told s)) none)) q
  kind_does q true u e = ap (with_instrument (with_receiver m q)) (settles buffer place (end_upon m) ∙ end_does e)
  kind_does q false true e = refl
  kind_does q false false e = refl

  byte_does : (b : ℕ) → heard r ≡ hearing s → (by_kind m (takes m b) buffer place (kind b)).outcome.meter ≡ next_of c i r s (byte b place buffer)
  unfolding kind
  byte_does b e = kind_does (next r b) (ends b) (drops b) e

-- ── an event: a sample is read by what the meter holds, and so as its configuration says ──

pub does : (c : Config) → judged c ≡ Accepted → (i : Instrument) (r : Receiver) (s : List ℕ) (e : Event) → sound (meter_of c i r) ≡ true → heard r ≡ hearing s
    → (outcome_of (meter_of c i r) e).meter ≡ next_of c i r s e
does c a i r s (sample x) ok e = rw (ok, reads c.scale (scale_accepted c a) x)
does c a i r s (key k place buffer) ok e =
    let m = meter_of c i r in
    ap (λ (o : Step). o.outcome.meter) (keyed_in m buffer place k ok)
    ∙ ap (with_instrument m) (settles buffer place (key_upon m k) ∙ key_does c i k (prints k) refl)
does c a i r s (byte b place buffer) ok e =
    let m = meter_of c i r in
    ap (λ (o : Step). o.outcome.meter) (received_in m buffer place b (stands_open m (reach_of (kind b)) ok)) ∙ byte_does c i r s buffer place b e
