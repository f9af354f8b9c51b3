-- The kept list played to a fresh meter keeps the same list, and so gives the same instrument.
use mathlib.Core.Path.{◌≡◌, refl, sym, ap, ◌∙◌}
use mathlib.Core.Bool.{Bool, true, false, cond, ◌&&◌}
use mathlib.Core.List.{List, [], ◌∷◌, ◌++◌, append-nil}
use mathlib.Core.Option.{Option, none, some}
use Prim.Native.Nat.{ℕ}
use lib.IntN.{ℤ}
use lib.Seq.{append_snoc}
use Rattle.config.specs.Config.{judged}
use Rattle.config.specs.declared.Config.{Config}
use Rattle.config.specs.Verdict.{Accepted}
use Rattle.register.specs.Bytes.{byte as char}
use Rattle.receiver.specs.Receiver.{ends}
use Rattle.receiver.specs.Since.{since, Unbroken, more, Begun, at_power_up, behind}
use Rattle.receiver.proofs.Beginning.{begun}
use Rattle.form.specs.Change.{change}
use Rattle.looking.specs.History.{Event, sample, key, byte, History, meter_after, bytes_of, node_of, half}
use Rattle.looking.specs.Kept.{Entry, measured, pressed, told, prints, keeps, add, kept}
use Rattle.looking.specs.Sent.{sending}
use Rattle.looking.specs.Looking.{playing, replay}
use Rattle.looking.proofs.Ends.{not_ends}
use Rattle.looking.proofs.State.{same_instrument}
use Rattle.looking.proofs.Whole.{half_more, half_none, kept_none}

-- ── bytes sent one after another ──

module _ (place : ℕ) (buffer : List ℕ) where
  half_sending : (s : List ℕ) (h : History) → Unbroken s → half (sending place buffer s h) ≡ half h ++ s
  half_sending [] h u = sym (append-nil (half h))
  half_sending (b ∷ s) h (more e u) = half_sending s (byte b place buffer ∷ h) u ∙ rw (half_more b place buffer h e, append_snoc)

  kept_sending : (c : Config) (s : List ℕ) (h : History) → Unbroken s → kept c (sending place buffer s h) ≡ kept c h
  kept_sending c [] h u = refl
  kept_sending c (b ∷ s) h (more e u) = kept_sending c s (byte b place buffer ∷ h) u ∙ kept_none c b place buffer h (not_ends b e)

-- the string half received holds no ending byte
unbroken_begun : {all s : List ℕ} → Begun all s → Unbroken s
unbroken_begun (at_power_up u) = u
unbroken_begun (behind before b e u) = u

unbroken_half : (h : History) → Unbroken (half h)
unbroken_half h = unbroken_begun (begun (bytes_of h))

module _ (c : Config) where
  -- an entry that a history can leave
  abbrev Fits : Entry → Type 0
  Fits (measured x) = Unit {0}
  Fits (pressed k) = prints k ≡ false
  Fits (told s) = Unbroken s × (change (node_of c) s ≡ true)

  abbrev AllFit : List Entry → Type 0
  AllFit [] = Unit {0}
  AllFit (k ∷ ks) = Fits k × AllFit ks

  -- ── what a history leaves fits ──

  abbrev OneFits : Option Entry → Type 0
  OneFits none = Unit {0}
  OneFits (some k) = Fits k

  add_fits : (o : Option Entry) (ks : List Entry) → OneFits o → AllFit ks → AllFit (add o ks)
  add_fits none ks f a = a
  add_fits (some k) ks f a = (f, a)

  key_fits : (k : ℤ) (t : Bool) → prints k ≡ t → OneFits (cond t none (some (pressed k)))
  key_fits k true e = tt
  key_fits k false e = e

  string_fits : (s : List ℕ) (t u : Bool) → change (node_of c) s ≡ u → Unbroken s → OneFits (cond (t && u) (some (told s)) none)
  string_fits s true true e x = (x, e)
  string_fits s true false e x = tt
  string_fits s false u e x = tt

  event_fits : (e : Event) (s : List ℕ) → Unbroken s → OneFits (keeps c s e)
  event_fits (sample x) s u = tt
  event_fits (key k place buffer) s u = key_fits k (prints k) refl
  event_fits (byte b place buffer) s u = string_fits s (ends b) (change (node_of c) s) refl u

  kept_fits : (h : History) → AllFit (kept c h)
  kept_fits [] = tt
  kept_fits (e ∷ h) = add_fits (keeps c (half h) e) (kept c h) (event_fits e (half h) (unbroken_half h)) (kept_fits h)

  -- ── what fits is kept again ──

  told_kept : (s t : List ℕ) (ks : List Entry) → t ≡ s → change (node_of c) s ≡ true → add (keeps c t (byte (char "*") 0 [])) ks ≡ told s ∷ ks
  told_kept s t ks e q = rw (e, q)

  playing_half : (k : Entry) (h : History) → half h ≡ [] → half (playing k h) ≡ []
  playing_half (measured x) h e = e
  playing_half (pressed k) h e = e
  playing_half (told s) h e = half_none (char "*") 0 [] (sending 0 [] s h) refl

  playing_kept : (k : Entry) (h : History) → half h ≡ [] → Fits k → kept c (playing k h) ≡ k ∷ kept c h
  playing_kept (measured x) h e f = refl
  playing_kept (pressed k) h e f = rw f
  playing_kept (told s) h e f =
      told_kept s (half (sending 0 [] s h)) (kept c (sending 0 [] s h)) (half_sending 0 [] s h f.0 ∙ rw e) f.1
      ∙ ap (λ (ks : List Entry). told s ∷ ks) (kept_sending 0 [] c s h f.0)

  kept_replay : (ks : List Entry) → AllFit ks → (kept c (replay ks) ≡ ks) × (half (replay ks) ≡ [])
  unfolding since
  kept_replay [] a = (refl, refl)
  kept_replay (k ∷ ks) a =
      let r = kept_replay ks a.1 in
      (playing_kept k (replay ks) r.1 a.0 ∙ ap (λ (l : List Entry). k ∷ l) r.0, playing_half k (replay ks) r.1)

  pub replay_keeps : (h : History) → kept c (replay (kept c h)) ≡ kept c h
  replay_keeps h = (kept_replay (kept c h) (kept_fits h)).0

  pub replayed : judged c ≡ Accepted → (h : History) → (meter_after c (replay (kept c h))).instrument ≡ (meter_after c h).instrument
  replayed accepted h = same_instrument c accepted (replay (kept c h)) h (replay_keeps h)
