-- A read that ends, and key 6, show what the kept list gives; so equal kept lists get equal bytes.
use mathlib.Core.Path.{◌≡◌, sym, ap, subst, ◌∙◌}
use mathlib.Core.Bool.{true}
use mathlib.Core.List.{List, [], ◌++◌}
use Prim.Native.Nat.{ℕ, ◌≤◌}
use native.Mathlib.Omega.{arith}
use borrow.Author.Tests.{le-ltb}
use lib.IntN.{pos}
use lib.ListN.{length, take, drop}
use lib.Seq.{take-append_seam, drop_at, length-take-le}
use Rattle.config.specs.Config.{judged}
use Rattle.config.specs.declared.Config.{Config}
use Rattle.config.specs.Verdict.{Accepted}
use Rattle.receiver.specs.Receiver.{limit, ends}
use Rattle.receiver.specs.Since.{after, hearing}
use Rattle.receiver.specs.declared.Receiver.{Receiver}
use Rattle.receiver.proofs.Hearing.{hears}
use Rattle.command.specs.declared.Asked.{Asked}
use Rattle.line.specs.Buffer as buffers
use Rattle.instrument.specs.declared.Instrument.{Instrument}
use Rattle.effect.specs.Reply.{print_reply}
use Rattle.answer.specs.Answer as answers
use Rattle.meter.specs.Door.{sound}
use Rattle.meter.specs.Meter.{Step, received, keyed}
use Rattle.meter.specs.declared.Meter.{Meter}
use Rattle.promises.specs.Calls.{Call, result}
use Rattle.promises.specs.Rows.{Gives, Ends, Room}
use Rattle.promises.proofs.Rows.{event_rows}
use Rattle.looking.specs.History.{History, meter_after, bytes_of, node_of, half}
use Rattle.looking.specs.Kept.{kept}
use Rattle.looking.specs.Given.{given}
use Rattle.looking.specs.Sent as sent
use Rattle.looking.specs.Sent.{Sent, Reads, reply_to, shown_by}
use Rattle.looking.specs.Looking.{SameReply}
use Rattle.looking.proofs.Does.{meter_of}
use Rattle.looking.proofs.Ends.{end_kind}
use Rattle.looking.proofs.State.{closed, state, sound_after, holds}
use Rattle.looking.proofs.Whole.{sent_half, sent_kept, short_reads}

-- ── a reply that has room ──

-- a step answers 2, and has put the reply's bytes from its place on
record Shows (o : Step) (place : ℕ) (reply : List ℕ) : Type 0 where
  pub number : answers.number o.outcome.answer ≡ 2
  pub bytes : shown_by o place ≡ reply

laid_shown : (reply buffer : List ℕ) (place : ℕ) → place ≤ length buffer → take (length reply) (drop place (buffers.laid buffer place reply)) ≡ reply
unfolding buffers.laid buffers.over
laid_shown reply buffer place h =
    rw (drop_at (take place buffer) (reply ++ drop (length reply) (drop place buffer)) place (length-take-le place buffer h), take-append_seam)

shows : {k : Call} {m : Meter} (reply buffer : List ℕ) (place : ℕ) → Room reply buffer place → Gives k 2 (length reply) m (buffers.laid buffer place reply)
    → Shows (result k) place reply
shows reply buffer place h g = record { number = g.number; bytes = rw (g.value, g.bytes) (laid_shown reply buffer place (omega arith)) }

same_shown : {o₁ o₂ : Step} {place₁ place₂ : ℕ} {reply : List ℕ} → Shows o₁ place₁ reply → Shows o₂ place₂ reply → SameReply o₁ o₂ place₁ place₂
same_shown s t = record { first = s.number; second = t.number; bytes = s.bytes ∙ sym t.bytes }

-- ── a read that ends, and key 6 ──

ended_read : (c : Config) (i : Instrument) (h : Receiver) {s : List ℕ} {a : Asked} (b place : ℕ) (buffer : List ℕ) → Ends (meter_of c i h) b s → Reads s (node_of c) a
    → Room (reply_to c i a) buffer place → Shows (received (meter_of c i h) b buffer place) place (reply_to c i a)
ended_read c i h {s} b place buffer end (sent.read {r} x) room = shows _ buffer place room ((event_rows (meter_of c i h) buffer place).row_2.read b r s end x room)
ended_read c i h {s} b place buffer end (sent.print x) room = shows _ buffer place room ((event_rows (meter_of c i h) buffer place).row_2.print b s end x room)

module _ (c : Config) (accepted : judged c ≡ Accepted) where
  sound_closed : (h : History) → sound (closed c h) ≡ true
  sound_closed h = subst (λ (m : Meter). sound m ≡ true) (state c accepted h) (sound_after c accepted h)

  ends_closed : (h : History) (s : List ℕ) (a : Asked) (b : ℕ) → half h ≡ s → Reads s (node_of c) a → ends b ≡ true → Ends (closed c h) b s
  ends_closed h s a b e x t =
      record {
        started = sound_closed h;
        ends = end_kind b t;
        string = hears (bytes_of h) ∙ ap hearing e ∙ rw (le-ltb limit (length s) (omega (arith, (short_reads x).short)));
      }

  -- what is shown is what the kept list before the read gives
  read_shows : (h g : History) (s : List ℕ) (a : Asked) (b place : ℕ) (buffer : List ℕ) → half h ≡ [] → Reads s (node_of c) a → Sent h s g → ends b ≡ true
      → Room (reply_to c (meter_after c h).instrument a) buffer place
      → Shows (received (meter_after c g) b buffer place) place (reply_to c (given c (kept c h)) a)
  read_shows h g s a b place buffer none-half x sending t room =
      let u = (short_reads x).unbroken in
      rw (state c accepted g, ← sent_kept c sending u)
      (ended_read c (given c (kept c g)) (after (bytes_of g)) b place buffer (ends_closed g s a b (sent_half sending u ∙ rw none-half) x t) x (rw (sent_kept c sending u, ← holds c accepted h) room))

  print_shows : (h : History) (place : ℕ) (buffer : List ℕ) → Room (print_reply c.talking c.working (meter_after c h).instrument) buffer place
      → Shows (keyed (meter_after c h) (pos 6) buffer place) place (print_reply c.talking c.working (given c (kept c h)))
  print_shows h place buffer room =
      let r = rw (holds c accepted h) at room in
      rw (state c accepted h) (shows _ buffer place r ((event_rows (closed c h) buffer place).row_2.print_key (sound_closed h) r))

  -- ── two histories with equal kept lists ──

  pub same_reply : (h₁ h₂ g₁ g₂ : History) (s : List ℕ) (a : Asked) (b₁ b₂ place₁ place₂ : ℕ) (buffer₁ buffer₂ : List ℕ)
      → kept c h₁ ≡ kept c h₂ → half h₁ ≡ [] → half h₂ ≡ []
      → Reads s (node_of c) a → Sent h₁ s g₁ → Sent h₂ s g₂ → ends b₁ ≡ true → ends b₂ ≡ true
      → Room (reply_to c (meter_after c h₁).instrument a) buffer₁ place₁ → Room (reply_to c (meter_after c h₂).instrument a) buffer₂ place₂
      → SameReply (received (meter_after c g₁) b₁ buffer₁ place₁) (received (meter_after c g₂) b₂ buffer₂ place₂) place₁ place₂
  same_reply h₁ h₂ g₁ g₂ s a b₁ b₂ place₁ place₂ buffer₁ buffer₂ e n₁ n₂ x t₁ t₂ end₁ end₂ room₁ room₂ =
      same_shown (rw e at (read_shows h₁ g₁ s a b₁ place₁ buffer₁ n₁ x t₁ end₁ room₁)) (read_shows h₂ g₂ s a b₂ place₂ buffer₂ n₂ x t₂ end₂ room₂)

  pub same_print : (h₁ h₂ : History) (place₁ place₂ : ℕ) (buffer₁ buffer₂ : List ℕ) → kept c h₁ ≡ kept c h₂
      → Room (print_reply c.talking c.working (meter_after c h₁).instrument) buffer₁ place₁ → Room (print_reply c.talking c.working (meter_after c h₂).instrument) buffer₂ place₂
      → SameReply (keyed (meter_after c h₁) (pos 6) buffer₁ place₁) (keyed (meter_after c h₂) (pos 6) buffer₂ place₂) place₁ place₂
  same_print h₁ h₂ place₁ place₂ buffer₁ buffer₂ e room₁ room₂ =
      same_shown (rw e at (print_shows h₁ place₁ buffer₁ room₁)) (print_shows h₂ place₂ buffer₂ room₂)
