-- What settling makes of an effect, whatever buffer is lent. Assumes nothing.
use Rattle.std.specs.Prelude.{Option, None, Some}
use mathlib.Core.Path.{◌≡◌, refl, sym, ap, subst, ◌∙◌}
use mathlib.Core.Bool.{Bool, true, false}
use mathlib.Core.List.{List, ◌++◌, append_assoc}
use mathlib.Core.Logic.{◌≢◌}
use Prim.Native.Nat.{ℕ, ◌+◌, ◌-◌, ◌≤◌, ◌<◌}
use native.Mathlib.Omega.{arith}
use borrow.Author.Tests.{le-leb, lt-leb, leb-true, leb-false}
use lib.Dec.{leb}
use lib.ListN.{length, take, drop, length-append}
use lib.Seq.{take_at, drop_at, drop-drop, length-take-le}
use Rattle.answer.specs.Answer.{number}
use Rattle.answer.specs.declared.Answer.{Answer}
use Rattle.answer.specs.declared.Answer.TheVariants.{Done, Replied, NoRoom}
use Rattle.config.specs.declared.Working.{Working}
use Rattle.line.specs.Buffer as buffers
use Rattle.line.proofs.Over.{laid_length}
use Rattle.instrument.specs.declared.Instrument.{Instrument}
use Rattle.effect.specs.Effect.{Effect, replies, settled, by_room, settle}
use Rattle.effect.specs.declared.Settled.{Settled}
use Rattle.meter.specs.Meter.{step, settled_in}
use Rattle.meter.specs.declared.Meter.{Meter}
use Rattle.promises.specs.Rows.{Room, Cramped}
use Rattle.promises.specs.Leaves.{Buffer}
use Rattle.promises.proofs.Effects.{Changed, Upon, done, refused, reply}

-- ---- a reply, with room and without

has_room : (size place n : ℕ) → place + n ≤ size → buffers.room size place n ≡ true
has_room size place n h = rw (le-leb place size (omega arith), le-leb n (size - place) (omega arith))

no_room_by : (size place n : ℕ) (t : Bool) → leb place size ≡ t → size < place + n → buffers.room size place n ≡ false
no_room_by size place n true e h = rw (e, lt-leb n (size - place) (omega (arith, leb-true place size e)))
no_room_by size place n false e h = rw e

module _ (before i : Instrument) (text d : List ℕ) (place : ℕ) where
  pub with_room : Room text d place → settle before (replies text i) d place ≡ record { settled = settled (Replied (length text)) i; buffer = buffers.laid d place text }
  unfolding buffers.answer buffers.after
  with_room h = rw (has_room (length d) place (length text) h)

  pub without_room : Cramped text d place → settle before (replies text i) d place ≡ record { settled = settled NoRoom before; buffer = d }
  unfolding buffers.answer buffers.after
  without_room h = rw (no_room_by (length d) place (length text) (leb place (length d)) refl h)

-- ---- the lent buffer

module _ (d : List ℕ) (place : ℕ) where
  -- a step that leaves it, by an answer other than 2
  pub same : (a : Answer) (n : Meter) → number a ≢ 2 → Buffer d place (step a n d)
  same a n other =
      record { untouched = λ _. refl; within = λ e. absurd (other e); before = refl; behind = refl; as_long = refl }

  -- what stands before a reply, and what behind it
  before_reply : (text : List ℕ) → place ≤ length d → take place (buffers.laid d place text) ≡ take place d
  unfolding buffers.laid
  before_reply text h = take_at (take place d) (buffers.over (drop place d) text) place (length-take-le place d h)

  behind_reply : (text : List ℕ) → place ≤ length d → drop (place + length text) (buffers.laid d place text) ≡ drop (place + length text) d
  unfolding buffers.laid buffers.over
  behind_reply text h =
      let k : length (take place d ++ text) ≡ place + length text = length-append (take place d) text ∙ ap (λ (n : ℕ). n + length text) (length-take-le place d h) in
      let r = drop (length text) (drop place d) in
      rw (← append_assoc (take place d) text r, drop_at (take place d ++ text) r (place + length text) k, drop-drop (length text) place d)

  laid_fine : (text : List ℕ) (n : Meter) → Room text d place → Buffer d place (step (Replied (length text)) n (buffers.laid d place text))
  laid_fine text n room =
      record {
        untouched = λ other. absurd (other refl);
        within = λ _. room;
        before = before_reply text (omega arith);
        behind = behind_reply text (omega arith);
        as_long = laid_length d text place room;
      }

  reply_fine : (before i : Instrument) (text : List ℕ) (n : Meter) (t : Bool) → leb (place + length text) (length d) ≡ t
      → Buffer d place (settled_in n (settle before (replies text i) d place))
  reply_fine before i text n true e =
      let room = leb-true (place + length text) (length d) e in
      subst (λ s. Buffer d place (settled_in n s)) (sym (with_room before i text d place room)) (laid_fine text _ room)
  reply_fine before i text n false e =
      let cramped = leb-false (place + length text) (length d) e in
      subst (λ s. Buffer d place (settled_in n s)) (sym (without_room before i text d place cramped)) (same NoRoom _ (λ q. omega arith))

-- ---- an effect upon i

-- what holds of a reply that was written, and of one without room, holds of a reply
by_room_lem : (P : Settled → Type 0) (i : Instrument) (w : Option ℕ) → ((n : ℕ) → P (settled (Replied n) i)) → P (settled NoRoom i) → P (by_room i i w)
by_room_lem P i (Some n) p q = p n
by_room_lem P i None p q = q

module _ {w : Working} {i : Instrument} {Refusal : ℕ → Type 0} (d : List ℕ) (place : ℕ) where
  -- it is answered by 0, by a refusal, or as a reply by 2 or 9
  pub answered_by : (P : ℕ → Type 0) → P 0 → ((n : ℕ) → Refusal n → P n) → P 2 → P 9 → {e : Effect} → Upon w i Refusal e
      → P (number (settle i e d place).settled.answer)
  answered_by P p0 pr p2 p9 (done c) = p0
  answered_by P p0 pr p2 p9 (refused a r) = pr (number a) r
  answered_by P p0 pr p2 p9 (reply text) = by_room_lem (λ s. P (number s.answer)) i (buffers.answer d place text) (λ n. p2) p9

  -- what holds of i and of all that changes make of it holds of what is left
  pub left_by : (P : Instrument → Type 0) → P i → ((j : Instrument) → Changed w i j → P j) → {e : Effect} → Upon w i Refusal e
      → P (settle i e d place).settled.instrument
  left_by P p q (done {j} c) = q j c
  left_by P p q (refused a r) = p
  left_by P p q (reply text) = by_room_lem (λ s. P s.instrument) i (buffers.answer d place text) (λ n. p) p

  -- unless by 0 that is i itself
  pub stays : {e : Effect} → Upon w i Refusal e → number (settle i e d place).settled.answer ≢ 0 → (settle i e d place).settled.instrument ≡ i
  stays (done c) other = absurd (other refl)
  stays (refused a r) other = refl
  stays (reply text) other = by_room_lem (λ s. s.instrument ≡ i) i (buffers.answer d place text) (λ n. refl) refl

  -- it touches the buffer only by 2
  pub settled_fine : (n : Meter) → (Refusal 2 → ⊥) → {e : Effect} → Upon w i Refusal e → Buffer d place (settled_in n (settle i e d place))
  settled_fine n never (done c) = same d place Done _ (λ q. omega arith)
  settled_fine n never (refused a r) = same d place a _ (λ q. never (rw q at r))
  settled_fine n never (reply text) = reply_fine d place i i text n (leb (place + length text) (length d)) refl
