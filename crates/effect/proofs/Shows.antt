-- What settings and instrument show fits into a line, and into a block; and a block is made of the lines that T gives. Assumes nothing.
use native.Mathlib.Omega.{arith}
use mathlib.Core.Path.{◌≡◌, refl}
use Prim.Native.Nat.{ℕ, zero, suc, ◌^◌, ◌≤◌, ◌<◌}
use lib.IntN.{nat_abs}
use Rattle.exact.proofs.Z.{from_to}
use Rattle.register.specs.Registers.{at, count}
use Rattle.field.specs.Field.{Showable}
use Rattle.line.specs.Line.{Writable}
use Rattle.block.specs.Block.{block}
use Rattle.block.specs.Values.{value_at, places_of, value_line, Printable}
use Rattle.block.proofs.Blocks.{block_same}
use Rattle.config.specs.declared.Talking.{Talking}
use Rattle.config.specs.declared.Working.{Working}
use Rattle.config.specs.declared.Places.{Places}
use Rattle.instrument.specs.Shown.{shown_at, places_at}
use Rattle.instrument.specs.declared.Instrument.{Instrument}
use Rattle.instrument.proofs.Soundness.{passes}
use Rattle.instrument.proofs.Sizes.{shown_size, few}
use Rattle.effect.specs.Reply.{style, read_reply, print_reply}
use Rattle.effect.specs.Values.{values}
use Rattle.effect.specs.Able.{Able}

-- ---- the values of a block are what the registers show

module _ (p : Places) (w : Working) (i : Instrument) where
  -- each with its value and its places
  shown_there : (r : ℕ) → r ≤ at "H" → (value_at (values p w i) r ≡ shown_at w i r) × (places_of (values p w i) r ≡ places_at p r)
  unfolding value_at shown_at places_of places_at
  shown_there zero h = (refl, refl)
  shown_there (suc zero) h = (refl, refl)
  shown_there (suc (suc zero)) h = (refl, refl)
  shown_there (suc (suc (suc zero))) h = (refl, refl)
  shown_there (suc (suc (suc (suc zero)))) h = (refl, refl)
  shown_there (suc (suc (suc (suc (suc zero))))) h = (refl, refl)
  shown_there (suc (suc (suc (suc (suc (suc zero)))))) h = (refl, refl)
  shown_there (suc (suc (suc (suc (suc (suc (suc zero))))))) h = (refl, refl)
  shown_there (suc (suc (suc (suc (suc (suc (suc (suc r)))))))) h = absurd (omega arith)

-- so a block of them is the block of T's lines
pub block_is : (t : Talking) (w : Working) (i : Instrument) → block t.print (value_line (style t) (values t.places w i)) ≡ print_reply t w i
unfolding print_reply value_line read_reply
block_is t w i = block_same t.print (value_line (style t) (values t.places w i)) (read_reply t w i) same
  where
    same : (r : ℕ) → r ≤ at "H" → value_line (style t) (values t.places w i) r ≡ read_reply t w i r
    same r h = let e = shown_there t.places w i r h in rw (e.0, e.1)

-- ---- and they fit

module _ (t : Talking) (w : Working) (i : Instrument) (a : Able t w i) where
  showable : (r : ℕ) → r < count → (r ≡ at "J" → i.outputs.status < 2 ^ 16) → Showable (places_at t.places r) (shown_at w i r)
  showable r h s = record { few = few t.places r a.places; short = shown_size w i (passes w i a.instrument) r h s }

  named : nat_abs t.node ≤ 99
  named = (from_to t.node 0 99 a.node).1.1

  pub writable : i.outputs.status < 2 ^ 16 → (r : ℕ) → r < count → Writable (style t) r (places_at t.places r) (shown_at w i r)
  writable s r h = record { named = named; known = h; fits = showable r h (λ _. s) }

  pub printable : Printable (style t) (values t.places w i)
  printable =
      record {
        named = named;
        fits = λ r h. let e = shown_there t.places w i r h in rw (e.0, e.1) (showable r (omega arith) (λ j. omega arith));
      }
