-- Minus zero, infinities, NaNs and bits beside a mark are no display's. Assumes nothing.
use mathlib.Core.Path.{◌≡◌, ◌∙◌}
use mathlib.Core.Bool.{Bool, true, false}
use mathlib.Core.List.{◌∷◌}
use Prim.Native.Nat.{ℕ, ◌^◌, ◌≤◌, ◌<◌}
use native.Mathlib.Omega.{arith}
use Rattle.std.specs.Prelude.{Err}
use borrow.Author.Tests.{eqb-true, ne_eqb}
use lib.Dec.{lit≤, lit<}
use lib.Ieee.{inf, binary32, to_bits, nan_bits}
use Rattle.exact.proofs.Z.{both}
use Rattle.binary32.specs.Binary32.{field}
use Rattle.binary32.proofs.Judge.{field_outside}
use Rattle.filed.specs.Filed.{low_first, record_at, taken_of}
use Rattle.filed.specs.Meaning.{Shut}
use Rattle.filed.specs.declared.Refusal.TheVariants as refusal
use Rattle.filed.proofs.Exact.{passes}

module _ (places : ℕ) (p : places ≤ 4) where
  -- bits whose field no display has
  no_value : (b : ℕ) → b < 2 ^ 32 → (b ≡ 0 → ⊥) → ((113 ≤ field b) × (field b ≤ 143) → ⊥)
      → taken_of (0 ∷ places ∷ 0 ∷ 0 ∷ low_first b) ≡ Err refusal.Value
  unfolding record_at
  no_value b h some out = passes 0 places b (lit≤ tt) p h ∙ rw (field_outside places p b some out)

  infinity : (negative : Bool) → taken_of (0 ∷ places ∷ 0 ∷ 0 ∷ low_first (to_bits binary32 (inf negative))) ≡ Err refusal.Value
  unfolding to_bits
  infinity true = no_value 0xff80_0000 (lit< tt) (λ e. omega arith) (λ f. omega arith)
  infinity false = no_value 0x7f80_0000 (lit< tt) (λ e. omega arith) (λ f. omega arith)

  nan : (b : ℕ) → b < 2 ^ 32 → nan_bits binary32 b ≡ true → taken_of (0 ∷ places ∷ 0 ∷ 0 ∷ low_first b) ≡ Err refusal.Value
  unfolding nan_bits
  nan b h e =
      let f : field b ≡ 255 = eqb-true (field b) 255 (both _ _ e).0 in
      no_value b h (λ z. omega arith) (λ g. omega arith)

  beside_mark : (kind b : ℕ) → 1 ≤ kind → kind ≤ 3 → 1 ≤ b → b < 2 ^ 32 → taken_of (kind ∷ places ∷ 0 ∷ 0 ∷ low_first b) ≡ Err refusal.Value
  unfolding record_at
  beside_mark kind b one k some h =
      passes kind places b k p h ∙ rw (ne_eqb kind 0 (λ e. omega arith), ne_eqb b 0 (λ e. omega arith))

  pub shut : Shut places
  shut =
      record {
        minus_zero = no_value 0x8000_0000 (lit< tt) (λ e. omega arith) (λ f. omega arith);
        infinity = infinity;
        nan = nan;
        beside_mark = beside_mark;
      }
