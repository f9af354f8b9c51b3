-- What the number reader makes of a number that was read: the tests by which the code finds it, and what it means.
use mathlib.Core.Path.{◌≡◌, refl, sym, subst, ◌∙◌}
use mathlib.Core.Bool.{Bool, true, false, cond}
use mathlib.Core.Logic.{◌≢◌}
use Prim.Native.Nat.{ℕ}
use native.Mathlib.Omega.{arith}
use lib.IntN.{ℤ}
use lib.Signed.{lt_z, le_z}
use Rattle.exact.specs.Sign.{within, held_to}
use Rattle.exact.specs.Meaning.{IsHeld}
use Rattle.exact.proofs.Z.{never, and_false, lt_not_le, within_is}
use Rattle.exact.proofs.Held.{held_is, held_only}
use Rattle.register.specs.declared.Limits.{Limits}
use Rattle.numeral.specs.Number.{held_by}
use Rattle.numeral.specs.Reads.{Reads}
use Rattle.numeral.specs.declared.Number.TheVariants.{Is, Held, NoNumber}

module _ (l : Limits) (z : ℤ) where
  pub below : lt_z z l.low ≡ true → held_by l z ≡ Held l.low
  below b = rw (lt_not_le z l.low b, b)

  pub above : lt_z z l.low ≡ false → lt_z l.high z ≡ true → held_by l z ≡ Held l.high
  above b a = rw (lt_not_le l.high z a, and_false (le_z l.low z), b, a)

  pub between : lt_z z l.low ≡ false → lt_z l.high z ≡ false → held_by l z ≡ Is z
  between b a = rw (within_is l.low l.high z a b)

  -- ---- and what it means

  -- there is a number to write
  some_by : (t : Bool) → cond t (Is z) (Held (held_to l.low l.high z)) ≢ NoNumber
  some_by true e = let n : ◌≡◌ {A = ℕ} 0 1 = cc in omega arith
  some_by false e = let n : ◌≡◌ {A = ℕ} 0 1 = cc in omega arith

  pub number_some : held_by l z ≢ NoNumber
  number_some = some_by (within l.low l.high z)

  reads_by : (t : Bool) → within l.low l.high z ≡ t → le_z l.low l.high ≡ true → Reads l z (cond t (Is z) (Held (held_to l.low l.high z)))
  reads_by true e o =
      record {
        itself = (λ _. e, λ _. refl);
        held = λ y. (λ k. let n : ◌≡◌ {A = ℕ} 0 1 = cc in absurd (omega arith), λ q. never (sym q.0 ∙ e));
        some = some_by true;
      }
  reads_by false e o =
      record {
        itself = (λ k. let n : ◌≡◌ {A = ℕ} 0 1 = cc in absurd (omega arith), λ q. never (sym e ∙ q));
        held =
            λ y. (
              λ k. let h : held_to l.low l.high z ≡ y = cc in (e, subst (IsHeld l.low l.high z) h (held_is l.low l.high z o)),
              λ q. rw (held_only l.low l.high z y q.1),
            );
        some = some_by false;
      }

  pub reads : le_z l.low l.high ≡ true → Reads l z (held_by l z)
  reads o = reads_by (within l.low l.high z) refl o
