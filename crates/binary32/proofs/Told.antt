-- What is claimed of a display's bits. Assumes nothing.
use mathlib.Core.Path.{◌≡◌, refl, sym, ap, ◌∙◌, subst}
use mathlib.Core.Bool.{Bool, true, false}
use Prim.Native.Nat.{ℕ, zero, suc, ◌+◌, ◌*◌, ◌%◌, ◌^◌, ◌≤◌, ◌<◌}
use native.Mathlib.Nat.{le_trans}
use native.Mathlib.Omega.{arith}
use borrow.Author.Tests.{le-ltb}
use lib.Dec.{T, lit≤, lit<}
use lib.IntN.{ℤ, pos, negsuc, nat_abs}
use lib.Ieee.{Float, binary32, round, to_bits, of_bits, nan_bits, fits}
use lib.Ieee.Bits.{of_bits-to_bits, nan_bits_above}
use lib.Ieee.Fits.{round-fits}
use Rattle.exact.specs.Sign.{is_neg}
use Rattle.exact.proofs.Z.{between_is}
use Rattle.reading.specs.Reading.{in_display}
use Rattle.binary32.specs.Binary32.{with_sign, value, bits, display_of}
use Rattle.binary32.specs.Meaning.{IsQuotient, sign_bit, Told}
use Rattle.binary32.proofs.Round.{quotient}
use Rattle.binary32.proofs.Value.{power_least, power_most, value_is}
use Rattle.binary32.proofs.Back as back

signed_is : (z : ℤ) → with_sign (is_neg z) (nat_abs z) ≡ z
signed_is (pos n) = refl
signed_is (negsuc n) = refl

abs_zero : (z : ℤ) → nat_abs z ≡ 0 → z ≡ pos 0
abs_zero (pos n) e = ap pos e
abs_zero (negsuc n) e = absurd (omega arith)

-- how large the pattern of a quotient can be
size_most : (n d b : ℕ) → IsQuotient n d b → b < 151 * 2 ^ 23
size_most n d b i = omega (arith, i.pattern, i.digits)

size_least : (n d b : ℕ) → IsQuotient n d b → 2 ^ 23 ≤ b
size_least n d b i = omega (arith, i.pattern, i.leading)

-- a pattern whose size is so small is no NaN's
no_nan : (s : Bool) (b : ℕ) → b < 151 * 2 ^ 23 → nan_bits binary32 (sign_bit s + b) ≡ false
no_nan s b h = nan_bits_above binary32 (sign_bit s + b) ∙ le-ltb (255 * 2 ^ 23) ((sign_bit s + b) % 2 ^ 31) (below s)
  where
    below : (t : Bool) → (sign_bit t + b) % 2 ^ 31 ≤ 255 * 2 ^ 23
    below true = omega arith
    below false = omega arith

in_32 : (s : Bool) (b : ℕ) → b < 151 * 2 ^ 23 → sign_bit s + b < 2 ^ 32
in_32 true b h = omega arith
in_32 false b h = omega arith

-- ---- zero, which is +0 with any number of places

zero_rounded : (places : ℕ) → places ≤ 4 → to_bits binary32 (round binary32 false 0 (10 ^ places)) ≡ 0
unfolding to_bits round
zero_rounded zero h = refl
zero_rounded (suc zero) h = refl
zero_rounded (suc (suc zero)) h = refl
zero_rounded (suc (suc (suc zero))) h = refl
zero_rounded (suc (suc (suc (suc zero)))) h = refl
zero_rounded (suc (suc (suc (suc (suc n))))) h = absurd (omega arith)

-- ---- the size of a pattern, and the quotient where there is one

record Sized (places : ℕ) (display : ℤ) : Type 0 where
  size : ℕ
  signed : bits places display ≡ sign_bit (is_neg display) + size
  quotient : 1 ≤ nat_abs display → IsQuotient (nat_abs display) (10 ^ places) size
  zero : nat_abs display ≡ 0 → bits places display ≡ 0
  most : size < 151 * 2 ^ 23

module _ (places : ℕ) (p : places ≤ 4) where
  bits_are : (display : ℤ) → nat_abs display ≤ 99999 → bits places display ≡ to_bits binary32 (round binary32 (is_neg display) (nat_abs display) (10 ^ places))
  unfolding bits
  bits_are display h = ap (to_bits binary32) (value_is places display p (le_trans h (lit≤ tt)))

  fits_it : (display : ℤ) → nat_abs display ≤ 99999 → T (fits binary32 (value places display))
  fits_it display h =
      subst (λ (x : Float). T (fits binary32 x)) (sym (value_is places display p (le_trans h (lit≤ tt)))) (round-fits binary32 (is_neg display) (nat_abs display) (10 ^ places))

  some : (display : ℤ) → nat_abs display ≤ 99999 → 1 ≤ nat_abs display → Sized places display
  some display h l =
      let r = quotient (nat_abs display) (10 ^ places) l h (power_least places) (power_most places p) in
      record {
        size = r.size;
        signed = bits_are display h ∙ r.bits (is_neg display);
        quotient = λ _. r.is;
        zero = λ e. absurd (omega arith);
        most = size_most _ _ _ r.is;
      }

  sized : (display : ℤ) → nat_abs display ≤ 99999 → Sized places display
  sized (pos zero) h =
      let e = bits_are (pos 0) h ∙ zero_rounded places p in
      record { size = 0; signed = e; quotient = λ l. absurd (omega arith); zero = λ _. e; most = lit< tt }
  sized (pos (suc n)) h = some (pos (suc n)) h (omega arith)
  sized (negsuc n) h = some (negsuc n) h (omega arith)

  tells : (display : ℤ) → nat_abs display ≤ 99999 → 1 ≤ nat_abs display → display_of places (bits places display) ≡ display
  tells display h l =
      let r = sized display h in
      ap (display_of places) r.signed
      ∙ back.told (nat_abs display) places r.size (r.quotient l) l h p (is_neg display)
      ∙ signed_is display

  -- the bits of any other display than 0 are not those of 0
  not_0 : (display : ℤ) → nat_abs display ≤ 99999 → bits places display ≡ 0 → nat_abs display ≡ 0
  not_0 display h e = go (nat_abs display) refl
    where
      go : (n : ℕ) → nat_abs display ≡ n → nat_abs display ≡ 0
      go zero is = is
      go (suc n) is =
          let r = sized display h in
          absurd (omega (arith, size_least _ _ _ (r.quotient (omega arith)), r.signed))

  only : (display other : ℤ) → nat_abs display ≤ 99999 → nat_abs other ≤ 99999 → bits places other ≡ bits places display → other ≡ display
  only display other h g e = go (nat_abs display) (nat_abs other) refl refl
    where
      go : (n m : ℕ) → nat_abs display ≡ n → nat_abs other ≡ m → other ≡ display
      go zero m is os = abs_zero other (not_0 other g (e ∙ (sized display h).zero is)) ∙ sym (abs_zero display is)
      go (suc n) zero is os = absurd (omega (arith, not_0 display h (sym e ∙ (sized other g).zero os)))
      go (suc n) (suc m) is os = sym (tells other g (omega arith)) ∙ ap (display_of places) e ∙ tells display h (omega arith)

  stood : (display : ℤ) → nat_abs display ≤ 99999 → of_bits binary32 (bits places display) ≡ value places display
  unfolding bits
  stood display h = of_bits-to_bits binary32 (value places display) (fits_it display h)

  pub told : (display : ℤ) → in_display display ≡ true → Told places display
  told display shown =
      let h = between_is display 99999 19998 (lit< tt) shown in
      let r = sized display h in
      record {
        size = r.size;
        signed = r.signed;
        quotient = r.quotient;
        zero = r.zero;
        number = ap (nan_bits binary32) r.signed ∙ no_nan (is_neg display) r.size r.most;
        narrow = subst (λ (x : ℕ). x < 2 ^ 32) (sym r.signed) (in_32 (is_neg display) r.size r.most);
        stands = stood display h;
        tells = tells display h;
        only = λ other o e. only display other h (between_is other 99999 19998 (lit< tt) o) e;
      }
