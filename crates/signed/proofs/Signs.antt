-- The pieces of a number on either side of zero. Assumes nothing.
use Rattle.std.proofs.Common.{◌≡◌, true, false, [], ◌∷◌, ℤ, nat_abs}
use Rattle.exact.specs.Sign.{is_neg}
use Rattle.register.specs.Bytes.{ascii}
use Rattle.text.specs.Numeral.{numeral}
use Rattle.signed.specs.Signed.{signed}

pub signed_neg : (z : ℤ) → is_neg z ≡ true → (ascii "-" ∷ numeral (nat_abs z) ∷ []) ≡ signed z
unfolding signed
signed_neg z e = rw e

pub signed_pos : (z : ℤ) → is_neg z ≡ false → (numeral (nat_abs z) ∷ []) ≡ signed z
unfolding signed
signed_pos z e = rw e
