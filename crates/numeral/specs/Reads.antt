-- What the number reader is to make of a number that was read, said without computing it.
use Rattle.std.specs.Prelude.{◌≡◌, true, false, ◌≢◌, ◌↔◌, ℤ}
use Rattle.exact.specs.Sign.{within}
use Rattle.exact.specs.Meaning.{IsHeld}
use Rattle.register.specs.declared.Limits.{Limits}
use Rattle.numeral.specs.declared.Number.{Number}
use Rattle.numeral.specs.declared.Number.TheVariants.{Is, Held, NoNumber}

-- z was read, with the limits l, and n is the answer
pub record Reads (l : Limits) (z : ℤ) (n : Number) : Type 0 where
  -- it is the number itself exactly where that lies within the limits
  pub itself : (n ≡ Is z) ↔ (within l.low l.high z ≡ true)
  -- it says held exactly where that does not, and then gives the number of the limits nearest to it
  pub held : (y : ℤ) → (n ≡ Held y) ↔ ((within l.low l.high z ≡ false) × IsHeld l.low l.high z y)
  pub some : n ≢ NoNumber
