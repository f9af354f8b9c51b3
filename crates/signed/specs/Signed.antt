-- A number with its sign, as the pieces that are put.
use Rattle.std.specs.Prelude.{ℕ, cond, List, [], ◌∷◌, ℤ, nat_abs}
use Rattle.exact.specs.Sign.{is_neg}
use Rattle.register.specs.Bytes.{ascii}
use Rattle.text.specs.Numeral.{numeral}

unfoldable pub signed : ℤ → List (List ℕ)
signed z = cond (is_neg z) (ascii "-" ∷ numeral (nat_abs z) ∷ []) (numeral (nat_abs z) ∷ [])
