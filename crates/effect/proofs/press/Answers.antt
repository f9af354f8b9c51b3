-- `effect::press` meets its contract: a key that is none of 1 to 6. Assumes nothing.
use Rattle.std.proofs.Common.{◌≡◌, ℕ, false, sym, ◌∙◌, ℤ, pos, of_z, w32}
use borrow.Author.Tests.{ne_eqb}
use mir.Val.{SFits}
use mir.Facts.{sfits_lit}
use Rattle.exact.specs.Sign.{eq_z}
use Rattle.exact.proofs.Z.{eq32}
use Rattle.effect.proofs.press.Goals as goal

-- the number that a key's bits do not say
other : (z : ℤ) (k : ℕ) → SFits w32 z → SFits w32 (pos k) → (of_z w32 z ≡ of_z w32 (pos k) → ⊥) → eq_z z (pos k) ≡ false
other z k fits known h = sym (eq32 z (pos k) fits known) ∙ ne_eqb _ _ h

pub returns-in_default-clause-value : goal.returns-in_default-clause-value
returns-in_default-clause-value c =
    let z = c.args.number in
    let fits = c.ranges.number in
    let none = c.in_default.in_default-own.rest in
    rw (
      other z 1 fits (sfits_lit tt) none.0.0.0.0.0.1,
      other z 2 fits (sfits_lit tt) none.0.0.0.0.1,
      other z 3 fits (sfits_lit tt) none.0.0.0.1,
      other z 4 fits (sfits_lit tt) none.0.0.1,
      other z 5 fits (sfits_lit tt) none.0.1,
      other z 6 fits (sfits_lit tt) none.1,
    )
