-- `numeral::signed` meets its contract: a number of five digits fits, below zero too. Assumes nothing.
use Rattle.std.proofs.Common.{◌≡◌, sym, ap, subst, ◌∙◌, ℕ, zero, suc, ◌<◌, ℤ, pos, ◌-ℤ◌, FitsSigned, w32, to_z, of_z, arith}
use Rattle.std.specs.Prelude.{neg_ℤ}
use lib.IntN.{+ℤ_idl}
use mir.Facts.{to_z-of_z, to_z_pos}
use Rattle.numeral.proofs.Digits.{small}
use Rattle.numeral.proofs.signed.Goals as goal
use Rattle.numeral.proofs.signed.Goals.{In-Some, then-is_minus, else-is_minus}

below : (c : In-Some) → c.in-Some.n < 100000
below c = small c.args.digits.now c.in-Some.n (sym c.in-Some.ensures)

fits : (n : ℕ) → n < 100000 → FitsSigned w32 (neg_ℤ (pos n))
fits zero h = record { sfits = omega arith }
fits (suc n) h = record { sfits = omega arith }

-- 0 less the number is −n
negated : (n : ℕ) → n < 100000 → pos 0 -ℤ to_z w32 n ≡ neg_ℤ (pos n)
negated n h = rw (to_z_pos w32 {n = n} (omega arith)) (+ℤ_idl (neg_ℤ (pos n)))

pub overflow_cast-size : goal.overflow_cast-size
overflow_cast-size c = let h = below (goal.at.overflow_cast-size c).In-Some in record { sfits = omega arith }

pub overflow_sub-z : goal.overflow_sub-z
overflow_sub-z c =
    let h = below (goal.at.overflow_sub-z c).In-Some in
    subst (FitsSigned w32) (sym (negated c.in-Some.n h)) (fits c.in-Some.n h)

pub returns-after-is_minus : goal.returns-after-is_minus
returns-after-is_minus c =
    let n = c.in-Some.n in
    let h = below (goal.at.returns-after-is_minus c).In-Some in
    rw (← c.in-Some.ensures)
    (elim c.if-is_minus.branch [
      | then-is_minus w ↦
          let z : to_z w32 c.if-is_minus.z-bits ≡ neg_ℤ (pos n) = w.z-is ∙ ap (λ (x : ℤ). to_z w32 (of_z w32 x)) (negated n h) ∙ to_z-of_z (fits n h) in
          c.held_to.ensures ∙ rw (w.if-is_minus.true, z)
      | else-is_minus w ↦
          let z : to_z w32 c.if-is_minus.z-bits ≡ pos n = w.z-is ∙ to_z_pos w32 {n = n} (omega arith) in
          c.held_to.ensures ∙ rw (w.if-is_minus.false, z)
    ])
