-- Whether bits are those of any display is judged at one display, the one that they can be of. Assumes nothing.
use mathlib.Core.Path.{◌≡◌, refl, sym, ap, ap₂, ◌∙◌, subst}
use mathlib.Core.Bool.{Bool, true, false, ◌&&◌}
use Prim.Native.Nat.{ℕ, zero, suc, ◌-◌, ◌^◌, ◌≤◌}
use native.Mathlib.Omega.{arith}
use borrow.Author.Tests.{eq-eqb, eqb-true}
use lib.Dec.{eqb, lit<}
use lib.IntN.{ℤ, pos, nat_abs}
use Rattle.exact.specs.Sign.{is_neg}
use Rattle.exact.proofs.Z.{between_is, both}
use Rattle.reading.specs.Reading.{in_display}
use Rattle.binary32.specs.Binary32.{bits, gives, field, display_of}
use Rattle.binary32.proofs.Value.{power_least, power_most}
use Rattle.binary32.proofs.Back.{signed_field, scale_least, scale_most}
use Rattle.binary32.proofs.Told.{told}
use Rattle.binary32.proofs.Gives.{gives_is, given_gives}

module _ (places : ℕ) (p : places ≤ 4) where
  -- zero's bits are a display's
  pub zero_given : gives places 0 ≡ true
  zero_given = given_gives places 0 (record { display = pos 0; shown = refl; same = (told places p (pos 0) refl).zero refl })

  -- the fields of all others: the least, of 0.0001, is 113, and the largest, of 99,999, is 143
  pub field_in : (z : ℤ) → in_display z ≡ true → 1 ≤ nat_abs z → (113 ≤ field (bits places z)) × (field (bits places z) ≤ 143)
  field_in z shown l =
      let t = told places p z shown in
      let n2 = between_is z 99999 19998 (lit< tt) shown in
      let i = t.quotient l in
      let d1 = power_least places in
      let d2 = power_most places p in
      let f : field (bits places z) ≡ 150 - i.scale =
      ap field t.signed ∙ signed_field (nat_abs z) (10 ^ places) t.size i l n2 d1 d2 (is_neg z) in
      let least = scale_least (nat_abs z) (10 ^ places) t.size i l n2 d1 d2 in
      let most = scale_most (nat_abs z) (10 ^ places) t.size i l n2 d1 d2 in
      (omega arith, omega arith)

  -- a display whose bits are not 0 is not 0
  not_zero : (z : ℤ) (b : ℕ) → in_display z ≡ true → bits places z ≡ b → (b ≡ 0 → ⊥) → 1 ≤ nat_abs z
  not_zero z b shown e some = go (nat_abs z) refl
    where
      go : (n : ℕ) → nat_abs z ≡ n → 1 ≤ nat_abs z
      go zero is = absurd (some (sym e ∙ (told places p z shown).zero is))
      go (suc n) is = omega arith

  -- bits with another field are no display's
  pub field_outside : (b : ℕ) → (b ≡ 0 → ⊥) → ((113 ≤ field b) × (field b ≤ 143) → ⊥) → gives places b ≡ false
  field_outside b some out = go (gives places b) refl
    where
      go : (t : Bool) → gives places b ≡ t → gives places b ≡ false
      go false e = e
      go true e =
          let g = gives_is places b e in
          absurd (out (subst (λ (x : ℕ). (113 ≤ field x) × (field x ≤ 143)) g.same (field_in g.display g.shown (not_zero g.display b g.shown g.same some))))

  -- all other bits are a display's exactly where they are those of the one that they can be of
  pub judged_once : (b : ℕ) → (b ≡ 0 → ⊥) → gives places b ≡ (in_display (display_of places b) && eqb (bits places (display_of places b)) b)
  judged_once b some = go (gives places b) (in_display (display_of places b) && eqb (bits places (display_of places b)) b) refl refl
    where
      yes : gives places b ≡ true → (in_display (display_of places b) && eqb (bits places (display_of places b)) b) ≡ true
      yes e =
          let g = gives_is places b e in
          let l = not_zero g.display b g.shown g.same some in
          let is : display_of places b ≡ g.display = ap (display_of places) (sym g.same) ∙ (told places p g.display g.shown).tells l in
          ap (λ (z : ℤ). in_display z && eqb (bits places z) b) is
          ∙ ap₂ ◌&&◌ g.shown (eq-eqb (bits places g.display) b g.same)

      back : (in_display (display_of places b) && eqb (bits places (display_of places b)) b) ≡ true → gives places b ≡ true
      back e =
          let t = both _ _ e in
          given_gives places b (record { display = display_of places b; shown = t.0; same = eqb-true (bits places (display_of places b)) b t.1 })

      go : (s t : Bool) → gives places b ≡ s → (in_display (display_of places b) && eqb (bits places (display_of places b)) b) ≡ t
          → gives places b ≡ (in_display (display_of places b) && eqb (bits places (display_of places b)) b)
      go true t x y = x ∙ sym (yes x)
      go false true x y = back y ∙ sym y
      go false false x y = x ∙ sym y
