-- The number reader reads what stands there by its form, and nothing else.
use mathlib.Core.Path.{◌≡◌, sym, ap, ◌∙◌}
use mathlib.Core.Bool.{true}
use mathlib.Core.List.{List, ◌∷◌}
use mathlib.Core.Logic.{inl, inr, ◌↔◌}
use Prim.Native.Nat.{ℕ}
use native.Mathlib.Omega.{arith}
use lib.IntN.{ℤ, nat_abs, +ℤ_invr}
use lib.Signed.{le_z}
use Rattle.exact.specs.Meaning.{IsHeld}
use Rattle.register.specs.Bytes.{byte}
use Rattle.register.specs.Registers.{entry}
use Rattle.register.specs.declared.Limits.{Limits}
use Rattle.register.specs.declared.Writes.TheVariants.{Number as Limited}
use Rattle.numeral.specs.Number.{number}
use Rattle.numeral.specs.Reads.{Reads}
use Rattle.numeral.specs.declared.Number.TheVariants.{NoNumber}
use Rattle.numeral.proofs.Held.{reads, number_some}
use Rattle.command.specs.Parse.{body}
use Rattle.form.specs.Grammar as form
use Rattle.form.specs.Grammar.{Numeral, Letter}
use Rattle.form.proofs.Said.{numeral_said, body_said}
use Rattle.form.proofs.Found.{Numbered, number_found}

pub numbers : (l : Limits) (s : List ℕ) (z : ℤ) → le_z l.low l.high ≡ true → Numeral z s → Reads l z (number l s)
numbers l s z o n = rw (numeral_said l n) (reads l z o)

none_found : (l : Limits) (s : List ℕ) → Numbered l s (number l s) → ((z : ℤ) → Numeral z s → ⊥) → number l s ≡ NoNumber
none_found l s (inl e) h = e
none_found l s (inr q) h = absurd (h q.0 q.2)

pub no_number : (l : Limits) (s : List ℕ) → (number l s ≡ NoNumber) ↔ ((z : ℤ) → Numeral z s → ⊥)
no_number l s = (λ e z n. number_some l z (sym (numeral_said l n) ∙ e), none_found l s (number_found l s))

-- a limit is held as it is
pub held_alike : (r c : ℕ) (l : Limits) (z y : ℤ) (s t : List ℕ) → Letter r c → (entry r).written ≡ Limited l → IsHeld l.low l.high z y
    → Numeral z s → Numeral y t → body (byte "V" ∷ c ∷ s) ≡ body (byte "V" ∷ c ∷ t)
held_alike r c l z y s t h e i n m =
    let k : IsHeld l.low l.high y y = record { inside = i.inside; nearest = λ x w. omega (arith, ap nat_abs (+ℤ_invr y)) } in
    body_said (form.write h e n i) ∙ sym (body_said (form.write h e m k))
