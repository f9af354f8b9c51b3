-- The value of a datum is a number. Assumes nothing.
use mathlib.Core.Path.{◌≡◌, refl, ap, ◌∙◌}
use mathlib.Core.Bool.{Bool, true, false, cond, not}
use Prim.Native.Nat.{ℕ, ◌≤◌}
use Rattle.std.specs.Prelude.{Ok, Err}
use lib.IntN.{ℤ, nat_abs}
use Rattle.exact.proofs.Z.{from_to}
use Rattle.reading.specs.Reading.{displayable}
use Rattle.reading.specs.declared.Reading.{Reading}
use Rattle.reading.specs.declared.Reading.TheVariants.{Nothing, Under, Number, Over}
use Rattle.dividing.proofs.Values.{is_number}
use Rattle.filed.specs.Filed.{datum_of, has_bits, has_bits_in, in_places, given_of}
use Rattle.filed.specs.declared.Record.{Record}
use Rattle.filed.specs.declared.Refusal.TheVariants as refusal

pub datum_number : (places : ℕ) (shown : Reading) → places ≤ 4 → displayable shown ≡ true → has_bits (datum_of places shown) ≡ true
unfolding displayable
datum_number places Nothing p h = refl
datum_number places Under p h = refl
datum_number places (Number z) p h = ap not (is_number places z p h)
datum_number places Over p h = refl

-- so it is in what is given
given_bits : (p d : Bool) (places : ℕ) (shown : Reading) → (p ≡ true → places ≤ 4) → displayable shown ≡ d
    → has_bits_in (cond (not p) (Err refusal.Places) (cond (not d) (Err refusal.Value) (Ok (record { places = places; datum = datum_of places shown })))) ≡ true
given_bits false d places shown few h = refl
given_bits true false places shown few h = refl
given_bits true true places shown few h = datum_number places shown (few refl) h

pub given_number : (shown : Reading) (places : ℤ) (x : Record) → Ok x ≡ given_of shown places → has_bits x.datum ≡ true
unfolding given_of
given_number shown places x e =
    ap has_bits_in e ∙ given_bits (in_places places) (displayable shown) (nat_abs places) shown (λ p. (from_to places 0 4 p).1.1) refl
