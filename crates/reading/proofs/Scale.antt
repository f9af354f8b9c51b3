-- What the rules of a configuration give of its scale. Assumes nothing.
use mathlib.Core.Path.{◌≡◌}
use mathlib.Core.Bool.{true}
use mathlib.Core.List.{List}
use Prim.Native.Nat.{ℕ, ◌≤◌}
use lib.Dec.{lit<}
use lib.IntN.{ℤ, pos, nat_abs}
use Rattle.exact.specs.Sign.{within}
use Rattle.exact.proofs.Z.{between_is}
use Rattle.reading.specs.Reading.{in_input, in_display, points_in, Scalable}
use Rattle.reading.proofs.Walk.{input_at, display_at, rises_at_lem}

pub input_small : (z : ℤ) → in_input z ≡ true → nat_abs z ≤ 99999
input_small z e = between_is z 99999 99998 (lit< tt) e

pub display_small : (z : ℤ) → in_display z ≡ true → nat_abs z ≤ 99999
display_small z e = between_is z 99999 19998 (lit< tt) e

-- rule 5 of 2 to 16 points, and a step of 1 to 100
pub accepted : (inputs displays : List ℤ) (count : ℕ) (step : ℤ) → 2 ≤ count → count ≤ 16 → points_in inputs displays count ≡ true → within (pos 1) (pos 100) step ≡ true → Scalable inputs displays count step
accepted inputs displays count step two sixteen e s =
    record {
      two = two;
      sixteen = sixteen;
      inputs_in = input_at inputs displays count e;
      displays_in = display_at inputs displays count e;
      rising = rises_at_lem inputs displays count e;
      step_in = s;
    }
