-- Worked cases of the bits, in one table with one claim that is computed over the definition. Assumes nothing.
use mathlib.Core.Path.{◌≡◌, refl}
use mathlib.Core.List.{List, [], ◌∷◌, map}
use Prim.Native.Nat.{ℕ}
use lib.IntN.{ℤ, pos}
use lib.Ieee.{of_int, div, round, to_bits}
use Rattle.exact.specs.Sign.{minus}
use Rattle.binary32.specs.Binary32.{value, bits}

-- a display with its places, and the pattern
pub record Case : Type 0 where
  pub display : ℤ
  pub places : ℕ
  pub pattern : ℕ

abbrev shown : ℤ → ℕ → ℕ → Case
shown display places pattern = record { display = display; places = places; pattern = pattern }

abbrev pub cases : List Case
cases =
    -- zero is +0, whatever the places
    shown (pos 0) 0 0x0000_0000
    ∷ shown (pos 0) 4 0x0000_0000
    -- with no places the display itself
    ∷ shown (pos 1) 0 0x3f80_0000
    ∷ shown (minus 1) 0 0xbf80_0000
    -- both ends of the range
    ∷ shown (pos 99999) 0 0x47c3_4f80
    ∷ shown (pos 99999) 4 0x411f_ff97
    ∷ shown (minus 19999) 0 0xc69c_3e00
    ∷ shown (minus 19999) 4 0xbfff_fcb9
    -- a tenth, rounded up; 0.0001, the least of them; 87.4
    ∷ shown (pos 1) 1 0x3dcc_cccd
    ∷ shown (pos 1) 4 0x38d1_b717
    ∷ shown (pos 874) 1 0x42ae_cccd
    -- 333.33 and 12.345
    ∷ shown (pos 33333) 2 0x43a6_aa3d
    ∷ shown (pos 12345) 3 0x4145_851f
    -- -1999.7: times a tenth, itself rounded, it would end in 667
    ∷ shown (minus 19997) 1 0xc4f9_f666
    -- -199.98: divided by 10 twice it would end in ae2
    ∷ shown (minus 19998) 2 0xc347_fae1
    ∷ []

abbrev worked : Case → ℕ
worked c = bits c.places c.display

-- the bits of each are its pattern
pub worked_cases : map worked cases ≡ map (λ c. c.pattern) cases
unfolding bits value of_int div round to_bits
worked_cases = refl
