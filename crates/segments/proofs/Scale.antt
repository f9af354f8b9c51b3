-- A scale that passes the test is one that an input can be read by, and a line of it is small. Assumes nothing.
use mathlib.Core.Path.{◌≡◌, sym, ◌∙◌}
use mathlib.Core.Bool.{true, ◌&&◌}
use mathlib.Core.List.{List}
use Prim.Native.Nat.{ℕ, ◌^◌, ◌<◌}
use native.Mathlib.Omega.{arith}
use borrow.Author.Tests.{ltb-true}
use lib.Dec.{ltb}
use lib.IntN.{ℤ, pos}
use lib.Signed.{mag, le_z, lt_z}
use mir.Syntax.{w32}
use mir.Val.{SFits}
use Rattle.exact.specs.Sign.{within}
use Rattle.exact.specs.Exact.{Fraction}
use Rattle.exact.proofs.Z.{both, from_to, le_before}
use Rattle.reading.proofs.Walk.{walk_at}
use Rattle.segments.specs.Segments.{places, along, segment_at, segments_in, tested, can_scale, Readable, Line}
use Rattle.segments.specs.declared.Segments.{Segments}
use Rattle.segments.proofs.Fit.{line_small}

-- an element of 32 bits
pub fits_bits : {z : ℤ} → mag z < 2 ^ 31 → SFits w32 z
fits_bits h = record { sfits = h }

-- a line's whole number, over the step
pub over_step : (x0 y0 : ℤ) (rises runs : List ℤ) (last : ℕ) (step : ℤ) → Readable rises runs last step → (rise run x : ℤ)
    → SFits w32 x0 → SFits w32 y0 → Line rise run x → Fraction (along x0 y0 rise run x) step
over_step x0 y0 rises runs last step a rise run x fx fy l =
    let s = from_to step 1 100 a.step_in in
    record {
      divisor = record { above = s.0; some = s.1.0 };
      small = line_small x0 y0 rise run x fx fy l;
      narrow = omega (arith, s.1.1);
    }

module _ (s : Segments) (e : can_scale s ≡ true) where
  parts : ((within (pos 1) (pos 100) s.step && ltb s.last places) ≡ true) × (segments_in s.rises s.runs ≡ true)
  unfolding tested
  parts = both (within (pos 1) (pos 100) s.step && ltb s.last places) (segments_in s.rises s.runs) e

  numbers : (within (pos 1) (pos 100) s.step ≡ true) × (ltb s.last places ≡ true)
  numbers = both (within (pos 1) (pos 100) s.step) (ltb s.last places) parts.0

  -- what reading an input asks of its scale
  pub scale_tested : Readable s.rises s.runs s.last s.step
  scale_tested =
      record {
        last_in = ltb-true s.last places numbers.1;
        each_in = λ k h. walk_at (segment_at s.rises s.runs) places k parts.1 h;
        step_in = numbers.0;
      }

  -- the step leads up
  pub scale_steps : lt_z (pos 0) s.step ≡ true
  scale_steps = sym (le_before (pos 1) s.step) ∙ (both (le_z (pos 1) s.step) (le_z s.step (pos 100)) numbers.0).0
