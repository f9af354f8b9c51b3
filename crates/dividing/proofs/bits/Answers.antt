-- `dividing::bits` meets its contract: a display's value is a number, and its bits are read. Assumes nothing.
use mathlib.Core.Path.{◌≡◌, sym, ap, ◌∙◌, subst}
use mathlib.Core.Bool.{Bool, not}
use lib.Dec.{T}
use lib.Ieee.{binary32, is_nan, to_bits}
use mir.Syntax.{w32}
use mir.ValLaws.{to_z-of_z}
use Rattle.binary32.specs.Binary32.{value, bits}
use Rattle.dividing.proofs.Values.{is_number}
use Rattle.dividing.proofs.bits.Goals as goal

-- the float is the display's value
got : (c : goal.After-value) → c.value.result ≡ value c.args.places c.args.display
got c = c.value.ensures ∙ ap (value c.args.places) (to_z-of_z w32 c.args.display c.ranges.display)

pub float_to_bits-result : goal.float_to_bits-result
float_to_bits-result c =
    let s = c in
    subst (λ (t : Bool). T (not t)) (sym (ap is_nan (got c) ∙ is_number s.args.places s.args.display s.requires.1 s.requires.0)) tt

pub returns : goal.returns
unfolding bits
returns c = ap (to_bits binary32) (got c)
