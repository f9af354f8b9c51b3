-- The test of a range of bytes.
use mathlib.Core.Path.{◌≡◌}
use mathlib.Core.Bool.{true, false}
use Prim.Native.Nat.{ℕ, ◌<◌, ◌≤◌}
use lib.Dec.{leb}
use borrow.Author.Tests.{le-leb, lt-leb, leb-true}
use Rattle.exact.proofs.Z.{both, and_false}
use Rattle.register.specs.Bytes.{within}

-- what a test of a range says, and when it holds
pub range : (low high b : ℕ) → within low high b ≡ true → (low ≤ b) × (b ≤ high)
range low high b e = let p = both (leb low b) (leb b high) e in (leb-true low b p.0, leb-true b high p.1)

pub in_range : (low high b : ℕ) → low ≤ b → b ≤ high → within low high b ≡ true
in_range low high b h k = rw (le-leb low b h, le-leb b high k)

pub below_range : (low high b : ℕ) → b < low → within low high b ≡ false
below_range low high b h = rw (lt-leb low b h)

pub above_range : (low high b : ℕ) → high < b → within low high b ≡ false
above_range low high b h = rw (lt-leb b high h) (and_false (leb low b))
