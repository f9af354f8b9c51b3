-- Which bytes end a string, which drop it, and which are part of it.
use mathlib.Core.Path.{◌≡◌, refl, sym}
use mathlib.Core.Bool.{Bool, true, false, ◌||◌}
use Prim.Native.Nat.{ℕ}
use borrow.Author.Tests.{eqb-true}
use lib.Dec.{eqb}
use Rattle.exact.proofs.Z.{never}
use Rattle.register.specs.Bytes.{byte as char}
use Rattle.receiver.specs.Receiver.{ends, drops, kind}
use Rattle.receiver.specs.Since.{ending}
use Rattle.receiver.specs.declared.Kind.TheVariants.{End, Drop, Part}

pub end_kind : (b : ℕ) → ends b ≡ true → kind b ≡ End
unfolding kind
end_kind b e = rw e

part_by : (t u : Bool) → (t || u) ≡ false → (t ≡ false) × (u ≡ false)
part_by true u e = never (sym e)
part_by false u e = (refl, e)

-- a byte that ends or drops nothing is no star and no dollar
pub not_ends : (b : ℕ) → ending b ≡ false → ends b ≡ false
not_ends b e = (part_by (ends b) (drops b) e).0

pub part_kind : (b : ℕ) → ending b ≡ false → kind b ≡ Part
unfolding kind
part_kind b e = let p = part_by (ends b) (drops b) e in rw (p.0, p.1)

drop_by : (b : ℕ) (t : Bool) → eqb b (char "\r") ≡ t → (t || eqb b (char "\n")) ≡ true → ends b ≡ false
drop_by b true p e = rw (eqb-true b (char "\r") p)
drop_by b false p e = rw (eqb-true b (char "\n") e)

-- CR and LF are no star and no dollar either
pub drop_not_ends : (b : ℕ) → drops b ≡ true → ends b ≡ false
drop_not_ends b e = drop_by b (eqb b (char "\r")) refl e

pub drop_kind : (b : ℕ) → drops b ≡ true → kind b ≡ Drop
unfolding kind
drop_kind b e = rw (drop_not_ends b e, e)

pub drop_ending : (b : ℕ) → drops b ≡ true → ending b ≡ true
drop_ending b e = rw (drop_not_ends b e, e)

pub end_ending : (b : ℕ) → ends b ≡ true → ending b ≡ true
end_ending b e = rw e
