-- `sensing::tenths` meets its contract: the pair is the definition's, and so are its two entries. Assumes nothing.
use native.Mathlib.Omega.{arith}
use mathlib.Core.Path.{◌≡◌, sym, subst, ◌∙◌}
use Prim.Native.Nat.{◌+◌, ◌<◌}
use mir.Facts.{to_z-of_z}
use Rattle.exact.proofs.Z.{back32, back64}
use Rattle.reading.specs.Reading.{point}
use Rattle.reading.proofs.Search.{segment_le}
use Rattle.platinum.specs.Table.{resistances}
use Rattle.platinum.specs.Platinum.{entries, pair_of}
use Rattle.platinum.specs.Meaning.{Rising}
use Rattle.platinum.proofs.Table.{rising}
use Rattle.sensing.proofs.tenths.Goals as goal

-- the table that is lent rises
lent_rises : (s : goal.Start) → Rising s.args.table.now
lent_rises s = subst Rising (sym s.requires) rising

pub pair-place-requires : goal.pair-place-requires
pair-place-requires c = lent_rises c

-- the pair that is found
found : (c : goal.After-pair-place) → c.pair-place.result ≡ pair_of c.args.input
found c =
    let s = c in
    c.pair-place.ensures ∙ rw (s.requires, to_z-of_z s.ranges.input)

-- its right entry has a place
there : (c : goal.After-pair-place) → c.pair-place.result + 1 < entries
there c = rw (found c) (omega (arith, segment_le resistances c.args.input entries))

pub offset_bounds-table-place : goal.offset_bounds-table-place
offset_bounds-table-place c = omega (arith, there c)

pub bounds-table-place : goal.bounds-table-place
bounds-table-place c = omega (arith, there c)

pub overflow_add-place : goal.overflow_add-place
overflow_add-place c = omega (arith, there c.before)

pub offset_bounds-table-place-2 : goal.offset_bounds-table-place-2
offset_bounds-table-place-2 c = omega (arith, there c.before)

pub bounds-table-place-2 : goal.bounds-table-place-2
bounds-table-place-2 c = there c.before

pub along-requires : goal.along-requires
along-requires c =
    let p = c in
    let table = p.args.table.now in
    let k = p.pair-place.result in record { right_value = rw (back32 (point table k) c.along-arg-1.given, back32 (point table (k + 1)) c.along-arg-2-1.given) ((lent_rises p.before.before.before).rises k (there p.before.before)); place_lt_entries = omega (arith, there p.before.before) }

pub returns : goal.returns
returns c =
    let a = c in
    let p = a in
    let s = p in
    let table = s.args.table.now in
    let k = p.pair-place.result in
    rw (back64 c.along.result c.along.type_inv)
    (c.along.ensures
    ∙ rw (back32 (point table k) a.along-arg-1.given, back32 (point table (k + 1)) a.along-arg-2-1.given, to_z-of_z s.ranges.input, s.requires, found p.before.before.before))
