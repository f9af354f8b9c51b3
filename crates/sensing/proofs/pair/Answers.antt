-- `sensing::pair` meets its contract: the entries below the input are counted of a list that rises. Assumes nothing.
use Rattle.std.proofs.Common.{rules, arith, ◌≡◌, ◌∙◌, ap, ◌+◌, ◌<◌, ℕ, List, length, get_or, drop, ℤ, pos}
use Rattle.std.proofs.lemmas.List.{get_or-take, get_or_default}
use Rattle.std.proofs.lemmas.Grind.{get_or_after_one}
use Rattle.std.proofs.lemmas.List.Sorted.{IsPartitionPoint-from_clause}
use borrow.Rule.Slice.PartMut.{mid_of, mid_len}
use lib.Signed.{lt_z}
use mir.Facts.{to_z-of_z}
use Rattle.reading.specs.Reading.{point}
use Rattle.platinum.specs.Platinum.{entries}
use Rattle.platinum.proofs.Pairs.{parted, pair_is}
use Rattle.sensing.proofs.pair.Goals as goal

-- the right entries of all pairs but the last
module _ (table : List ℤ) (n : length table ≡ entries) where
  all : length (mid_of 1 1049 table) + 2 ≡ entries
  all = omega (arith, mid_len 1 1050 table (omega arith))

  right : (k : ℕ) (d : ℤ) → k < length (mid_of 1 1049 table) → get_or (mid_of 1 1049 table) k d ≡ point table (k + 1)
  right k d h =
      let e : ◌≡◌ {A = ℕ} (1 + k) (k + 1) = omega arith in
      get_or-take 1049 (drop 1 table) k d (omega (arith, all)) ∙ get_or_after_one table k d ∙ ap (λ (i : ℕ). get_or table i d) e
      ∙ get_or_default table (k + 1) d (pos 0) (omega (arith, all))

pub returns : goal.returns
returns c =
    let table = c.args.table.now in
    let x = c.args.input in
    let l = all table c.told-table in
    let r = right table c.told-table in
    pair_is table c.requires x (mid_of 1 1049 table) l r c.partition_point.result c.partition_point.ensures.bound
    (IsPartitionPoint-from_clause (λ y. lt_z y x) (mid_of 1 1049 table) c.partition_point.result c.partition_point.ensures.partitioned
    (parted table c.requires x (mid_of 1 1049 table) l r) (λ a r' f' k. search (rules, to_z-of_z)))
