-- `total::sample_adds` meets its contract: a product of two numbers of 32 bits fits, and `counts` says which case it is. Assumes nothing.
use Rattle.std.proofs.Common.{rules, ◌≡◌, w32, w64, ◌∙◌, sym, to_z, of_z}
use mir.Val.{SFits}
use mir.Facts.{to_z-of_z}
use Rattle.total.specs.Total.{sample_adds}
use Rattle.total.proofs.Sums.{product_fits, product_abs}
use Rattle.total.proofs.sample_adds.Goals as goal
use Rattle.total.proofs.sample_adds.Goals.{After-from-in-Number}

v_fits : (c : After-from-in-Number) → SFits w32 c.in-Number.v
v_fits c = search rules

factor_fits : (c : After-from-in-Number) → SFits w32 c.args.s.factor
factor_fits c = search rules

v_is : (c : After-from-in-Number) → to_z w64 (of_z w64 c.from.result) ≡ c.in-Number.v
v_is c = let f = v_fits c in search (rules, to_z-of_z)

factor_is : (c : After-from-in-Number) → to_z w64 (of_z w64 c.from-in-Number.result) ≡ c.args.s.factor
factor_is c = let f = factor_fits c in search (rules, to_z-of_z)

pub returns-in-Number-clause-value : goal.returns-in-Number-clause-value
unfolding sample_adds
returns-in-Number-clause-value c =
    let f = v_fits c in
    let counted = rw (to_z-of_z f) at (sym c.counts.ensures ∙ c.if-counts.true) in
    rw (v_is c, factor_is c, to_z-of_z (product_fits f (factor_fits c)), c.in-Number.is, counted)

pub returns-in-Number-clause-small : goal.returns-in-Number-clause-small
returns-in-Number-clause-small c =
    let f = v_fits c in
    let g = factor_fits c in
    rw (v_is c, factor_is c, to_z-of_z (product_fits f g)) (product_abs f g)
