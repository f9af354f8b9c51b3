-- `bulk::read_all` meets its contract. The invariant: the inputs before i are read in, and nothing else is. Assumes nothing.
use Rattle.std.proofs.Common.{rules, ◌≡◌, refl, sym, ap, ◌∙◌, w32, to_z, of_z, arith}
use Rattle.segments.specs.Segments.{read}
use Rattle.segments.proofs.Scale.{scale_tested}
use Rattle.bulk.specs.Bulk.{number_of, read_into, at}
use Rattle.bulk.proofs.Reading.{one_more, no_more}
use Rattle.bulk.proofs.read_all.Goals as goal

pub returns-then-not-can_scale : goal.returns-then-not-can_scale
returns-then-not-can_scale c =
    let e = sym c.can_scale.ensures ∙ c.if-not-can_scale.true in
    rw e record { value = refl; readings_after = refl }

pub loop-i-init : goal.loop-i-init
unfolding read_into
loop-i-init c = refl

pub read-requires : goal.read-requires
read-requires c = search (rules, scale_tested c.args.s (sym c.can_scale.ensures ∙ c.if-not-can_scale.false))

pub loop-i-preserved : goal.loop-i-preserved
loop-i-preserved c =
    let s = c.args.s in
    let i = c.loop-i.i in
    let xs = c.args.inputs.now in
    let x : to_z w32 (of_z w32 (at xs i)) ≡ at xs i = search rules in
    let r : c.read.result ≡ read s (at xs i) = c.read.ensures ∙ rw x in
    let v : c.number_of.result ≡ number_of (read s (at xs i)) = c.number_of.ensures ∙ ap number_of r in
    let b : to_z w32 (of_z w32 c.number_of.result) ≡ c.number_of.result = search rules in
    rw (c.loop-i.invariant, b, v) (one_more s i xs c.args.readings.now (omega arith) (omega arith))

pub returns : goal.returns
returns c =
    rw (sym c.can_scale.ensures ∙ c.if-not-can_scale.false)
    record {
      value = refl;
      readings_after = c.loop-i.invariant ∙ no_more c.args.s c.loop-i.i c.args.inputs.now c.args.readings.now (λ h g. omega arith);
    }
