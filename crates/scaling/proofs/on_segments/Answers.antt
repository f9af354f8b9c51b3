-- `scaling::on_segments` meets its contract: each test picks its case, and the segment's four numbers are the definition's. Assumes nothing.
use Rattle.std.proofs.Common.{rules, ◌≡◌, ◌∙◌, true, false, ◌<◌, pos, w32, to_z, of_z, arith}
use lib.Signed.{lt_z}
use mir.Val.{SFits}
use mir.Facts.{to_z-of_z}
use Rattle.exact.specs.Sign.{minus}
use Rattle.exact.proofs.Z.{back64, widened, within_is}
use Rattle.reading.specs.Reading.{point, first_from, displayed}
use Rattle.reading.proofs.Search.{from_le}
use Rattle.segments.specs.Segments.{along_at, read_on, Line}
use Rattle.segments.proofs.Scale.{over_step}
use Rattle.scaling.proofs.on_segments.Goals as goal
use Rattle.scaling.proofs.on_segments.Goals.{After-segment-k, After-along-whole}

pub returns-then-input-gt99999 : goal.returns-then-input-gt99999
unfolding read_on
returns-then-input-gt99999 c = rw (rw (to_z-of_z c.ranges.input) at c.if-input-gt99999.true)

-- the tests are found by what they say, so that one of another limit is refused here
pub returns-then-input-ltminus99999 : goal.returns-then-input-ltminus99999
unfolding read_on
returns-then-input-ltminus99999 c =
    let over : lt_z (pos 99999) (to_z w32 (of_z w32 c.args.input)) ≡ false = search rules in
    let under : lt_z (to_z w32 (of_z w32 c.args.input)) (minus 99999) ≡ true = search rules in
    rw (rw (to_z-of_z c.ranges.input) at over, rw (to_z-of_z c.ranges.input) at under)

not_over : (c : After-segment-k) → lt_z (pos 99999) c.args.input ≡ false
not_over c =
    let e : lt_z (pos 99999) (to_z w32 (of_z w32 c.args.input)) ≡ false = search rules in
    rw (to_z-of_z c.ranges.input) at e

not_under : (c : After-segment-k) → lt_z c.args.input (minus 99999) ≡ false
not_under c =
    let e : lt_z (to_z w32 (of_z w32 c.args.input)) (minus 99999) ≡ false = search rules in
    rw (to_z-of_z c.ranges.input) at e

-- the segment that is found
found : (c : After-segment-k) → c.segment-k.result ≡ first_from c.args.s.now.inputs c.args.input 0 c.args.s.now.last
found c = c.segment-k.ensures ∙ rw (to_z-of_z c.ranges.input)

-- it has a place
there : (c : After-segment-k) → c.segment-k.result < 15
there c = rw (found c) (omega (arith, from_le c.args.s.now.inputs c.args.input 0 c.args.s.now.last, c.requires.last_in))

pub offset_bounds-s-k : goal.offset_bounds-s-k
offset_bounds-s-k c = omega (arith, there (goal.at.offset_bounds-s-k c).After-segment-k)

pub bounds-s-k : goal.bounds-s-k
bounds-s-k c = omega (arith, there (goal.at.bounds-s-k c).After-segment-k)

pub offset_bounds-s-k-2 : goal.offset_bounds-s-k-2
offset_bounds-s-k-2 c = omega (arith, there (goal.at.offset_bounds-s-k-2 c).After-segment-k)

pub bounds-s-k-2 : goal.bounds-s-k-2
bounds-s-k-2 c = omega (arith, there (goal.at.bounds-s-k-2 c).After-segment-k)

pub offset_bounds-s-k-3 : goal.offset_bounds-s-k-3
offset_bounds-s-k-3 c = omega (arith, there (goal.at.offset_bounds-s-k-3 c).After-segment-k)

pub bounds-s-k-3 : goal.bounds-s-k-3
bounds-s-k-3 c = omega (arith, there (goal.at.bounds-s-k-3 c).After-segment-k)

pub offset_bounds-s-k-4 : goal.offset_bounds-s-k-4
offset_bounds-s-k-4 c = omega (arith, there (goal.at.offset_bounds-s-k-4 c).After-segment-k)

pub bounds-s-k-4 : goal.bounds-s-k-4
bounds-s-k-4 c = omega (arith, there (goal.at.bounds-s-k-4 c).After-segment-k)

-- the line of that segment, at the input
line : (c : After-segment-k) → Line (point c.args.s.now.rises c.segment-k.result) (point c.args.s.now.runs c.segment-k.result) c.args.input
line c =
    record {
      segment = c.requires.each_in c.segment-k.result (there c);
      input = within_is (minus 99999) (pos 99999) c.args.input (not_over c) (not_under c);
    }

pub along-whole-requires : goal.along-whole-requires
along-whole-requires c =
    let s = c.args.s.now in
    let k = c.segment-k.result in
    let rise : to_z w32 (of_z w32 (point s.rises k)) ≡ point s.rises k = search rules in
    let run : to_z w32 (of_z w32 (point s.runs k)) ≡ point s.runs k = search rules in
    rw (rise, run, to_z-of_z c.ranges.input) (line (goal.at.along-whole-requires c).After-segment-k)

-- the whole number of the line
whole : (c : After-along-whole) → c.along-whole.result ≡ along_at c.args.s.now.inputs c.args.s.now.displays c.args.s.now.rises c.args.s.now.runs c.segment-k.result c.args.input
whole c =
    let s = c.args.s.now in
    let k = c.segment-k.result in
    let input : to_z w32 (of_z w32 (point s.inputs k)) ≡ point s.inputs k = search rules in
    let display : to_z w32 (of_z w32 (point s.displays k)) ≡ point s.displays k = search rules in
    let rise : to_z w32 (of_z w32 (point s.rises k)) ≡ point s.rises k = search rules in
    let run : to_z w32 (of_z w32 (point s.runs k)) ≡ point s.runs k = search rules in
    c.along-whole.ensures ∙ rw (input, display, rise, run, to_z-of_z c.ranges.input)

pub to_step-requires : goal.to_step-requires
to_step-requires c =
    let s = c.args.s.now in
    let k = c.segment-k.result in
    let input : SFits w32 (point s.inputs k) = search rules in
    let display : SFits w32 (point s.displays k) = search rules in
    let step : SFits w32 s.step = search rules in
    rw (back64 c.along-whole.result c.along-whole.type_inv, whole (goal.at.to_step-requires c).After-along-whole, widened step)
    (over_step _ _ s.rises s.runs s.last s.step c.requires _ _ _ input display (line (goal.at.to_step-requires c).After-segment-k))

pub returns : goal.returns
unfolding read_on displayed
returns c =
    let step : SFits w32 c.args.s.now.step = search rules in
    let found_there = (goal.at.returns c).After-segment-k in
    rw (not_over found_there, not_under found_there)
    (c.judged.ensures
    ∙ rw (back64 c.to_step.result c.to_step.type_inv, c.to_step.ensures, back64 c.along-whole.result c.along-whole.type_inv, whole (goal.at.returns c).After-along-whole, widened step, found found_there))
