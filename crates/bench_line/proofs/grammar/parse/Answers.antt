-- The tests on the way say which case of `parsed` holds.
use Rattle.std.proofs.Common.{◌≡◌, ◌∙◌, rules, true, false, ◌&&◌, leb, length}
use Rattle.bench_line.proofs.Sayings.{sized_none, unspaced_none, said_is}
use Rattle.bench_line.proofs.grammar.parse.Goals.{else-contains-via-then-contains+else-s-eq32, else-contains-via-else-contains}
use Rattle.bench_line.proofs.grammar.parse.Goals as goal

pub returns-then-s-eq32 : goal.returns-then-s-eq32
returns-then-s-eq32 c =
    let s = c.args.s.now in
    let sized : (leb 3 (length s) && leb (length s) 82) ≡ true = search rules in
    c.said.ensures ∙ said_is s sized c.if-s-eq32.true

pub returns-else-contains : goal.returns-else-contains
returns-else-contains c =
    let s = c.args.s.now in
    elim c.else-contains.branch [
      | else-contains-via-then-contains+else-s-eq32 w ↦
          let sized : (leb 3 (length s) && leb (length s) 82) ≡ true = search rules in
          unspaced_none s sized w.if-s-eq32.false
      | else-contains-via-else-contains w ↦
          let sized : (leb 3 (length s) && leb (length s) 82) ≡ false = search rules in
          sized_none s sized
    ]
