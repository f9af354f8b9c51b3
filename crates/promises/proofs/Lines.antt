-- T's lines have their length, and that of the status shows what is stored. Assumes nothing.
use mathlib.Core.Path.{refl}
use Rattle.line.proofs.Lines.{line_length_lem}
use Rattle.instrument.specs.Shown.{shown_at, places_at}
use Rattle.effect.specs.Reply.{style, read_reply}
use Rattle.effect.proofs.Able.{tested}
use Rattle.effect.proofs.Shows.{writable}
use Rattle.promises.specs.Lines.{EachLine}
use Rattle.promises.proofs.Door.{halves}

pub each_line : EachLine
unfolding read_reply shown_at places_at
each_line m ok s =
    let t = m.config.talking in
    let w = m.config.working in
    let i = m.instrument in
    record {
      bytes = λ r h. line_length_lem (style t) r (places_at t.places r) (shown_at w i r) (writable t w i (tested t w i (halves m ok).1) s r h);
      status = refl;
    }
