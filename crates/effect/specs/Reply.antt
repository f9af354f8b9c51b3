-- What T and P reply.
use Rattle.std.specs.Prelude.{List, ℕ, nat_abs}
use Rattle.config.specs.declared.Talking.{Talking}
use Rattle.config.specs.declared.Working.{Working}
use Rattle.line.specs.Line.{line}
use Rattle.line.specs.declared.Style.{Style}
use Rattle.block.specs.Block.{block}
use Rattle.instrument.specs.Shown.{shown_at, places_at}
use Rattle.instrument.specs.declared.Instrument.{Instrument}

-- how the meter's lines look
abbrev pub style : Talking → Style
style t = record { node = nat_abs t.node; abbreviated = t.abbreviated }

-- T: the line of one register
unfoldable pub read_reply : Talking → Working → Instrument → ℕ → List ℕ
read_reply t w i r = line (style t) r (places_at t.places r) (shown_at w i r)

-- P, and key 6: the block of these lines
unfoldable pub print_reply : Talking → Working → Instrument → List ℕ
print_reply t w i = block t.print (read_reply t w i)
