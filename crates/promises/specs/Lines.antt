-- T's lines, of every meter that passes the test at the door, also of a value that no power-up made.
use Rattle.std.specs.Prelude.{◌≡◌, true, cond, ℕ, ◌^◌, ◌<◌, pos, length}
use Rattle.register.specs.Registers.{at, count}
use Rattle.reading.specs.declared.Reading.TheVariants.{Number}
use Rattle.line.specs.Line.{line}
use Rattle.effect.specs.Reply.{style}
use Rattle.meter.specs.Door.{sound}
use Rattle.meter.specs.declared.Meter.{Meter}
use Rattle.promises.specs.Rows.{line_of}

pub record Lines (m : Meter) : Type 0 where
  -- each has 20 bytes, abbreviated 14
  pub bytes : (r : ℕ) → r < count → length (line_of m r) ≡ cond m.config.talking.abbreviated 14 20
  -- that of the status shows the number that is stored, whatever it is
  pub status : line_of m (at "J") ≡ line (style m.config.talking) (at "J") 0 (Number (pos m.instrument.outputs.status))

-- of the status nothing is asked but that it is a number of the 16 bits in which it is stored
abbrev pub EachLine : Type 0
EachLine = (m : Meter) → sound m ≡ true → m.instrument.outputs.status < 2 ^ 16 → Lines m
