-- What the code holds of the first line, which has the scale as its segments, and what a later line is told by them. From segments the
-- points cannot be told, so this is a definition of its own; that it tells every line what the one by the configuration does is claimed in Meaning
-- (`Agrees`).
use Rattle.std.specs.Prelude.{Bool, true, false}
use Rattle.answer.specs.declared.Answer.TheVariants.{Done, Refused}
use Rattle.segments.specs.Segments.{segments_of, read, can_scale}
use Rattle.text.specs.Line.{Heard}
use Rattle.rescaling.specs.Rescaling.{Start, scaled, refused, unconfigured, start_of, input_heard, read_by}
use Rattle.rescaling.specs.declared.Mode.{Mode}
use Rattle.rescaling.specs.declared.Mode.TheVariants.{Awaiting, Scaled, Silent, Unconfigured}
use Rattle.rescaling.specs.declared.Said.{Said}
use Rattle.rescaling.specs.declared.Said.TheVariants.{Configured, Unknown, Silence}
use Rattle.rescaling.specs.declared.Opened.{Opened}

-- ---- the first line

-- no scale
abbrev pub without : Mode → Said → Opened
without mode said = record { mode = mode; said = said }

abbrev pub opened_as : Start → Opened
opened_as (scaled s) = record { mode = Scaled (segments_of s); said = Configured Done }
opened_as (refused rule) = without Silent (Configured (Refused rule))
opened_as unconfigured = without Unconfigured Unknown

unfoldable pub opened : Heard → Opened
opened h = opened_as (start_of h)

-- whether the first line is still to come
abbrev pub awaits : Mode → Bool
awaits Awaiting = true
awaits (Scaled s) = false
awaits Silent = false
awaits Unconfigured = false

-- ---- a later line

abbrev pub said_by : Mode → Heard → Said
said_by Awaiting h = Unknown
said_by (Scaled s) h = read_by (read s) (input_heard h)
said_by Silent h = Silence
said_by Unconfigured h = Unknown

-- where inputs are read, the scale is one that they can be read by: what reading asks of it
abbrev pub sound : Mode → Bool
sound Awaiting = true
sound (Scaled s) = can_scale s
sound Silent = true
sound Unconfigured = true
