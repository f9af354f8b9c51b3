-- How the outputs are driven: the analog code, automatic or manual mode, and the status number, which is stored with them.
use Rattle.std.specs.Prelude.{Bool, true, false, ℕ, ◌+◌, ◌%◌, ℤ, pos}
use Rattle.exact.specs.Sign.{within}
use Rattle.reading.specs.declared.Reading.{Reading}
use Rattle.analog.specs.Analog.{code_of}
use Rattle.config.specs.declared.Working.{Working}
use Rattle.outputs.specs.declared.Mode.{Mode}
use Rattle.outputs.specs.declared.Mode.TheVariants.{Automatic, Manual}
use Rattle.outputs.specs.declared.Outputs.{Outputs}

-- ---- the status: the outputs that are driven as bits 0 to 3, those of the alarms that are on or in manual mode the manual bits, and
-- 16 for manual

unfoldable pub status : Mode → ℕ → ℕ
status Automatic on = on
status (Manual bits) on = 16 + bits

-- new outputs, with the alarms that are on as bits. Whatever changes an alarm's state or the mode makes them, and the status is stored
-- with them
abbrev pub driving : ℤ → Mode → ℕ → Outputs
driving code mode on = record { code = code; mode = mode; status = status mode on }

-- power-up is in automatic mode, with code 0 and no alarm on
abbrev pub powered_up : Outputs
powered_up = driving (pos 0) Automatic 0

-- the code of a reading
abbrev pub code_by : Working → Reading → ℤ
code_by w r = code_of w.analog.low w.analog.high r

-- in automatic mode the code is worked out from the reading, in manual mode the last one stands
unfoldable pub coded : Working → Mode → ℤ → Reading → ℤ
coded w Automatic code r = code_by w r
coded w (Manual bits) code r = code

-- a sample, which leaves these alarms on
abbrev pub sampled : Working → Outputs → ℕ → Reading → Outputs
sampled w o on r = driving (coded w o.mode o.code r) o.mode on

-- a reset of alarms, which leaves these on
abbrev pub alarms_reset : Outputs → ℕ → Outputs
alarms_reset o on = driving o.code o.mode on

-- ---- V of the analog register, which is shut in automatic mode

abbrev pub automatic : Mode → Bool
automatic Automatic = true
automatic (Manual bits) = false

-- mode and status stand
abbrev pub write_code : Outputs → ℤ → Outputs
write_code o z = record { code = z; mode = o.mode; status = o.status }

-- ---- VJ: bit 4 of the byte says which

-- manual mode with outputs 1 to 4 as bits 0 to 3; the last code stands
abbrev pub to_manual : Outputs → ℕ → ℕ → Outputs
to_manual o on b = driving o.code (Manual (b % 16)) on

-- automatic mode; the code is worked out at once from the present reading
abbrev pub to_automatic : Working → ℕ → Reading → Outputs
to_automatic w on r = driving (code_by w r) Automatic on

-- ---- what showing them leans on: the code is one. The status is shown as it is stored

abbrev pub in_code : ℤ → Bool
in_code z = within (pos 0) (pos 4095) z

unfoldable pub sound : Outputs → Bool
sound o = in_code o.code
