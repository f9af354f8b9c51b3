-- The analog code, as document 01 has it.
use Rattle.std.specs.Prelude.{suc, ℤ, pos, negsuc, neg_ℤ, ◌-ℤ◌, ◌*ℤ◌}
use Rattle.exact.specs.Sign.{held_to}
use Rattle.exact.specs.Exact.{floor}
use Rattle.reading.specs.declared.Reading.{Reading}
use Rattle.reading.specs.declared.Reading.TheVariants.{Nothing, Under, Number, Over}

-- the floor of n / d for a divisor on either side of zero: n / d is (-n) / (-d)
unfoldable pub floor_by : ℤ → ℤ → ℤ
floor_by n (pos d) = floor n d
floor_by n (negsuc d) = floor (neg_ℤ n) (suc d)

-- held to 0 to 4,095
unfoldable pub held : ℤ → ℤ
held z = held_to (pos 0) (pos 4095) z

-- floor of 4,095 × (reading - low) / (high - low), held; Over 4,095 and Under 0, also where high is below low; 0 before any sample
unfoldable pub code_of : ℤ → ℤ → Reading → ℤ
code_of low high Nothing = pos 0
code_of low high Under = pos 0
code_of low high (Number v) = held (floor_by (pos 4095 *ℤ (v -ℤ low)) (high -ℤ low))
code_of low high Over = pos 4095
