-- Strings and what they ask, in one table with one claim. A string stands here without the byte that ends it.
use Rattle.std.specs.Prelude.{ℕ, ◌≡◌, List, [], ◌∷◌, ◌++◌, map, pos, None, Some}
use Prim.Native.String.{String}
use Rattle.exact.specs.Sign.{minus}
use Rattle.register.specs.Bytes.{ascii}
use Rattle.register.specs.Registers.{at}
use Rattle.command.specs.Parse.{parse}
use Rattle.command.specs.declared.Asked.TheVariants.{Read, Print, Reset, Write, Status, BadForm}
use Rattle.command.specs.Parse.{Parsed}

pub record Case : Type 0 where
  pub string : List ℕ
  pub asked : Parsed

-- a string of characters; one of characters and a byte that is none
abbrev asks : String → Parsed → Case
asks t p = record { string = ascii t; asked = p }

abbrev asks_byte : String → ℕ → Parsed → Case
asks_byte t b p = record { string = ascii t ++ b ∷ []; asked = p }

abbrev pub cases : List Case
cases =
    -- the examples of document 002
    asks "N17VE350" (Some (17, Write (at "E") (pos 350)))
    ∷ asks "N5TA" (Some (5, Read (at "A")))
    ∷ asks "RH" (Some (0, Reset (at "H")))
    ∷ asks "VJ0" (Some (0, Status 0x30))
    ∷ asks "VJ5" (Some (0, Status 0x35))
    ∷ asks "VJ@" (Some (0, Status 0x40))
    ∷ asks "VI4095" (Some (0, Write (at "I") (pos 4_095)))
    ∷ asks "VI0" (Some (0, Write (at "I") (pos 0)))
    -- no N means node 0, whatever else stands there
    ∷ asks "" (Some (0, BadForm))
    ∷ asks "TA" (Some (0, Read (at "A")))
    ∷ asks "P" (Some (0, Print))
    ∷ asks "HELLO" (Some (0, BadForm))
    ∷ asks "5TA" (Some (0, BadForm))
    ∷ asks "n5TA" (Some (0, BadForm))
    ∷ asks " N5TA" (Some (0, BadForm))
    -- N with no digit has no node
    ∷ asks "N" None
    ∷ asks "NTA" None
    ∷ asks "NN5TA" None
    ∷ asks "N 5TA" None
    -- one or two digits, as many as stand there, and no more than two
    ∷ asks "N05TJ" (Some (5, Read (at "J")))
    ∷ asks "N0P" (Some (0, Print))
    ∷ asks "N00P" (Some (0, Print))
    ∷ asks "N00TA" (Some (0, Read (at "A")))
    ∷ asks "N99RB" (Some (99, Reset (at "B")))
    ∷ asks "N123TA" (Some (12, BadForm))
    ∷ asks "N005TA" (Some (0, BadForm))
    ∷ asks "N5" (Some (5, BadForm))
    ∷ asks "N17" (Some (17, BadForm))
    ∷ asks "N5N5TA" (Some (5, BadForm))
    ∷ asks "N5 TA" (Some (5, BadForm))
    -- registers that a command takes, and that it does not
    ∷ asks "TJ" (Some (0, Read (at "J")))
    ∷ asks "TC" (Some (0, Read (at "C")))
    ∷ asks "TD" (Some (0, Read (at "D")))
    ∷ asks "TK" (Some (0, BadForm))
    ∷ asks "T@" (Some (0, BadForm))
    ∷ asks "RB" (Some (0, Reset (at "B")))
    ∷ asks "RA" (Some (0, BadForm))
    ∷ asks "RI" (Some (0, BadForm))
    ∷ asks "RJ" (Some (0, BadForm))
    ∷ asks "VD1" (Some (0, BadForm))
    ∷ asks "VA1" (Some (0, BadForm))
    ∷ asks "VH1" (Some (0, Write (at "H") (pos 1)))
    ∷ asks "VK1" (Some (0, BadForm))
    -- a byte too many or too few, lower case, spaces, the eighth bit
    ∷ asks "A" (Some (0, BadForm))
    ∷ asks "T" (Some (0, BadForm))
    ∷ asks "R" (Some (0, BadForm))
    ∷ asks "V" (Some (0, BadForm))
    ∷ asks "TAA" (Some (0, BadForm))
    ∷ asks "RBB" (Some (0, BadForm))
    ∷ asks "PA" (Some (0, BadForm))
    ∷ asks "PP" (Some (0, BadForm))
    ∷ asks "ta" (Some (0, BadForm))
    ∷ asks "Ta" (Some (0, BadForm))
    ∷ asks "tA" (Some (0, BadForm))
    ∷ asks "p" (Some (0, BadForm))
    ∷ asks "T A" (Some (0, BadForm))
    ∷ asks "TA " (Some (0, BadForm))
    ∷ asks_byte "" 0xD4 (Some (0, BadForm))
    ∷ asks_byte "T" 0xC1 (Some (0, BadForm))
    -- numbers
    ∷ asks "VE123456" (Some (0, Write (at "E") (pos 23_456)))
    ∷ asks "VE123456789012345678901234567890" (Some (0, Write (at "E") (pos 67_890)))
    ∷ asks "VE1.2.3" (Some (0, Write (at "E") (pos 123)))
    ∷ asks "VE-.5" (Some (0, Write (at "E") (minus 5)))
    ∷ asks "VE..7" (Some (0, Write (at "E") (pos 7)))
    ∷ asks "VE7." (Some (0, Write (at "E") (pos 7)))
    ∷ asks "VE00042" (Some (0, Write (at "E") (pos 42)))
    ∷ asks "VE-0" (Some (0, Write (at "E") (pos 0)))
    ∷ asks "VE-100000" (Some (0, Write (at "E") (pos 0)))
    ∷ asks "VI5" (Some (0, Write (at "I") (pos 5)))
    ∷ asks "VI-0" (Some (0, Write (at "I") (pos 0)))
    ∷ asks "VI100000" (Some (0, Write (at "I") (pos 0)))
    -- the limits, and past them: the last five digits count first
    ∷ asks "VE99999" (Some (0, Write (at "E") (pos 99_999)))
    ∷ asks "VE100000" (Some (0, Write (at "E") (pos 0)))
    ∷ asks "VE-19999" (Some (0, Write (at "E") (minus 19_999)))
    ∷ asks "VE-20000" (Some (0, Write (at "E") (minus 19_999)))
    ∷ asks "VE-120000" (Some (0, Write (at "E") (minus 19_999)))
    ∷ asks "VE-119998" (Some (0, Write (at "E") (minus 19_998)))
    ∷ asks "VF-99999" (Some (0, Write (at "F") (minus 19_999)))
    ∷ asks "VG-20001" (Some (0, Write (at "G") (minus 19_999)))
    ∷ asks "VH-50000" (Some (0, Write (at "H") (minus 19_999)))
    ∷ asks "VI4096" (Some (0, Write (at "I") (pos 4_095)))
    ∷ asks "VI5000" (Some (0, Write (at "I") (pos 4_095)))
    ∷ asks "VI99999" (Some (0, Write (at "I") (pos 4_095)))
    ∷ asks "VI104095" (Some (0, Write (at "I") (pos 4_095)))
    ∷ asks "VI-1" (Some (0, Write (at "I") (pos 0)))
    ∷ asks "VI-99999" (Some (0, Write (at "I") (pos 0)))
    -- and what is none
    ∷ asks "VE" (Some (0, BadForm))
    ∷ asks "VE-" (Some (0, BadForm))
    ∷ asks "VE." (Some (0, BadForm))
    ∷ asks "VE-." (Some (0, BadForm))
    ∷ asks "VE--1" (Some (0, BadForm))
    ∷ asks "VE1-" (Some (0, BadForm))
    ∷ asks "VE.-5" (Some (0, BadForm))
    ∷ asks "VE+1" (Some (0, BadForm))
    ∷ asks "VE 1" (Some (0, BadForm))
    ∷ asks "VE1 " (Some (0, BadForm))
    ∷ asks "VE1,5" (Some (0, BadForm))
    -- J: one byte of 0 to 127
    ∷ asks "VJ." (Some (0, Status 0x2E))
    ∷ asks "VJ-" (Some (0, Status 0x2D))
    ∷ asks "VJN" (Some (0, Status 0x4E))
    ∷ asks "VJ " (Some (0, Status 0x20))
    ∷ asks_byte "VJ" 0 (Some (0, Status 0))
    ∷ asks_byte "VJ" 127 (Some (0, Status 127))
    ∷ asks_byte "VJ" 128 (Some (0, BadForm))
    ∷ asks_byte "VJ" 255 (Some (0, BadForm))
    ∷ asks "VJ" (Some (0, BadForm))
    ∷ asks "VJ55" (Some (0, BadForm))
    ∷ []

-- the claim: each string asks what stands beside it
abbrev pub Right : Type 0
Right = map (λ (c : Case). parse c.string) cases ≡ map (λ (c : Case). c.asked) cases
