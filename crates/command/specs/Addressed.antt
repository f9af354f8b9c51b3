-- Which node a string is addressed to, if any, said from its bytes whether or not its form is bad.
use Rattle.std.specs.Prelude.{ℕ, zero, suc, ◌-◌, cond, List, [], ◌∷◌, eqb, None, Some}
use Rattle.std.proofs.Math.Option.{Option, none, some}
use Rattle.register.specs.Bytes.{byte}
use Rattle.numeral.specs.Number.{is_digit, value}
use Rattle.command.specs.Parse.{Parsed}

-- the digits that a string begins with, at most k of them
abbrev pub leading : ℕ → List ℕ → List ℕ
leading zero s = []
leading (suc k) [] = []
leading (suc k) (b ∷ s) = cond (is_digit b) ((b - byte "0") ∷ leading k s) []

-- the number of some digits; with no digit there is none
abbrev pub numbered : List ℕ → Option ℕ
numbered [] = none
numbered (d ∷ ds) = some (value (d ∷ ds))

-- behind N stand one or two digits, as many as there are; no N means node 0
unfoldable pub addressed : List ℕ → Option ℕ
addressed [] = some 0
addressed (b ∷ s) = cond (eqb b (byte "N")) (numbered (leading 2 s)) (some 0)

-- the node that the parser finds
abbrev pub parsed_node : Parsed → Option ℕ
parsed_node None = none
parsed_node (Some (n, a)) = some n
