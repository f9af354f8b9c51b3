-- The node that the parser finds is the one that the string is addressed to, whatever its form.
use mathlib.Core.Path.{◌≡◌, refl, ap}
use mathlib.Core.Bool.{Bool, true, false, cond}
use mathlib.Core.List.{List, [], ◌∷◌}
use mathlib.Core.Option.{some}
use Prim.Native.Nat.{ℕ, ◌+◌, ◌-◌, ◌*◌}
use native.Mathlib.Omega.{arith}
use lib.Dec.{eqb}
use Rattle.register.specs.Bytes.{byte}
use Rattle.numeral.specs.Number.{is_digit}
use Rattle.command.specs.Parse.{body, second_digit, first_digit, parse}
use Rattle.command.specs.Addressed.{leading, numbered, addressed, parsed_node}
use Rattle.std.specs.Prelude.{None, Some}

second_by : (d b : ℕ) (s : List ℕ) (t : Bool)
    → parsed_node (cond t (Some (10 * d + (b - byte "0"), body s)) (Some (d, body (b ∷ s)))) ≡ numbered (d ∷ cond t ((b - byte "0") ∷ leading 0 s) [])
second_by d b s true = ap some (omega arith)
second_by d b s false = ap some (omega arith)

second : (d : ℕ) (s : List ℕ) → parsed_node (second_digit d s) ≡ numbered (d ∷ leading 1 s)
unfolding second_digit
second d [] = ap some (omega arith)
second d (b ∷ s) = second_by d b s (is_digit b)

first_by : (b : ℕ) (s : List ℕ) (t : Bool)
    → parsed_node (cond t (second_digit (b - byte "0") s) None) ≡ numbered (cond t ((b - byte "0") ∷ leading 1 s) [])
first_by b s true = second (b - byte "0") s
first_by b s false = refl

first : (s : List ℕ) → parsed_node (first_digit s) ≡ numbered (leading 2 s)
unfolding first_digit
first [] = refl
first (b ∷ s) = first_by b s (is_digit b)

parse_by : (b : ℕ) (s : List ℕ) (t : Bool)
    → parsed_node (cond t (first_digit s) (Some (0, body (b ∷ s)))) ≡ cond t (numbered (leading 2 s)) (some 0)
parse_by b s true = first s
parse_by b s false = refl

pub parsed_node_lem : (s : List ℕ) → parsed_node (parse s) ≡ addressed s
unfolding parse addressed
parsed_node_lem [] = refl
parsed_node_lem (b ∷ s) = parse_by b s (eqb b (byte "N"))
