-- A printed row.
use Rattle.std.specs.Prelude.{Bool, cond, List, [], ◌∷◌, ℕ}
use Rattle.register.specs.Bytes.{byte as char}

-- 1 for on, 0 for off
abbrev pub digit : Bool → ℕ
digit on = cond on (char "1") (char "0")

-- the state with no sample below the setpoint, with one, and so on to six
abbrev pub row_of : (ℕ → Bool) → List ℕ
row_of f = digit (f 0) ∷ digit (f 1) ∷ digit (f 2) ∷ digit (f 3) ∷ digit (f 4) ∷ digit (f 5) ∷ digit (f 6) ∷ []
