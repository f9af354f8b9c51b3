-- A line's end behind pieces. Assumes nothing.
use Rattle.std.proofs.Common.{◌≡◌, List, [], ◌∷◌, ◌++◌, ℕ}
use Rattle.text.specs.Output.{Waiting, put_in, puts}
use Rattle.text.proofs.Pieces.{one, next}
use Rattle.historian_line.specs.Line.{ended}

pub line_end : (w v u : Waiting) (a : List (List ℕ)) → v ≡ puts w a → u ≡ put_in v (10 ∷ []) → u ≡ puts w (a ++ ended)
line_end w v u a p q = next w v u a ended p (one v u (10 ∷ []) q)
