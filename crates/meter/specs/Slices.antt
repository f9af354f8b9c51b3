-- Events as a caller gives them in three slices, oldest first, carried out one after another over one lent buffer.
use Rattle.std.specs.Prelude.{◌≡◌, Bool, true, cond, ◌&&◌, List, [], ◌∷◌, ℕ, ◌<◌, eqb, ℤ, pos, nat_abs}
use Rattle.exact.specs.Sign.{within}
use Rattle.meter.specs.Meter.{Step, sampled, keyed, received}

-- a value that is a byte
abbrev pub is_byte : ℤ → Bool
is_byte z = within (pos 0) (pos 255) z

-- and every byte is such a value
abbrev pub EveryByte : Type 0
EveryByte = (b : ℕ) → b < 256 → is_byte (pos b) ≡ true

-- an entry of kind 0 is a sample, of kind 1 a key, of kind 2 a byte where its value is one. Any other encodes no event: the outcome
-- before it stands, and the buffer is as it was
unfoldable pub carried_one : Step → ℕ → ℤ → ℕ → Step
carried_one o kind value place =
    cond (eqb kind 0) (record { outcome = sampled o.outcome.meter value; buffer = o.buffer })
    (cond (eqb kind 1) (keyed o.outcome.meter value o.buffer place)
    (cond (eqb kind 2 && is_byte value) (received o.outcome.meter (nat_abs value) o.buffer place)
    o))

-- there are as many entries as the shortest slice has
unfoldable pub carried_out : Step → List ℕ → List ℤ → List ℕ → Step
carried_out o [] values places = o
carried_out o (kind ∷ kinds) [] places = o
carried_out o (kind ∷ kinds) (value ∷ values) [] = o
carried_out o (kind ∷ kinds) (value ∷ values) (place ∷ places) = carried_out (carried_one o kind value place) kinds values places
