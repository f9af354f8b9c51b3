-- What is kept of a history, said from the history alone: no receiver, no meter and no answer occurs here.
use Rattle.std.specs.Prelude.{Bool, cond, ◌&&◌, List, [], ◌∷◌, ℕ, ℤ, pos}
use Rattle.std.proofs.Math.Option.{Option, none, some}
use Rattle.exact.specs.Sign.{eq_z}
use Rattle.config.specs.declared.Config.{Config}
use Rattle.receiver.specs.Receiver.{ends}
use Rattle.form.specs.Change.{change}
use Rattle.looking.specs.History.{Event, sample, key, byte, History, node_of, half}

-- a sample, a key other than block print, a string as its bytes without the one that ended it
pub data Entry : Type 0 where
  measured : (input : ℤ) → Entry
  pressed : (number : ℤ) → Entry
  told : (string : List ℕ) → Entry

-- key 6 is block print
abbrev pub prints : ℤ → Bool
prints k = eq_z k (pos 6)

-- what is kept of one event, with the string s half received: each sample, each key but 6, and where a string ends that has at most
-- 32 bytes, is addressed to this meter and is a well-formed V or R, that string
abbrev pub keeps : Config → List ℕ → Event → Option Entry
keeps c s (sample x) = some (measured x)
keeps c s (key k place buffer) = cond (prints k) none (some (pressed k))
keeps c s (byte b place buffer) = cond (ends b && change (node_of c) s) (some (told s)) none

-- nothing or one entry more
abbrev pub add : Option Entry → List Entry → List Entry
add none ks = ks
add (some k) ks = k ∷ ks

-- the kept list, newest first
abbrev pub kept : Config → History → List Entry
kept c [] = []
kept c (e ∷ h) = add (keeps c (half h) e) (kept c h)
