-- Where the kept list grows, and where it stays as it was.
use Rattle.std.specs.Prelude.{◌≡◌, true, false, List, [], ◌∷◌, ◌≢◌, ℕ, ◌<◌, ℤ, pos, length}
use Rattle.std.proofs.Math.Option.{some}
use Rattle.config.specs.declared.Config.{Config}
use Rattle.receiver.specs.Receiver.{ends, drops}
use Rattle.receiver.specs.Since.{ending}
use Rattle.command.specs.Addressed.{addressed}
use Rattle.command.specs.declared.Asked.TheVariants.{Read, Print}
use Rattle.form.specs.Grammar.{Says, NoDigit}
use Rattle.form.specs.Change.{Change}
use Rattle.form.specs.Understood.{Silent}
use Rattle.looking.specs.History.{sample, key, byte, History, node_of, half}
use Rattle.looking.specs.Kept.{measured, pressed, told, kept}

module _ (c : Config) (h : History) where
  -- a byte after h leaves the kept list as it was
  abbrev pub Stays : ℕ → Type 0
  Stays b = (place : ℕ) (buffer : List ℕ) → kept c (byte b place buffer ∷ h) ≡ kept c h

  pub record Pinned : Type 0 where
    -- one entry more: each sample, each key other than 6, each well-formed V or R to this meter
    pub at_sample : (x : ℤ) → kept c (sample x ∷ h) ≡ measured x ∷ kept c h
    pub at_key : (k : ℤ) (place : ℕ) (buffer : List ℕ) → k ≢ pos 6 → kept c (key k place buffer ∷ h) ≡ pressed k ∷ kept c h
    pub at_change : (b place : ℕ) (buffer : List ℕ) → ends b ≡ true → Change (half h) (node_of c)
        → kept c (byte b place buffer ∷ h) ≡ told (half h) ∷ kept c h
    -- as it was: at key 6
    pub at_print_key : (place : ℕ) (buffer : List ℕ) → kept c (key (pos 6) place buffer ∷ h) ≡ kept c h
    -- at every byte that ends nothing
    pub at_part : (b : ℕ) → ending b ≡ false → Stays b
    -- at CR and LF, which drop what was half received
    pub at_drop : (b : ℕ) → drops b ≡ true → Stays b
    pub dropped : (b place : ℕ) (buffer : List ℕ) → drops b ≡ true → half (byte b place buffer ∷ h) ≡ []
    -- at T and P, to whichever node
    pub at_read : (b n r : ℕ) → Says (half h) n (Read r) → Stays b
    pub at_print : (b n : ℕ) → Says (half h) n Print → Stays b
    -- at bad form: nothing is asked of this meter, or N has no digit
    pub at_bad_form : (b : ℕ) → Silent (half h) (node_of c) → Stays b
    pub at_no_digit : (b : ℕ) → NoDigit (half h) → Stays b
    -- at a string for another node, whatever its form
    pub at_other_node : (b n : ℕ) → addressed (half h) ≡ some n → n ≢ node_of c → Stays b
    -- over 32 bytes
    pub at_too_long : (b : ℕ) → 32 < length (half h) → Stays b
