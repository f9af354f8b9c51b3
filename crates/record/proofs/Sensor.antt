-- The sensor, a configuration's last word: a line without it says what it says with a 0 there, and reads by points; 1 is platinum and
-- nothing else is. Assumes nothing.
use mathlib.Core.Path.{◌≡◌, refl, sym, ap, ◌∙◌}
use mathlib.Core.Bool.{Bool, true, false, cond}
use mathlib.Core.List.{List, [], ◌∷◌, ◌++◌, append-nil}
use Prim.Native.Nat.{ℕ, suc, ◌<◌}
use native.Mathlib.Omega.{arith}
use lib.Dec.{eqb}
use Rattle.std.specs.Prelude.{Option, Some, None}
use lib.IntN.{ℤ, pos}
use lib.ListN.{length, get_or, length-append}
use Rattle.exact.specs.Sign.{eq_z}
use Rattle.exact.proofs.Z.{eq_z_true}
use Rattle.register.specs.Bytes.{ascii}
use Rattle.text.specs.Number.{digits, value, natural_of, signed_of, number_of, flag_of}
use Rattle.config.specs.declared.Source.TheVariants.{Points, Platinum}
use Rattle.record.specs.Record.{word_count, sensor_at, led, words, same, kinds, setting_of, onto, settings_of, completed, configuration_said, event_of, read_of}
use Rattle.record.specs.Configuration.{number, source_of}
use Rattle.record.proofs.Words.{words_some}

-- ---- a line without it

-- ` 0` behind a line is a word more
words_behind : (l : List ℕ) → words (l ++ ascii " 0") ≡ words l ++ (ascii "0" ∷ [])
unfolding words
words_behind [] = refl
words_behind (b ∷ l) = ap (led (eqb b 32) b) (words_behind l) ∙ go (eqb b 32) (words l) (words_some l)
  where
    go : (t : Bool) (ws : List (List ℕ)) → 0 < length ws → led t b (ws ++ (ascii "0" ∷ [])) ≡ led t b ws ++ (ascii "0" ∷ [])
    go t [] h = absurd (omega arith)
    go true (w ∷ ws) h = refl
    go false (w ∷ ws) h = refl

-- and is read as 0; where a word before it is no setting, nothing is read there
zero_behind : (ks : List Bool) (ws : List (List ℕ)) → get_or (settings_of ks (ws ++ (ascii "0" ∷ []))) (length ws) (pos 0) ≡ pos 0
unfolding settings_of number_of signed_of natural_of digits value flag_of
zero_behind [] ws = refl
zero_behind (true ∷ ks) [] = refl
zero_behind (false ∷ ks) [] = refl
zero_behind (k ∷ ks) (w ∷ ws) = go (setting_of k w) (settings_of ks (ws ++ (ascii "0" ∷ []))) (zero_behind ks ws)
  where
    go : (x : Option ℤ) (read : List ℤ) → get_or read (length ws) (pos 0) ≡ pos 0 → get_or (onto x read) (suc (length ws)) (pos 0) ≡ pos 0
    go (Some v) read e = e
    go None read e = refl

module _ (l : List ℕ) (ws : List (List ℕ)) (cfg : words l ≡ ascii "CFG" ∷ ws) (count : length ws ≡ sensor_at) where
  with_zero : words (l ++ ascii " 0") ≡ ascii "CFG" ∷ (ws ++ (ascii "0" ∷ []))
  with_zero = words_behind l ∙ ap (λ (v : List (List ℕ)). v ++ (ascii "0" ∷ [])) cfg

  completed_alike : completed ws ≡ completed (ws ++ (ascii "0" ∷ []))
  completed_alike =
      let n : length (ws ++ (ascii "0" ∷ [])) ≡ word_count = length-append ws (ascii "0" ∷ []) ∙ omega (arith, count) in
      rw (n, count, append-nil)

  -- it says what it says with ` 0` behind it, and as much is read of it
  pub left_out : (event_of l ≡ event_of (l ++ ascii " 0")) × (read_of l ≡ read_of (l ++ ascii " 0"))
  unfolding event_of read_of configuration_said same
  left_out = rw (with_zero, cfg, completed_alike) (refl, refl)

  -- so it reads by points
  zero_read : number (read_of l) sensor_at ≡ pos 0
  unfolding read_of same
  zero_read = rw (cfg, count) (ap (λ (n : ℕ). number (settings_of kinds (ws ++ (ascii "0" ∷ []))) n) (sym count) ∙ zero_behind kinds ws)

  pub points_without : source_of (read_of l) ≡ Points
  points_without = rw zero_read

-- ---- 1 is platinum

pub platinum_is_one : (s : List ℤ) → (source_of s ≡ Platinum → number s sensor_at ≡ pos 1) × (number s sensor_at ≡ pos 1 → source_of s ≡ Platinum)
platinum_is_one s = (go (eq_z (number s sensor_at) (pos 1)) refl, λ e. rw e)
  where
    go : (t : Bool) → eq_z (number s sensor_at) (pos 1) ≡ t → cond t Platinum Points ≡ Platinum → number s sensor_at ≡ pos 1
    go true e p = eq_z_true (number s sensor_at) (pos 1) e
    go false e p = cc
