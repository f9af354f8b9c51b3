-- Every byte is a value that is a byte, and what a loop over the slices leans on. Assumes nothing.
use Rattle.std.proofs.Common.{◌≡◌, refl, sym, ap, ◌∙◌, List, [], ◌∷◌, inl, inr, ℕ, ◌<◌, ℤ, pos, negsuc, true, false, arith, Bor, Some, None, to_z, of_z, w32}
use Rattle.std.proofs.lemmas.List.{nil_from_length}
use Rattle.std.specs.Int.{FitsUnsignedBits}
use Rattle.std.specs.Iterator.Adapters.{zip_first, zip_second, zip_steps}
use Rattle.std.specs.Slice.Iter.{iter_rest, iter_steps}
use Rattle.std.specs.declared.iter.Zip.{Zip}
use Rattle.std.specs.declared.slice.Iter.{Iter}
use Rattle.std.specs.declared.option.Option.{Option}
use Rattle.std.proofs.lemmas.Bool.Decides.{nat_tests}
use borrow.Author.Tests.{le-leb}
use mir.Facts.{to_z-of_z}
use mir.Val.{SFits}
use Rattle.meter.specs.Meter.{Step}
use Rattle.meter.specs.declared.Outcome.{Outcome}
use Rattle.meter.specs.Slices.{EveryByte, is_byte, carried_one, carried_out}

-- ---- values

pub every_byte : EveryByte
every_byte b h = rw (le-leb 0 b (omega arith), le-leb b 255 (omega arith))

-- a value is what its bits say
pub back : (z : ℤ) → SFits w32 z → to_z w32 (of_z w32 z) ≡ z
back z fits = to_z-of_z fits

-- a value that fits a byte is one, and no other is
pub fits : (z : ℤ) → FitsUnsignedBits 8 z → is_byte z ≡ true
fits (pos n) h = every_byte n h
fits (negsuc n) h = absurd h

above : (n : ℕ) → (n < 256 → ⊥) → is_byte (pos n) ≡ false
above n h = grind (arith, nat_tests)

pub fits_none : (z : ℤ) → (FitsUnsignedBits 8 z → ⊥) → is_byte z ≡ false
fits_none (pos n) h = above n h
fits_none (negsuc n) h = refl

-- ---- three slices, gone through together

abbrev pub Three : Type 0
Three = Zip (Zip (Iter ℕ) (Iter ℤ)) (Iter ℕ)

abbrev pub steps : Three → Option ((Bor ℕ × Bor ℤ) × Bor ℕ) → Three → Type 0
steps = zip_steps (zip_steps iter_steps iter_steps) iter_steps

-- what is left of them, carried out
abbrev pub left : Step → Three → Step
left o s = carried_out o (iter_rest (zip_first (zip_first s))) (iter_rest (zip_second (zip_first s))) (iter_rest (zip_second s))

-- one entry more makes of the next outcome and buffer what it made of those before
pub carried_on : {w : Step} (o n : Step) (s t : Three) (kind : Bor ℕ) (value : Bor ℤ) (place : Bor ℕ) → steps s (Some ((kind, value), place)) t
    → (n.outcome ≡ (carried_one o kind.now value.now place.now).outcome) × (n.buffer ≡ (carried_one o kind.now value.now place.now).buffer)
    → left o s ≡ w
    → left n t ≡ w
unfolding carried_out
carried_on o n s t kind value place h p e =
    ap (λ (m : Step). left m t)
    (ap (λ (r : Outcome). record { outcome = r; buffer = n.buffer }) p.0
    ∙ ap (λ (b : List ℕ). record { outcome = (carried_one o kind.now value.now place.now).outcome; buffer = b }) p.1)
    ∙ sym one ∙ e
  where
    one : left o s ≡ left (carried_one o kind.now value.now place.now) t
    one = rw (h.0.0, h.0.1, h.1)

-- the shortest slice is at its end
no_values : (o : Step) (kinds places : List ℕ) → carried_out o kinds [] places ≡ o
unfolding carried_out
no_values o [] places = refl
no_values o (kind ∷ kinds) places = refl

no_places : (o : Step) (kinds : List ℕ) (values : List ℤ) → carried_out o kinds values [] ≡ o
unfolding carried_out
no_places o [] values = refl
no_places o (kind ∷ kinds) [] = refl
no_places o (kind ∷ kinds) (value ∷ values) = refl

pub carried_end : (o : Step) (s t : Three) → steps s None t → left o s ≡ o
unfolding carried_out
carried_end o s t (inl (u, inl (v, h))) = rw (nil_from_length _ h.0)
carried_end o s t (inl (u, inr (v, h))) = rw (nil_from_length _ h.0) (no_values o _ _)
carried_end o s t (inr (u, h)) = rw (nil_from_length _ h.0) (no_places o _ _)
