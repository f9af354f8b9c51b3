-- Of two numbers one lies beyond the other or neither, and of some numbers one is the closest to what is kept. Assumes nothing.
use mathlib.Core.Path.{◌≡◌, refl, sym, ap, ◌∙◌}
use mathlib.Core.Bool.{Bool, true, false, cond}
use mathlib.Core.List.{List, [], ◌∷◌, ◌++◌}
use Prim.Native.Nat.{suc}
use lib.IntN.{ℤ}
use lib.ListN.{length}
use lib.Signed.{le_z}
use Rattle.std.specs.Prelude.{Option, None, Some}
use Rattle.exact.proofs.Z.{never, lt_self, lt_trans, not_lt, le_both}
use Rattle.extremes.specs.declared.Side.{Side}
use Rattle.extremes.specs.declared.Side.TheVariants.{Max, Min}
use Rattle.extremes.specs.declared.Streak.{Streak}
use Rattle.extremes.specs.Extremes.{streak, beyond, nearer, so_many, closest}
use Rattle.extremes.specs.Takes.{OneOf, here, further, Closest}

-- ---- beyond is an order

beyond_self : (side : Side) (v : ℤ) → beyond side v v ≡ false
unfolding beyond
beyond_self Max v = lt_self v
beyond_self Min v = lt_self v

beyond_trans : (side : Side) (u v w : ℤ) → beyond side u v ≡ true → beyond side v w ≡ true → beyond side u w ≡ true
unfolding beyond
beyond_trans Max u v w e f = lt_trans w v u f e
beyond_trans Min u v w e f = lt_trans u v w e f

-- ---- the closest of some numbers

pub nothing_of : {v : ℤ} → OneOf v [] → ⊥
nothing_of o = elim o [ ]

module _ (side : Side) where
  -- a number that w lies beyond is nearer than all that w is nearer than
  nearer_still : (w v u : ℤ) → beyond side w v ≡ true → beyond side w u ≡ false → (t : Bool) → beyond side v u ≡ t → t ≡ false
  nearer_still w v u e f true g = never (sym f ∙ beyond_trans side w v u e g)
  nearer_still w v u e f false g = refl

  module _ (w v : ℤ) (vs : List ℤ) (c : Closest side w vs) where
    new_one : beyond side w v ≡ true → (u : ℤ) → OneOf u (v ∷ vs) → beyond side v u ≡ false
    new_one e _ (here _) = beyond_self side v
    new_one e u (further _ _ o) = nearer_still w v u e (c.none_nearer u o) (beyond side v u) refl

    old_one : beyond side w v ≡ false → (u : ℤ) → OneOf u (v ∷ vs) → beyond side w u ≡ false
    old_one e _ (here _) = e
    old_one e u (further _ _ o) = c.none_nearer u o

    more_by : (t : Bool) → beyond side w v ≡ t → Closest side (cond t v w) (v ∷ vs)
    more_by true e = record { one_of = here vs; none_nearer = new_one e }
    more_by false e = record { one_of = further v vs c.one_of; none_nearer = old_one e }

    -- with one number more, the nearer of the two is the closest
    closest_more : Closest side (nearer side w v) (v ∷ vs)
    closest_more = more_by (beyond side w v) refl

  only_itself : (v u : ℤ) → OneOf u (v ∷ []) → beyond side v u ≡ false
  only_itself v _ (here _) = beyond_self side v
  only_itself v u (further _ _ o) = elim o [ ]

  -- the run that some readings make, the newest first
  abbrev pub streak_of : List ℤ → Option Streak
  streak_of [] = None
  streak_of (v ∷ vs) = Some (streak (suc (length vs)) (closest side (streak_of vs) v))

  -- of any numbers there is a closest one
  pub closest_of : (v : ℤ) (vs : List ℤ) → Closest side (closest side (streak_of vs) v) (v ∷ vs)
  closest_of v [] = record { one_of = here []; none_nearer = only_itself v }
  closest_of v (w ∷ vs) = closest_more (closest side (streak_of vs) w) v (w ∷ vs) (closest_of w vs)

  pub many_of : (vs : List ℤ) → so_many (streak_of vs) ≡ length vs
  many_of [] = refl
  many_of (v ∷ vs) = refl

-- and but one
pub closest_only : (side : Side) (v w : ℤ) (vs : List ℤ) → Closest side v vs → Closest side w vs → v ≡ w
unfolding beyond
closest_only Max v w vs c d = le_both v w (not_lt w v (c.none_nearer w d.one_of)) (not_lt v w (d.none_nearer v c.one_of))
closest_only Min v w vs c d = le_both v w (not_lt w v (d.none_nearer v c.one_of)) (not_lt v w (c.none_nearer w d.one_of))

-- of a max's run it is the least
pub least : (v : ℤ) (vs : List ℤ) → Closest Max v vs → (w : ℤ) → OneOf w vs → le_z v w ≡ true
unfolding beyond
least v vs c w o = not_lt w v (c.none_nearer w o)

-- of a min's run the greatest
pub greatest : (v : ℤ) (vs : List ℤ) → Closest Min v vs → (w : ℤ) → OneOf w vs → le_z w v ≡ true
unfolding beyond
greatest v vs c w o = not_lt v w (c.none_nearer w o)

-- ---- some numbers with one left out

-- what stands among some numbers with one left out stands among all of them
pub with_one : (w v : ℤ) (newer older : List ℤ) → OneOf w (newer ++ older) → OneOf w (newer ++ v ∷ older)
with_one w v [] older o = further v older o
with_one _ v (u ∷ newer) older (here _) = here (newer ++ v ∷ older)
with_one w v (u ∷ newer) older (further _ _ o) = further u (newer ++ v ∷ older) (with_one w v newer older o)

pub one_less : (v : ℤ) (newer older : List ℤ) → length (newer ++ v ∷ older) ≡ suc (length (newer ++ older))
one_less v [] older = refl
one_less v (u ∷ newer) older = ap suc (one_less v newer older)
