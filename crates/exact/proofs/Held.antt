-- A number held to limits is the nearest of those that lie within them, and no other is as near. Assumes nothing.
use mathlib.Core.Path.{◌≡◌, refl, sym, ap, subst, ◌∙◌}
use mathlib.Core.Bool.{Bool, true, false, cond}
use mathlib.Core.Logic.{◌↔◌}
use Prim.Native.Nat.{suc, ◌+◌}
use native.Mathlib.Omega.{arith}
use borrow.Author.Tests.{leb-true}
use lib.IntN.{ℤ, pos, negsuc, neg_ℤ, nat_abs, ◌+ℤ◌, ◌-ℤ◌, +ℤ_comm, +ℤ_invr, neg_ℤ-+ℤ, neg_ℤ-neg_ℤ}
use lib.Signed.{lt_z, le_z}
use Rattle.exact.specs.Sign.{eq_z, within, held_to}
use Rattle.exact.specs.Meaning.{IsHeld}
use Rattle.exact.proofs.Z.{never, both, lt_le, le_refl, le_trans, within_is, within_not, eq_z_true, differ_some, abs_diff, abs_subℕ, abs_neg}

-- ---- distances

apart_comm : (x y : ℤ) → nat_abs (x -ℤ y) ≡ nat_abs (y -ℤ x)
apart_comm x y =
    sym (abs_neg (x -ℤ y)) ∙ ap nat_abs (neg_ℤ-+ℤ x (neg_ℤ y) ∙ ap (λ (z : ℤ). neg_ℤ x +ℤ z) (neg_ℤ-neg_ℤ y) ∙ +ℤ_comm (neg_ℤ x) y)

-- from a to c by way of b, which lies between them
by_way : (a b c : ℤ) → le_z a b ≡ true → le_z b c ≡ true → nat_abs (c -ℤ a) ≡ nat_abs (c -ℤ b) + nat_abs (b -ℤ a)
by_way (pos a) (pos b) (pos c) e f = omega (arith, leb-true a b e, leb-true b c f, abs_diff c a, abs_diff c b, abs_diff b a)
by_way (pos a) (pos b) (negsuc c) e f = never f
by_way (pos a) (negsuc b) c e f = never e
by_way (negsuc a) (pos b) (pos c) e f = omega (arith, leb-true b c f, abs_diff c b)
by_way (negsuc a) (pos b) (negsuc c) e f = never f
by_way (negsuc a) (negsuc b) (pos c) e f = omega (arith, leb-true b a e, abs_subℕ (suc a) (suc b))
by_way (negsuc a) (negsuc b) (negsuc c) e f =
    omega (arith, leb-true b a e, leb-true c b f, abs_subℕ (suc a) (suc c), abs_subℕ (suc b) (suc c), abs_subℕ (suc a) (suc b))

-- no distance at all
none_apart : (a b : ℤ) → nat_abs (b -ℤ a) ≡ 0 → a ≡ b
none_apart a b h = go (eq_z a b) refl
  where
    go : (t : Bool) → eq_z a b ≡ t → a ≡ b
    go true e = eq_z_true a b e
    go false e = absurd (omega (arith, differ_some a b e))

-- ---- held

module _ (lo hi : ℤ) where
  -- the limits themselves lie within
  low_inside : le_z lo hi ≡ true → within lo hi lo ≡ true
  low_inside o = rw (le_refl lo, o)

  high_inside : le_z lo hi ≡ true → within lo hi hi ≡ true
  high_inside o = rw (le_refl hi, o)

  -- a number that lies within is held as it is
  pub held_same : (z : ℤ) → within lo hi z ≡ true → held_to lo hi z ≡ z
  held_same z e = let p = within_not lo hi z e in rw (p.0, p.1)

  -- the end that z lies beyond is the nearest, and any that is as near is that end
  from_low : (z y : ℤ) → lt_z z lo ≡ true → le_z lo y ≡ true → nat_abs (y -ℤ z) ≡ nat_abs (y -ℤ lo) + nat_abs (lo -ℤ z)
  from_low z y b k = by_way z lo y (lt_le z lo b) k

  from_high : (z y : ℤ) → lt_z hi z ≡ true → le_z y hi ≡ true → nat_abs (y -ℤ z) ≡ nat_abs (hi -ℤ y) + nat_abs (hi -ℤ z)
  from_high z y b k =
      apart_comm y z ∙ by_way y hi z k (lt_le hi z b) ∙ omega (arith, apart_comm z hi)

  held_by : (z : ℤ) (b a : Bool) → le_z lo hi ≡ true → lt_z z lo ≡ b → lt_z hi z ≡ a → IsHeld lo hi z (cond b lo (cond a hi z))
  held_by z true a o e f =
      record {
        inside = low_inside o;
        nearest = λ y w. omega (arith, from_low z y e (both (le_z lo y) (le_z y hi) w).0);
      }
  held_by z false true o e f =
      record {
        inside = high_inside o;
        nearest = λ y w. omega (arith, from_high z y f (both (le_z lo y) (le_z y hi) w).1);
      }
  held_by z false false o e f =
      record { inside = within_is lo hi z f e; nearest = λ y w. omega (arith, ap nat_abs (+ℤ_invr z)) }

  pub held_is : (z : ℤ) → le_z lo hi ≡ true → IsHeld lo hi z (held_to lo hi z)
  held_is z o = held_by z (lt_z z lo) (lt_z hi z) o refl refl

  only_by : (z h : ℤ) (b a : Bool) → lt_z z lo ≡ b → lt_z hi z ≡ a → IsHeld lo hi z h → h ≡ cond b lo (cond a hi z)
  only_by z h true a e f i =
      let p = both (le_z lo h) (le_z h hi) i.inside in
      sym (none_apart lo h (omega (arith, from_low z h e p.0, i.nearest lo (low_inside (le_trans lo h hi p.0 p.1)))))
  only_by z h false true e f i =
      let p = both (le_z lo h) (le_z h hi) i.inside in
      none_apart h hi (omega (arith, from_high z h f p.1, i.nearest hi (high_inside (le_trans lo h hi p.0 p.1))))
  only_by z h false false e f i =
      sym (none_apart z h (omega (arith, i.nearest z (within_is lo hi z f e), ap nat_abs (+ℤ_invr z))))

  pub held_only : (z h : ℤ) → IsHeld lo hi z h → h ≡ held_to lo hi z
  held_only z h i = only_by z h (lt_z z lo) (lt_z hi z) refl refl i

  -- it is the number itself exactly where that lies within
  pub held_itself : (z : ℤ) → le_z lo hi ≡ true → (held_to lo hi z ≡ z) ↔ (within lo hi z ≡ true)
  held_itself z o = (λ e. subst (λ (h : ℤ). within lo hi h ≡ true) e (held_is z o).inside, held_same z)
