-- What the definitions are to mean, said without computing anything. In those of a fraction the distance of r from n / d is taken d
-- times over, so that it is a whole number: |d × r - n|.
use Rattle.std.specs.Prelude.{◌≡◌, true, false, ℕ, ◌*◌, ◌≤◌, ◌<◌, ℤ, pos, nat_abs, ◌-ℤ◌, ◌*ℤ◌}
use Rattle.exact.specs.Sign.{is_neg, within}

-- r is the nearest whole number to n / d: at most half a unit away, and at a half away from zero
pub record IsNearest (n : ℤ) (d : ℕ) (r : ℤ) : Type 0 where
  pub near : 2 * nat_abs (pos d *ℤ r -ℤ n) ≤ d
  pub away : 2 * nat_abs (pos d *ℤ r -ℤ n) ≡ d → nat_abs n ≤ d * nat_abs r

-- r is the nearest multiple of a step to v: so many steps, at most half a step away, and at a half away from zero
pub record IsToStep (v : ℤ) (step : ℕ) (r : ℤ) : Type 0 where
  pub times : ℤ
  pub multiple : r ≡ pos step *ℤ times
  pub near : 2 * nat_abs (r -ℤ v) ≤ step
  pub away : 2 * nat_abs (r -ℤ v) ≡ step → nat_abs v ≤ nat_abs r

-- r is n / d cut towards zero: not farther from zero than n / d, and less than a unit away
pub record IsCut (n : ℤ) (d : ℕ) (r : ℤ) : Type 0 where
  pub towards : d * nat_abs r ≤ nat_abs n
  pub near : nat_abs (pos d *ℤ r -ℤ n) < d

-- r is the floor of n / d: not above it, and less than a unit away
pub record IsFloor (n : ℤ) (d : ℕ) (r : ℤ) : Type 0 where
  pub below : is_neg (n -ℤ pos d *ℤ r) ≡ false
  pub near : nat_abs (n -ℤ pos d *ℤ r) < d

-- h is z held to lo to hi: it lies there, and no number that lies there is nearer to z
pub record IsHeld (lo hi z h : ℤ) : Type 0 where
  pub inside : within lo hi h ≡ true
  pub nearest : (y : ℤ) → within lo hi y ≡ true → nat_abs (h -ℤ z) ≤ nat_abs (y -ℤ z)
