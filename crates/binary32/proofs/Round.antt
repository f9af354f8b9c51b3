-- A fraction rounded to a binary32, and its bits: the quotient to 24 binary digits. Assumes nothing.
use mathlib.Core.Path.{◌≡◌, refl, sym, ap, ◌∙◌, subst}
use mathlib.Core.Bool.{Bool}
use mathlib.Core.Logic.{◌⊎◌, inl, inr}
use Prim.Native.Nat.{ℕ, suc, ◌+◌, ◌-◌, ◌*◌, ◌/◌, ◌%◌, ◌^◌, ◌≤◌, ◌<◌, compare}
use native.Mathlib.Nat.{le_trans, le_of_eq, le_of_suc-le-suc, lt_of_lt_of_le, lt_of_le_of_lt, lt_of_not-le, not-le_of_lt, mul-one, add_assoc, mul_assoc, mul_comm, mul_left_comm, mul-pos, mul-div_cancel, mul-le-mul, mul-le-mul_left, mul-le-mul_right, le_of_mul-le-mul_right, lt_of_mul-lt-mul_right, le-div_iff_mul-le, div-lt_iff_lt-mul, eq-or-lt_of_le, pow-succ'}
use native.Mathlib.Omega.{arith}
use lib.Dec.{lit≤, lit<}
use lib.Pow.{pow-add, pow_pos, pow_mono, shl_lt, shl-shr}
use lib.Ieee.{Float, nan, inf, fin, binary32, up, down, size, round, units, to_bits}
use lib.Ieee.Digits.{size-lt, size-le, size_reaches}
use lib.Ieee.Fits.{nearest-le, round_is, down_pos}
use lib.Ieee.Exact.{HasValue, units_val}
use lib.Ieee.Nearest.{closest, closest_same, nearest-ge}
use lib.Ieee.Scale.{normal_of_fraction}
use Rattle.binary32.specs.Meaning.{apart, IsQuotient, sign_bit}
use Rattle.binary32.proofs.Nearest.{Near, closest_near}

-- ---- the bits of m × 2^k units of 2^-149, where m has 24 digits

-- a number between two neighbouring powers of two has so many digits
size_is : (n j : ℕ) → 2 ^ j ≤ n → n < 2 ^ suc j → size n ≡ suc j
size_is n j l h =
    let a = size-le n (suc j) h in
    let b : j < size n = lt_of_not-le (λ (s : size n ≤ j). not-le_of_lt (lt_of_lt_of_le (size-lt n) (pow_mono s)) l) in
    omega arith

-- what is written of a magnitude of n units
abbrev packed : ℕ → ℕ
packed n = (size n - 24) * 2 ^ 23 + n / 2 ^ (size n - 24)

packed_is : (m k : ℕ) → 2 ^ 23 ≤ m → m < 2 ^ 24 → packed (m * 2 ^ k) ≡ k * 2 ^ 23 + m
packed_is m k l h =
    let lo : 2 ^ (23 + k) ≤ m * 2 ^ k = subst (λ (x : ℕ). x ≤ m * 2 ^ k) (sym (pow-add 2 23 k)) (mul-le-mul_right (2 ^ k) l) in
    let hi : m * 2 ^ k < 2 ^ suc (23 + k) = subst (λ (x : ℕ). m * 2 ^ k < 2 ^ x) (omega arith) (shl_lt 24 k h) in
    let e : size (m * 2 ^ k) - 24 ≡ k = omega (arith, size_is (m * 2 ^ k) (23 + k) lo hi) in
    ap (λ (x : ℕ). x * 2 ^ 23 + m * 2 ^ k / 2 ^ x) e ∙ ap (λ (x : ℕ). k * 2 ^ 23 + x) (shl-shr m k)

written : (x : Float) (s : Bool) (n : ℕ) → HasValue x s n (2 ^ 149) → to_bits binary32 x ≡ sign_bit s + packed n
unfolding to_bits
written nan s n v = absurd v
written (inf t) s n v = absurd v
written (fin t m e) s n v =
    let i : m * up e * 2 ^ 149 / down e ≡ n = ap (λ (x : ℕ). x / down e) v.1 ∙ mul-div_cancel n (down_pos e) in
    let sized : ℕ → ℕ = λ (b : ℕ). (size b - 24) * 2 ^ 23 in
    ap (λ (b : ℕ). sign_bit t + sized b + b / 2 ^ (size b - 24)) i
    ∙ ap (λ (b : Bool). sign_bit b + sized n + n / 2 ^ (size n - 24)) v.0
    ∙ add_assoc (sign_bit s) (sized n) (n / 2 ^ (size n - 24))

-- ---- what is claimed, of m units with k dropped

-- the scale tells how many were dropped
scale_back : (k : ℕ) → k ≤ 149 → 149 - (149 - k) ≡ k
scale_back k h = omega arith

one_less : (k : ℕ) → k ≤ 142 → 149 - k ≡ suc (149 - suc k)
one_less k h = omega arith

in_scale : (k : ℕ) → k ≤ 142 → suc k ≤ 149
in_scale k h = omega arith

-- the quotient and its bits, whichever the sign
pub record Rounded (n d : ℕ) : Type 0 where
  pub size : ℕ
  pub is : IsQuotient n d size
  pub bits : (s : Bool) → to_bits binary32 (round binary32 s n d) ≡ sign_bit s + size

-- of m, with k dropped
made : (n d m k : ℕ) → k ≤ 149 → 2 ^ 23 ≤ m → m < 2 ^ 24 → Near (n * 2 ^ (149 - k)) d m → (m ≡ 2 ^ 23 → 4 * (m * d - n * 2 ^ (149 - k)) ≤ d)
    → ((s : Bool) → HasValue (round binary32 s n d) s (m * 2 ^ k) (2 ^ 149)) → Rounded n d
made n d m k kl l h r f v =
    record {
      size = k * 2 ^ 23 + m;
      is =
          record {
            m = m;
            scale = 149 - k;
            leading = l;
            digits = h;
            deep = omega arith;
            pattern = ap (λ (x : ℕ). x * 2 ^ 23 + m) (sym (scale_back k kl));
            near = omega (arith, r.near);
            even = λ e. omega (arith, r.even e);
            finer = λ e. omega (arith, f e);
          };
      bits = λ s. written (round binary32 s n d) s (m * 2 ^ k) (v s) ∙ ap (λ (x : ℕ). sign_bit s + x) (packed_is m k l h);
    }

-- twice as many units of half the size
carried : (k : ℕ) → 2 ^ 24 * 2 ^ k ≡ 2 ^ 23 * 2 ^ suc k
carried k = mul_assoc (2 ^ 23) 2 (2 ^ k) ∙ ap (λ (x : ℕ). 2 ^ 23 * x) (sym (pow-succ' 2 k))

halves : (n s : ℕ) → n * 2 ^ suc s ≡ 2 * (n * 2 ^ s)
halves n s = ap (λ (x : ℕ). n * x) (pow-succ' 2 s) ∙ mul_left_comm n 2 (2 ^ s)

-- a distance that is twice as long, from 2^24 units
halved : (d a b : ℕ) → b ≡ 2 * a → 2 * apart (2 ^ 24 * d) b ≤ d → 4 * apart (2 ^ 23 * d) a ≤ d
halved d a b e h = omega arith

-- and so 2^23 units of half the size are near, and not only by half a unit
topped : (d a b : ℕ) → b ≡ 2 * a → Near b d (2 ^ 24) → Near a d (2 ^ 23) × (4 * (2 ^ 23 * d - a) ≤ d)
topped d a b e r =
    let h = halved d a b e r.near in
    (record { near = omega arith; even = λ _. refl }, omega arith)

-- 2^23 units that do not lie above
not_above : (m d a : ℕ) → m ≡ 2 ^ 23 → 2 ^ 23 * d ≤ a → 4 * (m * d - a) ≤ d
not_above m d a e h = subst (λ (x : ℕ). 4 * (x * d - a) ≤ d) (sym e) (omega arith)

-- ---- a quotient of a small fraction, of which some units are dropped

-- counted by omega where no power of two is in reach
below_count : (c : ℕ) → 24 ≤ c → c - 24 + 23 < c
below_count c h = omega arith

to_count : (c : ℕ) → 24 ≤ c → c ≡ c - 24 + 24
to_count c h = omega arith

beyond : (k : ℕ) → 142 < k → 166 ≤ k + 23
beyond k h = omega arith

rest : (k : ℕ) → k ≤ 142 → 149 - k + k ≡ 149
rest k h = omega arith

module _ (n d : ℕ) (n1 : 1 ≤ n) (n2 : n ≤ 99999) (d1 : 1 ≤ d) (d2 : d ≤ 10000) where
  abbrev count : ℕ
  count = size (n * 2 ^ 149 / d)

  abbrev dropped : ℕ
  dropped = count - 24

  abbrev scale : ℕ
  scale = 149 - dropped

  all_digits : 24 ≤ count
  all_digits =
      let fits : 2 ^ 23 * 10000 ≤ 1 * 2 ^ 149 = lit≤ tt in
      normal_of_fraction binary32 n d d1 (le_trans (mul-le-mul_left (2 ^ 23) d2) (le_trans fits (mul-le-mul_right (2 ^ 149) n1)))

  least : 2 ^ (dropped + 23) * d ≤ n * 2 ^ 149
  least = (le-div_iff_mul-le d1).0 (size_reaches (n * 2 ^ 149 / d) (dropped + 23) (below_count count all_digits))

  most : n * 2 ^ 149 < 2 ^ (dropped + 24) * d
  most =
      (div-lt_iff_lt-mul d1).0
      (subst (λ (x : ℕ). n * 2 ^ 149 / d < 2 ^ x) (to_count count all_digits) (size-lt (n * 2 ^ 149 / d)))

  few : dropped ≤ 142
  few =
      let small : 99999 * 2 ^ 149 < 2 ^ 166 = lit< tt in
      le_of_suc-le-suc (lt_of_not-le
      (λ (h : 142 < dropped).
      not-le_of_lt (lt_of_le_of_lt (mul-le-mul_right (2 ^ 149) n2) small)
      (le_trans (pow_mono (beyond dropped h)) (le_trans (self_le (2 ^ (dropped + 23))) least))))
    where
      self_le : (x : ℕ) → x ≤ x * d
      self_le x = le_trans (le_of_eq (sym (mul-one x))) (mul-le-mul_left x d1)

  powers : 2 ^ 149 ≡ 2 ^ scale * 2 ^ dropped
  powers = ap (λ (x : ℕ). 2 ^ x) (sym (rest dropped few)) ∙ pow-add 2 scale dropped

  -- the fraction, scaled so that it has 24 digits before its point
  whole : n * 2 ^ 149 ≡ n * 2 ^ scale * 2 ^ dropped
  whole = ap (λ (x : ℕ). n * x) powers ∙ sym (mul_assoc n (2 ^ scale) (2 ^ dropped))

  turned : (j : ℕ) → 2 ^ (dropped + j) * d ≡ 2 ^ j * d * 2 ^ dropped
  turned j = ap (λ (x : ℕ). x * d) (pow-add 2 dropped j) ∙ simp (mul_assoc, mul_comm, mul_left_comm)

  least_scaled : 2 ^ 23 * d ≤ n * 2 ^ scale
  least_scaled = le_of_mul-le-mul_right (le_trans (le_of_eq (sym (turned 23))) (le_trans least (le_of_eq whole))) (pow_pos dropped)

  most_scaled : n * 2 ^ scale < 2 ^ 24 * d
  most_scaled =
      lt_of_mul-lt-mul_right (2 ^ dropped) (lt_of_le_of_lt (le_of_eq (sym whole)) (lt_of_lt_of_le most (le_of_eq (turned 24))))

  abbrev q : ℕ
  q = closest (n * 2 ^ scale) d

  q_least : 2 ^ 23 ≤ q
  q_least = le_trans ((le-div_iff_mul-le d1).1 least_scaled) (nearest-ge (n * 2 ^ scale / d) (compare (n * 2 ^ scale % d * 2) d))

  q_most : q ≤ 2 ^ 24
  q_most = le_trans (nearest-le (n * 2 ^ scale / d) (compare (n * 2 ^ scale % d * 2) d)) ((div-lt_iff_lt-mul d1).1 most_scaled)

  rounded : (s : Bool) → round binary32 s n d ≡ units binary32 s q dropped
  rounded s =
      round_is binary32 s n d
      ∙ ap (λ (x : ℕ). units binary32 s x dropped)
      (closest_same (n * 2 ^ 149) (d * 2 ^ dropped) (n * 2 ^ scale) d (mul-pos d1 (pow_pos dropped)) d1
      (ap (λ (x : ℕ). x * d) whole ∙ simp (mul_assoc, mul_comm, mul_left_comm)))

  valued : (s : Bool) → HasValue (round binary32 s n d) s (q * 2 ^ dropped) (2 ^ 149)
  valued s =
      subst (λ (x : Float). HasValue x s (q * 2 ^ dropped) (2 ^ 149)) (sym (rounded s))
      (units_val binary32 s q dropped (lt_of_le_of_lt (mul-le-mul q_most (pow_mono few)) (lit< tt)))

  near : Near (n * 2 ^ scale) d q
  near = closest_near (n * 2 ^ scale) d d1

  -- all digits, or one more where the rounding carried into it
  below : q < 2 ^ 24 → Rounded n d
  below l =
      made n d q dropped (le_of_suc-le-suc (lt_of_lt_of_le (in_scale dropped few) (lit≤ tt))) q_least l near
      (λ e. not_above q d (n * 2 ^ scale) e least_scaled) valued

  carries : q ≡ 2 ^ 24 → Rounded n d
  carries e =
      let twice : n * 2 ^ scale ≡ 2 * (n * 2 ^ (149 - suc dropped)) = ap (λ (x : ℕ). n * 2 ^ x) (one_less dropped few) ∙ halves n (149 - suc dropped) in
      let half = topped d (n * 2 ^ (149 - suc dropped)) (n * 2 ^ scale) twice (subst (Near (n * 2 ^ scale) d) e near) in
      made n d (2 ^ 23) (suc dropped) (in_scale dropped few) (lit≤ tt) (lit< tt) half.0 (λ _. half.1)
      (λ s. subst (λ (x : ℕ). HasValue (round binary32 s n d) s x (2 ^ 149)) (ap (λ (x : ℕ). x * 2 ^ dropped) e ∙ carried dropped) (valued s))

  pub quotient : Rounded n d
  quotient = go (eq-or-lt_of_le q_most)
    where
      go : (q ≡ 2 ^ 24) ⊎ (q < 2 ^ 24) → Rounded n d
      go (inl e) = carries e
      go (inr l) = below l
