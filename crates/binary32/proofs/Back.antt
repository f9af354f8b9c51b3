-- A quotient's bits tell what was divided: the nearest whole number to what they stand for, times the divisor, is it again. Assumes nothing.
use mathlib.Core.Path.{◌≡◌, sym, ap, ◌∙◌}
use mathlib.Core.Bool.{Bool, true, false}
use Prim.Native.Nat.{ℕ, ◌+◌, ◌-◌, ◌*◌, ◌^◌, ◌≤◌, ◌<◌}
use native.Mathlib.Nat.{le_of_suc-le-suc, lt_of_not-le, mul_comm, mul-le-mul_right}
use native.Mathlib.Omega.{arith}
use borrow.Author.Tests.{le-leb, lt-leb}
use lib.IntN.{ℤ, pos, neg_ℤ, nat_abs, ◌*ℤ◌, ◌-ℤ◌}
use lib.Pow.{pow_pos, pow_mono}
use Rattle.exact.specs.Exact.{nearest}
use Rattle.exact.specs.Meaning.{IsNearest}
use Rattle.exact.proofs.Meaning.{nearest_only}
use Rattle.exact.proofs.Z.{abs_diff, abs_neg_neg, mul_neg}
use Rattle.binary32.specs.Binary32.{with_sign, negative, field, significand, display_of}
use Rattle.binary32.specs.Meaning.{apart, IsQuotient, sign_bit}
use Rattle.binary32.proofs.Nearest.{near_is}
use Rattle.binary32.proofs.Value.{power_least, power_most}

-- how far a nearest quotient can lie from the fraction: of a small fraction, in units, with P for 2^scale
module _ (n d m P : ℕ) (n1 : 1 ≤ n) (n2 : n ≤ 99999) (d1 : 1 ≤ d) (d2 : d ≤ 10000) (l : 2 ^ 23 ≤ m) (h : m < 2 ^ 24) (near : 2 * apart (m * d) (n * P) ≤ d) where
  pub wide : d < P
  wide =
      let a : 2 ^ 23 * d ≤ m * d = mul-le-mul_right d l in
      let b : n * P ≤ 99999 * P = mul-le-mul_right P n2 in
      omega arith

  pub not_coarse : 64 < P
  not_coarse =
      let a : 2 ^ 23 * d ≤ m * d = mul-le-mul_right d l in
      let b : n * P ≤ 99999 * P = mul-le-mul_right P n2 in
      omega arith

  pub not_fine : P < 2 ^ 38
  not_fine =
      let a : m * d ≤ 2 ^ 24 * d = mul-le-mul_right d (le_of_suc-le-suc (omega arith)) in
      let b : 1 * P ≤ n * P = mul-le-mul_right P n1 in
      omega arith

-- the scales of a small fraction
from_coarse : (s : ℕ) → 64 < 2 ^ s → 7 ≤ s
from_coarse s h = lt_of_not-le (λ (g : s ≤ 6). omega (arith, pow_mono g))

from_fine : (s : ℕ) → 2 ^ s < 2 ^ 38 → s ≤ 37
from_fine s h = le_of_suc-le-suc (lt_of_not-le (λ (g : 38 ≤ s). omega (arith, pow_mono g)))

-- a distance is the same on either side of zero
distance : (p n x : ℕ) (neg : Bool) → nat_abs (pos p *ℤ with_sign neg n -ℤ with_sign neg x) ≡ apart (p * n) x
distance p n x false = abs_diff (p * n) x
distance p n x true =
    ap (λ (z : ℤ). nat_abs (z -ℤ neg_ℤ (pos x))) (mul_neg p (pos n)) ∙ abs_neg_neg (pos (p * n)) (pos x) ∙ abs_diff (p * n) x

near_again : (n x d P : ℕ) → d < P → 2 * apart x (n * P) ≤ d → (neg : Bool) → IsNearest (with_sign neg x) P (with_sign neg n)
near_again n x d P w h neg =
    let e : nat_abs (pos P *ℤ with_sign neg n -ℤ with_sign neg x) ≡ apart (n * P) x =
    distance P n x neg ∙ ap (λ (y : ℕ). apart y x) (mul_comm P n) in
    record { near = omega arith; away = λ t. absurd (omega arith) }

module _ (n d b : ℕ) (i : IsQuotient n d b) (n1 : 1 ≤ n) (n2 : n ≤ 99999) (d1 : 1 ≤ d) (d2 : d ≤ 10000) where
  abbrev s : ℕ
  s = i.scale

  pub scale_least : 7 ≤ s
  scale_least = from_coarse s (not_coarse n d i.m (2 ^ s) n1 n2 d1 d2 i.leading i.digits (near_is i).near)

  pub scale_most : s ≤ 37
  scale_most = from_fine s (not_fine n d i.m (2 ^ s) n1 n2 d1 d2 i.leading i.digits (near_is i).near)

  pub size_below : b < 2 ^ 31
  size_below = omega (arith, i.pattern, i.digits)

  pub signed_field : (neg : Bool) → field (sign_bit neg + b) ≡ 150 - s
  signed_field true = omega (arith, i.pattern, i.digits, i.leading, scale_most)
  signed_field false = omega (arith, i.pattern, i.digits, i.leading, scale_most)

  signed_significand : (neg : Bool) → significand (sign_bit neg + b) ≡ i.m
  signed_significand true = omega (arith, i.pattern, i.digits, i.leading)
  signed_significand false = omega (arith, i.pattern, i.digits, i.leading)

  signed_negative : (neg : Bool) → negative (sign_bit neg + b) ≡ neg
  signed_negative true = le-leb (2 ^ 31) (2 ^ 31 + b) (omega arith)
  signed_negative false = lt-leb (2 ^ 31) (0 + b) (omega (arith, size_below))

  tells : (neg : Bool) → nearest (with_sign neg (i.m * d)) (2 ^ s) ≡ with_sign neg n
  tells neg =
      sym (nearest_only _ (2 ^ s) (with_sign neg n) (pow_pos s)
      (near_again n (i.m * d) d (2 ^ s) (wide n d i.m (2 ^ s) n1 n2 d1 d2 i.leading i.digits (near_is i).near) (near_is i).near neg))

-- the display of a quotient's bits, with its sign
pub told : (n places b : ℕ) → IsQuotient n (10 ^ places) b → 1 ≤ n → n ≤ 99999 → places ≤ 4 → (neg : Bool)
    → display_of places (sign_bit neg + b) ≡ with_sign neg n
unfolding display_of
told n places b i n1 n2 p neg =
    let d1 = power_least places in
    let d2 = power_most places p in
    let x = sign_bit neg + b in
    let scale : 150 - field x ≡ i.scale =
    omega (arith, signed_field n (10 ^ places) b i n1 n2 d1 d2 neg, scale_most n (10 ^ places) b i n1 n2 d1 d2) in
    ap (λ (t : Bool). nearest (with_sign t (significand x * 10 ^ places)) (2 ^ (150 - field x))) (signed_negative n (10 ^ places) b i n1 n2 d1 d2 neg)
    ∙ ap (λ (m : ℕ). nearest (with_sign neg (m * 10 ^ places)) (2 ^ (150 - field x))) (signed_significand n (10 ^ places) b i n1 n2 d1 d2 neg)
    ∙ ap (λ (k : ℕ). nearest (with_sign neg (i.m * 10 ^ places)) (2 ^ k)) scale
    ∙ tells n (10 ^ places) b i n1 n2 d1 d2 neg
