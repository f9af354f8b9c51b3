-- The bits of the alarms that are on. Assumes nothing.
use borrow.Author.Tests.{leb-true}
use native.Mathlib.Omega.{arith}
use mathlib.Core.Path.{◌≡◌, refl, sym, ◌∙◌}
use mathlib.Core.Bool.{Bool, true, false, cond, not, ◌&&◌}
use mathlib.Core.List.{List, [], ◌∷◌}
use Prim.Native.Nat.{ℕ, zero, suc, ◌+◌, ◌*◌, ◌/◌, ◌%◌, ◌<◌}
use lib.Dec.{leb, eqb}
use lib.IntN.{ℤ}
use lib.ListN.{set}
use Rattle.exact.specs.Sign.{eq_z}
use Rattle.exact.proofs.Z.{both, either, never}
use Rattle.alarm.specs.Alarm.{written}
use Rattle.alarm.specs.declared.Alarm.{Alarm}
use Rattle.alarms.specs.Alarms.{alarm_at, written_at, bit, on_bits}
use Rattle.alarms.specs.Meaning.{IsOnBits}
use Rattle.alarms.proofs.Four.{each_of_four}

-- ---- a test of four bools that holds of each of the sixteen holds of all

both_ways : (f : Bool → Bool) → (f true && f false) ≡ true → (t : Bool) → f t ≡ true
both_ways f e true = (both (f true) (f false) e).0
both_ways f e false = (both (f true) (f false) e).1

abbrev twice : (Bool → Bool) → Bool
twice f = f true && f false

abbrev equal : Bool → Bool → Bool
equal t u = cond t u (not u)

equal_is : (t u : Bool) → equal t u ≡ true → t ≡ u
equal_is true true e = refl
equal_is true false e = never e
equal_is false true e = never e
equal_is false false e = refl

abbrev sum : Bool → Bool → Bool → Bool → ℕ
sum p q r s = cond p 1 0 + cond q 2 0 + cond r 4 0 + cond s 8 0

-- the bits of a sum of weights are the tests
abbrev bits : Bool → Bool → Bool → Bool → Bool
bits p q r s =
    let n = sum p q r s in
    equal (bit n 0) p && equal (bit n 1) q && equal (bit n 2) r && equal (bit n 3) s && leb n 15

sixteen : twice (λ p. twice (λ q. twice (λ r. twice (λ s. bits p q r s)))) ≡ true
sixteen = refl

each : (p q r s : Bool) → bits p q r s ≡ true
each p q r s =
    both_ways (λ s. bits p q r s)
    (both_ways (λ r. twice (λ s. bits p q r s))
    (both_ways (λ q. twice (λ r. twice (λ s. bits p q r s)))
    (both_ways (λ p. twice (λ q. twice (λ r. twice (λ s. bits p q r s)))) sixteen p) q) r) s

-- ---- the bits

-- they are the alarms that are on
pub on_bits_is : (l : List Alarm) → IsOnBits l (on_bits l)
unfolding on_bits
on_bits_is l =
    let p = (alarm_at l 0).on in
    let q = (alarm_at l 1).on in
    let r = (alarm_at l 2).on in
    let s = (alarm_at l 3).on in
    let n = sum p q r s in
    let small = both (equal (bit n 0) p && equal (bit n 1) q && equal (bit n 2) r && equal (bit n 3) s) (leb n 15) (each p q r s) in
    let fourth = both (equal (bit n 0) p && equal (bit n 1) q && equal (bit n 2) r) (equal (bit n 3) s) small.0 in
    let third = both (equal (bit n 0) p && equal (bit n 1) q) (equal (bit n 2) r) fourth.0 in
    let second = both (equal (bit n 0) p) (equal (bit n 1) q) third.0 in
    record {
      bits = each_of_four (λ (k : ℕ). bit n k ≡ (alarm_at l k).on) (equal_is (bit n 0) p second.0) (equal_is (bit n 1) q second.1) (equal_is (bit n 2) r third.1) (equal_is (bit n 3) s fourth.1);
      small = omega (arith, leb-true n 15 small.1);
    }

-- two numbers below 2 that are 1 together are equal
same_bit : (m n : ℕ) → m < 2 → n < 2 → eqb m 1 ≡ eqb n 1 → m ≡ n
same_bit zero zero h k e = refl
same_bit zero (suc zero) h k e = never e
same_bit (suc zero) zero h k e = never (sym e)
same_bit (suc zero) (suc zero) h k e = refl
same_bit (suc (suc m)) n h k e = absurd (omega arith)
same_bit zero (suc (suc n)) h k e = absurd (omega arith)
same_bit (suc zero) (suc (suc n)) h k e = absurd (omega arith)

-- a number below 16 is the sum of its four bits
in_bits : (n : ℕ) → n < 16 → n ≡ n / 1 % 2 + 2 * (n / 2 % 2) + 4 * (n / 4 % 2) + 8 * (n / 8 % 2)
in_bits n h =
    let quarter : n / 4 ≡ n / 2 / 2 = omega arith in
    let eighth : n / 8 ≡ n / 4 / 2 = omega arith in
    let few : n / 8 < 2 = omega arith in
    let last : n / 8 % 2 ≡ n / 8 = below_two (n / 8) few in
    omega arith
  where
    below_two : (m : ℕ) → m < 2 → m % 2 ≡ m
    below_two m h = omega arith

-- and no other number has them as its bits
pub on_bits_only : (l : List Alarm) (n : ℕ) → IsOnBits l n → n ≡ on_bits l
on_bits_only l n u =
    let w = on_bits_is l in
    let m = on_bits l in
    let same : (k : ℕ) → k < 4 → bit n k ≡ bit m k = λ k h. u.bits k h ∙ sym (w.bits k h) in
    let first : n / 1 % 2 ≡ m / 1 % 2 = same_bit (n / 1 % 2) (m / 1 % 2) (omega arith) (omega arith) (same 0 (omega arith)) in
    let second : n / 2 % 2 ≡ m / 2 % 2 = same_bit (n / 2 % 2) (m / 2 % 2) (omega arith) (omega arith) (same 1 (omega arith)) in
    let third : n / 4 % 2 ≡ m / 4 % 2 = same_bit (n / 4 % 2) (m / 4 % 2) (omega arith) (omega arith) (same 2 (omega arith)) in
    let fourth : n / 8 % 2 ≡ m / 8 % 2 = same_bit (n / 8 % 2) (m / 8 % 2) (omega arith) (omega arith) (same 3 (omega arith)) in
    in_bits n u.small ∙ rw (first, second, third, fourth) (sym (in_bits m w.small))

-- ---- a setpoint that is written leaves them

-- an alarm put in the place of one with the same state leaves every state
set_on : (l : List Alarm) (k : ℕ) (a : Alarm) → a.on ≡ (alarm_at l k).on → (j : ℕ) → (alarm_at (set l k a) j).on ≡ (alarm_at l j).on
set_on [] k a e j = refl
set_on (x ∷ l) zero a e zero = e
set_on (x ∷ l) zero a e (suc j) = refl
set_on (x ∷ l) (suc k) a e zero = refl
set_on (x ∷ l) (suc k) a e (suc j) = set_on l k a e j

written_on : (a : Alarm) (z : ℤ) → (written a z).on ≡ a.on
unfolding written
written_on a z = either (λ (x : Alarm). x.on ≡ a.on) (eq_z z a.setpoint) refl refl

pub written_bits : (l : List Alarm) (k : ℕ) (z : ℤ) → on_bits (written_at l k z) ≡ on_bits l
unfolding on_bits
written_bits l k z =
    let same = set_on l k (written (alarm_at l k) z) (written_on (alarm_at l k) z) in
    rw (same 0, same 1, same 2, same 3)
