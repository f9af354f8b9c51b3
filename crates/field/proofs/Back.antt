-- What a data field shows is read back from its 12 bytes: so two different values never print alike, and no number prints as a mark. Assumes nothing.
use mathlib.Core.Path.{◌≡◌, refl, sym, ap, ◌∙◌}
use mathlib.Core.Bool.{Bool, true, false, cond, ◌||◌}
use mathlib.Core.List.{List, [], ◌∷◌, ◌++◌}
use Prim.Native.Nat.{ℕ, zero, suc, ◌+◌, ◌-◌, ◌*◌, ◌/◌, ◌%◌, ◌^◌, ◌<◌}
use native.Mathlib.Nat.{pow-succ', mul_assoc, div-add-mod, mod-lt}
use native.Mathlib.Omega.{arith}
use borrow.Author.Tests.{ltb-true, ne_eqb}
use lib.Dec.{eqb, ltb}
use lib.IntN.{ℤ, pos, negsuc, neg_ℤ, nat_abs}
use lib.ListN.{length, replicate}
use Rattle.exact.specs.Sign.{is_neg}
use Rattle.exact.proofs.Z.{never}
use Rattle.reading.specs.declared.Reading.{Reading}
use Rattle.reading.specs.declared.Reading.TheVariants.{Nothing, Under, Number, Over}
use Rattle.register.proofs.Ranges.{in_range as within_is}
use Rattle.field.specs.Field.{digit, digits, decimal, whole, fraction, sign, number, text, field, Showable}
use Rattle.field.specs.Back.{holds, is_digit, has_digit, onward, value, read_back, behind_point}
use Rattle.field.proofs.Digits.{digits_length, tens_below}
use Rattle.field.proofs.Number.{power_some, whole_below}

-- ---- one text behind another

or_assoc : (a b c : Bool) → ((a || b) || c) ≡ (a || (b || c))
or_assoc true b c = refl
or_assoc false b c = refl

or_true : (a : Bool) → (a || true) ≡ true
or_true true = refl
or_true false = refl

or_false : (a : Bool) → (a || false) ≡ a
or_false true = refl
or_false false = refl

holds_append : (b : ℕ) (s t : List ℕ) → holds b (s ++ t) ≡ (holds b s || holds b t)
unfolding holds
holds_append b [] t = refl
holds_append b (x ∷ s) t = ap (λ (r : Bool). eqb b x || r) (holds_append b s t) ∙ sym (or_assoc (eqb b x) (holds b s) (holds b t))

digit_append : (s t : List ℕ) → has_digit (s ++ t) ≡ (has_digit s || has_digit t)
unfolding has_digit
digit_append [] t = refl
digit_append (x ∷ s) t = ap (λ (r : Bool). is_digit x || r) (digit_append s t) ∙ sym (or_assoc (is_digit x) (has_digit s) (has_digit t))

onward_append : (n : ℕ) (s t : List ℕ) → onward n (s ++ t) ≡ onward (onward n s) t
unfolding onward
onward_append n [] t = refl
onward_append n (x ∷ s) t = onward_append (cond (is_digit x) (10 * n + (x - 48)) n) s t

-- ---- spaces and the sign: no digit, and a minus where the number is below zero

blank_free : (b k : ℕ) → eqb b 32 ≡ false → holds b (replicate k 32) ≡ false
unfolding holds
blank_free b zero e = refl
blank_free b (suc k) e = rw e (blank_free b k e)

blank_onward : (k n : ℕ) → onward n (replicate k 32) ≡ n
unfolding onward
blank_onward zero n = refl
blank_onward (suc k) n = blank_onward k n

sign_minus : (z : ℤ) → holds 45 (sign z) ≡ is_neg z
unfolding sign holds
sign_minus (pos n) = refl
sign_minus (negsuc n) = refl

sign_point : (z : ℤ) → holds 46 (sign z) ≡ false
unfolding sign holds
sign_point (pos n) = refl
sign_point (negsuc n) = refl

sign_onward : (z : ℤ) → onward 0 (sign z) ≡ 0
unfolding sign onward
sign_onward (pos n) = refl
sign_onward (negsuc n) = refl

-- ---- digits: no byte below them, as a minus or a point

pub is_digit_lem : (n : ℕ) → is_digit (digit n) ≡ true
is_digit_lem n = within_is 48 57 (digit n) (omega arith) (omega arith)

last_onward : (m n : ℕ) → onward m (digit n ∷ []) ≡ 10 * m + n % 10
unfolding onward
last_onward m n = rw (is_digit_lem n) (omega arith)

last_free : (b n : ℕ) → b < 48 → holds b (digit n ∷ []) ≡ false
unfolding holds
last_free b n h = rw (ne_eqb b (digit n) (λ e. omega arith))

last_digit : (n : ℕ) → has_digit (digit n ∷ []) ≡ true
unfolding has_digit
last_digit n = rw (is_digit_lem n)

digits_free : (b k n : ℕ) → b < 48 → holds b (digits k n) ≡ false
unfolding digits
digits_free b zero n h = unfold holds in refl
digits_free b (suc k) n h = holds_append b (digits k (n / 10)) (digit n ∷ []) ∙ rw (digits_free b k (n / 10) h, last_free b n h)

digits_onward : (k m n : ℕ) → n < 10 ^ k → onward m (digits k n) ≡ 10 ^ k * m + n
unfolding digits
digits_onward zero m n h = unfold onward in omega arith
digits_onward (suc k) m n h =
    let e = pow-succ' 10 k in
    onward_append m (digits k (n / 10)) (digit n ∷ [])
    ∙ last_onward (onward m (digits k (n / 10))) n
    ∙ rw (digits_onward k m (n / 10) (tens_below k n h), e, mul_assoc 10 (10 ^ k) m) (omega arith)

decimal_free : (b k n : ℕ) → b < 48 → holds b (decimal k n) ≡ false
unfolding decimal
decimal_free b zero n h = unfold holds in refl
decimal_free b (suc k) n h =
    holds_append b (cond (ltb n 10) [] (decimal k (n / 10))) (digit n ∷ [])
    ∙ rw (last_free b n h, or_false (holds b (cond (ltb n 10) [] (decimal k (n / 10))))) (by (ltb n 10) (decimal_free b k (n / 10) h))
  where
    by : (t : Bool) → holds b (decimal k (n / 10)) ≡ false → holds b (cond t [] (decimal k (n / 10))) ≡ false
    by true e = unfold holds in refl
    by false e = e

decimal_onward : (k n : ℕ) → n < 10 ^ k → onward 0 (decimal k n) ≡ n
unfolding decimal
decimal_onward zero n h = unfold onward in omega arith
decimal_onward (suc k) n h =
    onward_append 0 (cond (ltb n 10) [] (decimal k (n / 10))) (digit n ∷ [])
    ∙ last_onward (onward 0 (cond (ltb n 10) [] (decimal k (n / 10)))) n
    ∙ by (ltb n 10) refl (decimal_onward k (n / 10) (tens_below k n h))
  where
    by : (t : Bool) → ltb n 10 ≡ t → onward 0 (decimal k (n / 10)) ≡ n / 10 → 10 * onward 0 (cond t [] (decimal k (n / 10))) + n % 10 ≡ n
    by true e i = unfold onward in omega (arith, ltb-true n 10 e)
    by false e i = omega arith

whole_digit : (n : ℕ) → has_digit (whole n) ≡ true
unfolding decimal
whole_digit n =
    digit_append (cond (ltb n 10) [] (decimal 8 (n / 10))) (digit n ∷ [])
    ∙ rw (last_digit n, or_true (has_digit (cond (ltb n 10) [] (decimal 8 (n / 10)))))

fraction_minus : (k n : ℕ) → holds 45 (fraction k n) ≡ false
unfolding fraction holds
fraction_minus zero n = refl
fraction_minus (suc k) n = digits_free 45 (suc k) n (omega arith)

fraction_onward : (k m n : ℕ) → n < 10 ^ k → onward m (fraction k n) ≡ 10 ^ k * m + n
unfolding fraction onward
fraction_onward zero m n h = omega arith
fraction_onward (suc k) m n h = digits_onward (suc k) m n h

-- ---- a number

number_minus : (places : ℕ) (z : ℤ) → holds 45 (number places z) ≡ is_neg z
unfolding number
number_minus places z =
    let w = whole (nat_abs z / 10 ^ places) in
    let f = fraction places (nat_abs z % 10 ^ places) in
    holds_append 45 (sign z ++ w) f
    ∙ rw (holds_append 45 (sign z) w, sign_minus z, decimal_free 45 9 (nat_abs z / 10 ^ places) (omega arith), fraction_minus places (nat_abs z % 10 ^ places), or_false (is_neg z), or_false (is_neg z))

number_digit : (places : ℕ) (z : ℤ) → has_digit (number places z) ≡ true
unfolding number
number_digit places z =
    let w = whole (nat_abs z / 10 ^ places) in
    let f = fraction places (nat_abs z % 10 ^ places) in
    digit_append (sign z ++ w) f ∙ rw (digit_append (sign z) w, whole_digit (nat_abs z / 10 ^ places), or_true (has_digit (sign z)))

pub number_onward : (places : ℕ) (z : ℤ) → nat_abs z < 10 ^ 9 → onward 0 (number places z) ≡ nat_abs z
unfolding number
number_onward places z h =
    let m = nat_abs z / 10 ^ places in
    let r = nat_abs z % 10 ^ places in
    onward_append 0 (sign z ++ whole m) (fraction places r)
    ∙ rw (onward_append 0 (sign z) (whole m), sign_onward z, decimal_onward 9 m (whole_below places (nat_abs z) h))
    (fraction_onward places m r (mod-lt (nat_abs z) (power_some places)) ∙ div-add-mod (nat_abs z) (10 ^ places))

signed : (z : ℤ) → cond (is_neg z) (neg_ℤ (pos (nat_abs z))) (pos (nat_abs z)) ≡ z
signed (pos n) = refl
signed (negsuc n) = refl

-- spaces in front change nothing
blank_value : (k : ℕ) (t : List ℕ) → value (replicate k 32 ++ t) ≡ value t
unfolding value
blank_value k t =
    rw (holds_append 45 (replicate k 32) t, blank_free 45 k refl, onward_append 0 (replicate k 32) t, blank_onward k 0)

number_value : (places : ℕ) (z : ℤ) → nat_abs z < 10 ^ 9 → value (number places z) ≡ z
unfolding value
number_value places z h = rw (number_minus places z, number_onward places z h) (signed z)

-- what is shown is read back
pub read_back_lem : (places : ℕ) (shown : Reading) → Showable places shown → read_back (field places shown) ≡ shown
unfolding read_back field text
read_back_lem places Nothing s = unfold has_digit holds in refl
read_back_lem places Under s = unfold has_digit holds in refl
read_back_lem places (Number z) s =
    let k = 12 - length (number places z) in
    rw (digit_append (replicate k 32) (number places z), number_digit places z, or_true (has_digit (replicate k 32)), blank_value k (number places z), number_value places z s.short)
read_back_lem places Over s = unfold has_digit holds in refl

-- fields that are alike show the same, whatever their places
pub alike : (p q : ℕ) (a b : Reading) → Showable p a → Showable q b → field p a ≡ field q b → a ≡ b
alike p q a b s t e = sym (read_back_lem p a s) ∙ ap read_back e ∙ read_back_lem q b t

-- two different numbers with the same places never print alike
pub numbers_differ : (places : ℕ) (y z : ℤ) → Showable places (Number y) → Showable places (Number z) → field places (Number y) ≡ field places (Number z) → y ≡ z
numbers_differ places y z s t e = let n = alike places places (Number y) (Number z) s t e in cc

-- no number prints as a mark
pub record NoMark (places : ℕ) (z : ℤ) : Type 0 where
  pub over : field places (Number z) ≡ field places Over → ⊥
  pub under : field places (Number z) ≡ field places Under → ⊥
  pub nothing : field places (Number z) ≡ field places Nothing → ⊥

pub no_mark : (places : ℕ) (z : ℤ) → Showable places (Number z) → NoMark places z
no_mark places z s =
    let m : Showable places Over = record { few = s.few; short = omega arith } in
    let u : Showable places Under = record { few = s.few; short = omega arith } in
    let n : Showable places Nothing = record { few = s.few; short = omega arith } in
    record {
      over = λ e. let x = alike places places (Number z) Over s m e in let w : ◌≡◌ {A = ℕ} 0 1 = cc in omega arith;
      under = λ e. let x = alike places places (Number z) Under s u e in let w : ◌≡◌ {A = ℕ} 0 1 = cc in omega arith;
      nothing = λ e. let x = alike places places (Number z) Nothing s n e in let w : ◌≡◌ {A = ℕ} 0 1 = cc in omega arith;
    }

-- ---- a number's places are read back too

point_append : (s t : List ℕ) → holds 46 s ≡ false → behind_point (s ++ t) ≡ behind_point t
unfolding behind_point holds
point_append [] t e = refl
point_append (x ∷ s) t e = by (eqb 46 x) e (point_append s t)
  where
    by : (b : Bool) → (b || holds 46 s) ≡ false → (holds 46 s ≡ false → behind_point (s ++ t) ≡ behind_point t)
        → cond b (length (s ++ t)) (behind_point (s ++ t)) ≡ behind_point t
    by true f g = never (sym f)
    by false f g = g f

fraction_point : (k n : ℕ) → behind_point (fraction k n) ≡ k
unfolding fraction behind_point
fraction_point zero n = refl
fraction_point (suc k) n = digits_length (suc k) n

pub places_back : (places : ℕ) (z : ℤ) → behind_point (field places (Number z)) ≡ places
unfolding field text number
places_back places z =
    let w = whole (nat_abs z / 10 ^ places) in
    let f = fraction places (nat_abs z % 10 ^ places) in
    let k = 12 - length ((sign z ++ w) ++ f) in
    point_append (replicate k 32) ((sign z ++ w) ++ f) (blank_free 46 k refl)
    ∙ point_append (sign z ++ w) f
    (holds_append 46 (sign z) w ∙ rw (sign_point z, decimal_free 46 9 (nat_abs z / 10 ^ places) (omega arith)))
    ∙ fraction_point places (nat_abs z % 10 ^ places)
