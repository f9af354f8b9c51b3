-- The last five digits, as a reader finds them that goes through a number once and keeps what it read below 100,000.
use mathlib.Core.Path.{◌≡◌, refl, sym, ap, ◌∙◌}
use mathlib.Core.Bool.{Bool, true, false, cond, ◌&&◌, ◌||◌}
use mathlib.Core.List.{List, [], ◌∷◌, ◌++◌}
use Prim.Native.Nat.{ℕ, zero, suc, ◌+◌, ◌-◌, ◌*◌, ◌%◌, ◌^◌, ◌≤◌, ◌<◌}
use native.Mathlib.Omega.{arith}
use native.Mathlib.Nat.{mod-eq_of_lt, pow-succ', pow-le-pow_right, mul-le-mul_left, mod-mod, mul-add-mod_self_left, mod-lt}
use lib.Dec.{leb}
use borrow.Author.Tests.{leb-true, leb-false, ne_eqb}
use lib.ListN.{length, take, drop, take-append-drop, length-append, length-drop}
use lib.Seq.{drop_at}
use Rattle.register.specs.Bytes.{byte}
use Rattle.numeral.specs.Number.{is_digit, figures, keep, digits, filled, onward, value, last, amount}
use Rattle.register.proofs.Ranges.{range}
use Rattle.std.specs.Prelude.{Option, None, Some}

-- digits: each at most 9
pub data Tens : List ℕ → Type 0 where
  none : Tens []
  one : {d : ℕ} {ds : List ℕ} → d ≤ 9 → Tens ds → Tens (d ∷ ds)

pub onward_append : (n : ℕ) (a b : List ℕ) → onward n (a ++ b) ≡ onward (onward n a) b
onward_append n [] b = refl
onward_append n (d ∷ a) b = onward_append (10 * n + d) a b

-- what was read before stands in front
front_step : (p n d v : ℕ) → p * (10 * n + d) + v ≡ (10 * p) * n + (p * (10 * 0 + d) + v)
front_step p n d v = omega arith

pub onward_front : (n : ℕ) (ds : List ℕ) → onward n ds ≡ 10 ^ length ds * n + value ds
onward_front n [] = omega arith
onward_front n (d ∷ ds) =
    onward_front (10 * n + d) ds
    ∙ front_step (10 ^ length ds) n d (value ds)
    ∙ rw (pow-succ' 10 (length ds), onward_front (10 * 0 + d) ds)

below_step : (p d v w : ℕ) → d ≤ 9 → v < p → w ≡ p * (10 * 0 + d) + v → w < 10 * p
below_step p d v w h k e = omega (arith, mul-le-mul_left p h)

pub value_below : {ds : List ℕ} → Tens ds → value ds < 10 ^ length ds
value_below none = omega arith
value_below (one {d} {ds} h t) =
    rw (pow-succ' 10 (length ds))
    (below_step (10 ^ length ds) d (value ds) (value (d ∷ ds)) h (value_below t) (onward_front (10 * 0 + d) ds))

-- a reader that keeps n below 100,000
mod_step : (n d : ℕ) → (10 * (n % 100000) + d) % 100000 ≡ (10 * n + d) % 100000
mod_step n d = omega arith

pub onward_mod : (n : ℕ) (ds : List ℕ) → onward (n % 100000) ds % 100000 ≡ onward n ds % 100000
onward_mod n [] = mod-mod n 100000
onward_mod n (d ∷ ds) =
    sym (onward_mod (10 * (n % 100000) + d) ds)
    ∙ ap (λ (m : ℕ). onward m ds % 100000) (mod_step n d)
    ∙ onward_mod (10 * n + d) ds

-- where five stand at the end they are the last five, and where there are no more than five all are
pub last_end : (a b : List ℕ) → length b ≡ 5 → last 5 (a ++ b) ≡ b
last_end a b e = drop_at a b (length (a ++ b) - 5) (omega (arith, length-append a b))

pub last_all : (ds : List ℕ) → length ds ≤ 5 → last 5 ds ≡ ds
last_all ds h = let z : length ds - 5 ≡ 0 = omega arith in ap (λ (k : ℕ). drop k ds) z

-- the last five digits are what is left of all of them
tens_drop : (k : ℕ) {ds : List ℕ} → Tens ds → Tens (drop k ds)
tens_drop zero t = t
tens_drop (suc k) none = none
tens_drop (suc k) (one h t) = tens_drop k t

cut : (a b : List ℕ) → length b ≡ 5 → value (a ++ b) % 100000 ≡ value b % 100000
cut a b e =
    rw (onward_append 0 a b, onward_front (value a) b, e) (mul-add-mod_self_left 100000 (value a) (value b))

five_by : (ds : List ℕ) (t : Bool) → leb 5 (length ds) ≡ t → Tens ds → value (last 5 ds) ≡ value ds % 100000
five_by ds true e t =
    let k = length ds - 5 in
    let h : length (drop k ds) ≡ 5 = length-drop k ds ∙ omega (arith, leb-true) in
    sym (mod-eq_of_lt (rw h at (value_below (tens_drop k t))))
    ∙ sym (cut (take k ds) (drop k ds) h)
    ∙ ap (λ (l : List ℕ). value l % 100000) (take-append-drop k ds)
five_by ds false e t =
    let h : length ds ≤ 5 = omega (arith, leb-false) in
    ap value (last_all ds h)
    ∙ sym (mod-eq_of_lt (omega (arith, value_below t, pow-le-pow_right {n = 10} (omega arith) {i = length ds} {j = 5} h)))

pub last_five : {ds : List ℕ} → Tens ds → value (last 5 ds) ≡ value ds % 100000
last_five {ds} t = five_by ds (leb 5 (length ds)) refl t

-- ── the reader, from any place of the number on ──

tens_keep : (t : Bool) (b : ℕ) {ds : List ℕ} → is_digit b ≡ t → Tens ds → Tens (keep t (b - byte "0") ds)
tens_keep true b e t = let h = range (byte "0") (byte "9") b e in one {d = b - byte "0"} (omega arith) t
tens_keep false b e t = t

pub tens : (s : List ℕ) → Tens (digits s)
tens [] = none
tens (b ∷ s) = tens_keep (is_digit b) b refl (tens s)

-- what the rest of a number makes of n, read so far, and of whether a digit was seen
unfoldable pub left : ℕ → Bool → List ℕ → Option ℕ
left n seen s = cond (figures s && (seen || filled (digits s))) (Some (onward n (digits s) % 100000)) None

pub left_start : (s : List ℕ) → amount s ≡ left 0 false s
unfolding amount left
left_start s = rw (last_five (tens s))

or_true : (t : Bool) → (t || true) ≡ true
or_true true = refl
or_true false = refl

pub left_digit : (n : ℕ) (seen : Bool) (b : ℕ) (s : List ℕ) → is_digit b ≡ true → left n seen (b ∷ s) ≡ left ((10 * n + (b - byte "0")) % 100000) true s
unfolding left
left_digit n seen b s e = rw (e, or_true seen, onward_mod (10 * n + (b - byte "0")) (digits s))

pub left_point : (n : ℕ) (seen : Bool) (b : ℕ) (s : List ℕ) → b ≡ byte "." → left n seen (b ∷ s) ≡ left n seen s
unfolding left
left_point n seen b s e = rw e

pub left_other : (n : ℕ) (seen : Bool) (b : ℕ) (s : List ℕ) → is_digit b ≡ false → (b ≡ byte "." → ⊥) → left n seen (b ∷ s) ≡ None
unfolding left
left_other n seen b s e h = rw (e, ne_eqb b (byte ".") h)

pub left_end : (n : ℕ) (seen : Bool) → n < 100000 → left n seen [] ≡ cond seen (Some n) None
unfolding left
left_end n true h = rw (mod-eq_of_lt h)
left_end n false h = refl

-- an amount is below 100,000
small_by : (s : List ℕ) (n : ℕ) (t : Bool) → cond t (Some (value (last 5 (digits s)))) None ≡ Some n → n < 100000
small_by s n true e =
    let h : value (last 5 (digits s)) ≡ n = cc in
    omega (arith, last_five (tens s), mod-lt (value (digits s)) {m = 100000} (omega arith))
small_by s n false e = let z : ◌≡◌ {A = ℕ} 0 1 = cc in absurd (omega arith)

pub small : (s : List ℕ) (n : ℕ) → amount s ≡ Some n → n < 100000
unfolding amount
small s n e = small_by s n (figures s && filled (digits s)) e

-- ── what a number is worth ──

-- one digit more
pub value_more : (ds : List ℕ) (d : ℕ) → value (ds ++ d ∷ []) ≡ 10 * value ds + d
value_more ds d = onward_append 0 ds (d ∷ [])

-- the digits of a number that is written in two parts; a point adds none
keep_append : (t : Bool) (d : ℕ) (a b : List ℕ) → keep t d (a ++ b) ≡ keep t d a ++ b
keep_append true d a b = refl
keep_append false d a b = refl

pub digits_append : (s t : List ℕ) → digits (s ++ t) ≡ digits s ++ digits t
digits_append [] t = refl
digits_append (b ∷ s) t = ap (keep (is_digit b) (b - byte "0")) (digits_append s t) ∙ keep_append (is_digit b) (b - byte "0") (digits s) (digits t)

pub point_ignored : (s t : List ℕ) → digits (s ++ byte "." ∷ t) ≡ digits (s ++ t)
point_ignored s t = digits_append s (byte "." ∷ t) ∙ sym (digits_append s t)
