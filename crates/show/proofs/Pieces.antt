-- What is printed, over plain values.
use Rattle.std.proofs.Common.{◌≡◌, ℕ, zero, suc, ◌+◌, ◌≤◌, ◌<◌, Bool, false, eqb, List, [], ◌∷◌, ◌++◌, ℤ, pos, nat_abs, ◌*ℤ◌, length, take, get_or, refl, sym, ap, ◌∙◌, append_assoc, append-nil, arith, ne_eqb, add-one, drop, drop-cons, drop_of_length-le, eq-eqb, length-take-le}
use Rattle.std.proofs.lemmas.List.{take_all}
use Rattle.std.specs.Int.Signed.{lt_z}
use Rattle.exact.specs.Exact.{cut}
use Rattle.exact.proofs.Z.{abs_mul}
use Rattle.register.specs.Bytes.{ascii}
use Rattle.text.specs.Output.{Waiting, puts}
use Rattle.text.proofs.Waits.{puts_append}
use Rattle.total.specs.Total.{unit_of, quotient}
use Rattle.total.specs.declared.Totalizer.{Totalizer}
use Rattle.show.specs.Show.{named, behind_commas, number_words, quotient_of, kept, unwritten, trimmed}

-- the pieces behind others are put behind them: by this law alone the check finds most of this crate's proofs
pub puts_next : (w : Waiting) (a b : List (List ℕ)) → puts w (a ++ b) ≡ puts (puts w a) b
puts_next w a b = sym (puts_append w a b)

-- ---- four numbers

pub four : {A : Type 0} (l : List A) (d : A) (f : ℕ → A) → length l ≡ 4 → ((i : ℕ) → i < 4 → get_or l i d ≡ f i) → l ≡ f 0 ∷ f 1 ∷ f 2 ∷ f 3 ∷ []
four [] d f e h = absurd (omega arith)
four (a ∷ []) d f e h = absurd (omega arith)
four (a ∷ b ∷ []) d f e h = absurd (omega arith)
four (a ∷ b ∷ c ∷ []) d f e h = absurd (omega arith)
four (a ∷ b ∷ c ∷ x ∷ []) d f e h = rw (h 0 (omega arith), h 1 (omega arith), h 2 (omega arith), h 3 (omega arith))
four (a ∷ b ∷ c ∷ x ∷ y ∷ l) d f e h = absurd (omega arith)

-- what four numbers put is pieces one behind another
pub numbers_four : (name : List ℕ) (l : List ℤ) (f : ℕ → ℤ) → length l ≡ 4 → ((i : ℕ) → i < 4 → get_or l i (pos 0) ≡ f i)
    → number_words name l ≡ ((named name (f 0) ++ named (ascii ",") (f 1)) ++ named (ascii ",") (f 2)) ++ named (ascii ",") (f 3)
unfolding number_words behind_commas
numbers_four name l f e h = ap (number_words name) (four l (pos 0) f e h) ∙ simp (append_assoc, append-nil)

pub numbers_first : (name : List ℕ) (l : List ℤ) → length l ≡ 4 → number_words name l ≡ named name (get_or l 0 (pos 0)) ++ behind_commas (take 3 (drop 1 l))
unfolding number_words
numbers_first name [] h = absurd (omega arith)
numbers_first name (z ∷ l) h = rw (take_all 3 l (omega arith))

pub commas_next : (l : List ℤ) (i : ℕ) → i < length l → behind_commas (drop i l) ≡ named (ascii ",") (get_or l i (pos 0)) ++ behind_commas (drop (i + 1) l)
unfolding behind_commas
commas_next l i h = rw add-one (ap behind_commas (drop-cons l i (pos 0) h))

pub commas_out : (l : List ℤ) (i : ℕ) → length l ≤ i → behind_commas (drop i l) ≡ []
unfolding behind_commas
commas_out l i h = ap behind_commas (drop_of_length-le l h)

-- ---- the buffer without the EE at its end

kept_more : (t : Bool) (b : ℕ) (l : List ℕ) → 0 < length l → kept t b l ≡ b ∷ l
kept_more t b [] h = absurd (omega arith)
kept_more t b (c ∷ l) h = refl

pub trimmed_none : (s : List ℕ) → ((k : ℕ) → k < length s → get_or s k 0 ≡ unwritten) → [] ≡ trimmed s
unfolding trimmed
trimmed_none [] h = refl
trimmed_none (b ∷ s) h =
    let rest = trimmed_none s (λ k l. h (suc k) (omega arith)) in
    rw (eq-eqb b unwritten (h 0 (omega arith)), ← rest)

-- the last that was written stands at place i
pub trimmed_at : (s : List ℕ) (i : ℕ) → i < length s → (get_or s i 0 ≡ unwritten → ⊥) → ((k : ℕ) → i < k → k < length s → get_or s k 0 ≡ unwritten)
    → take (suc i) s ≡ trimmed s
unfolding trimmed
trimmed_at [] i a e h = absurd (omega arith)
trimmed_at (b ∷ s) zero a e h =
    let rest = trimmed_none s (λ k l. h (suc k) (omega arith) (omega arith)) in
    rw (ne_eqb b unwritten e, ← rest)
trimmed_at (b ∷ s) (suc i) a e h =
    let rest = trimmed_at s i (omega arith) e (λ k l m. h (suc k) (omega arith) (omega arith)) in
    rw (← rest) (sym (kept_more (eqb b unwritten) b (take (suc i) s) (omega (arith, length-take-le (suc i) s (omega arith)))))

-- ---- the total

pub quotient_is : (s : Totalizer) (sum : ℤ) → lt_z s.time_base (pos 1) ≡ false → cut sum (nat_abs (pos 20000 *ℤ s.time_base)) ≡ quotient_of s sum
unfolding quotient_of quotient unit_of
quotient_is s sum e = rw (e, abs_mul (pos 20000) s.time_base)
