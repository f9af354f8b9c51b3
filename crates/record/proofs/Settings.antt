-- Settings, over plain values: which words are a yes or no, and how a setting is read out of the array. Assumes nothing.
use mathlib.Core.Path.{◌≡◌, refl, sym, ap, ap₂, ◌∙◌}
use mathlib.Core.Bool.{Bool, true, false, cond, ◌&&◌}
use mathlib.Core.List.{List, [], ◌∷◌}
use Prim.Native.Nat.{ℕ, zero, suc, ◌+◌, ◌-◌, ◌*◌, ◌%◌, ◌^◌, ◌<◌}
use native.Mathlib.Omega.{arith}
use native.Mathlib.Numerals.{add-one}
use lib.Dec.{leb, ltb, eqb}
use lib.IntN.{ℤ, pos}
use lib.ListN.{length, drop, get_or}
use lib.Seq.{drop-cons, drop-length}
use lib.Signed.{mag}
use denote.Param.Members.{Mut, Called}
use Rattle.std.specs.Array.{IsFromFnResultFrom}
use mir.Syntax.{w32}
use mir.Val.{of_z}
use Rattle.exact.specs.Sign.{eq_z}
use Rattle.exact.proofs.Z.{eq32}
use Rattle.record.specs.Record.{word_count, kinds}
use Rattle.record.specs.Configuration.{number, in_turn}

-- ---- what a function gives at one place after another

-- f at so many places from i on
unfoldable pub tabled : {A : Type 0} → (ℕ → A) → ℕ → ℕ → List A
tabled f i zero = []
tabled f i (suc n) = f i ∷ tabled f (i + 1) n

tabled_at : (f : ℕ → Bool) (n i k : ℕ) → k < n → get_or (tabled f i n) k false ≡ f (i + k)
unfolding tabled
tabled_at f zero i k h = absurd (omega arith)
tabled_at f (suc n) i zero h = ap f (omega arith)
tabled_at f (suc n) i (suc k) h = tabled_at f n (i + 1) k (omega arith) ∙ ap f (omega arith)

-- an array that is made by calls, each of which gives what f does and leaves the closure as it was
module _ {F B : Type 0} (g : Mut F (ℕ × Unit {0}) B) (Keeps : F → Type 0) (f : ℕ → B) (m : ℕ)
    (step : (p q : F) (i : ℕ) (y : B) → i < m → Keeps p → Called g p (i, tt) y q → (y ≡ f i) × Keeps q) where
  pub drawn : (p : F) (ys : List B) (i n : ℕ) → length ys ≡ m → i + n ≡ m → Keeps p → IsFromFnResultFrom g p ys i n → drop i ys ≡ tabled f i n
  unfolding tabled
  drawn p ys i zero l h k e =
      let z : i ≡ length ys = omega arith in
      ap (λ (n : ℕ). drop n ys) z ∙ drop-length ys
  drawn p ys i (suc n) l h k (q, y, at, w, more) =
      let s = step p q i y (omega arith) k w in
      rw (← add-one i) at (drop-cons ys i y (omega arith))
      ∙ ap₂ (λ (x : B) (xs : List B). x ∷ xs) (at.0 ∙ s.0) (drawn q ys (i + 1) n l (omega arith) s.1 more)

-- ---- which words are a yes or no

-- as the code has it
abbrev flag_at : ℕ → Bool
flag_at i = cond (leb 40 i && ltb i 64) (leb 4 ((i - 40) % 6)) (leb 67 i)

-- all of them at once
kinds_are : tabled flag_at 0 word_count ≡ kinds
unfolding tabled kinds
kinds_are = refl

kind_at : (i : ℕ) → i < word_count → flag_at i ≡ get_or kinds i false
kind_at i h =
    let e : i ≡ 0 + i = omega arith in
    ap flag_at e ∙ sym (tabled_at flag_at word_count 0 i h) ∙ ap (λ (l : List Bool). get_or l i false) kinds_are

pub kind_alarm : (i : ℕ) → (leb 40 i && ltb i 64) ≡ true → i < word_count → leb 4 ((i - 40) % 6) ≡ get_or kinds i false
kind_alarm i h k = rw h at (kind_at i k)

pub kind_other : (i : ℕ) → (leb 40 i && ltb i 64) ≡ false → i < word_count → leb 67 i ≡ get_or kinds i false
kind_other i h k = rw h at (kind_at i k)

-- ---- a yes or no, as the machine tests it

pub one32 : (z : ℤ) → mag z < 2 ^ 31 → eqb (of_z w32 z) 1 ≡ eq_z z (pos 1)
one32 z h = eq32 z (pos 1) (record { sfits = h }) (record { sfits = omega arith })

-- ---- every second setting

pub turns : (s : List ℤ) (at i n : ℕ) → tabled (λ (k : ℕ). number s (at + 2 * k)) i n ≡ in_turn n s (at + 2 * i)
unfolding tabled in_turn
turns s at i zero = refl
turns s at i (suc n) =
    let z : at + 2 * (i + 1) ≡ at + 2 * i + 2 = omega arith in
    ap (λ (l : List ℤ). number s (at + 2 * i) ∷ l) (turns s at (i + 1) n ∙ ap (in_turn n s) z)
