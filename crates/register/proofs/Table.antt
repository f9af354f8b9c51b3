-- What the list of registers says: one computed test of the whole list, and what it says of each register.
use mathlib.Core.Path.{◌≡◌, refl, sym, ap, ◌∙◌}
use mathlib.Core.Bool.{Bool, true, false, cond, not, ◌&&◌, ◌||◌}
use mathlib.Core.List.{List, [], ◌∷◌, map}
use mathlib.Core.Logic.{◌⊎◌, inl, inr, ⊎_elim}
use Prim.Native.Nat.{ℕ, zero, suc, ◌+◌, ◌-◌, ◌*◌, ◌<◌, ◌≤◌}
use Prim.Native.Char.{Char}
use native.Mathlib.Omega.{arith}
use native.Mathlib.Nat.{le_of_suc-le-suc, not-suc-le-zero}
use lib.Dec.{eqb}
use lib.ListN.{length, get_or, get_or-map}
use lib.IntN.{pos}
use lib.Signed.{le_z}
use borrow.Author.Tests.{eqb-true, eq-eqb}
use Rattle.register.specs.Bytes.{byte, ascii, within}
use Rattle.register.specs.declared.Limits.{Limits}
use Rattle.register.specs.declared.Writes.{Writes}
use Rattle.register.specs.declared.Writes.TheVariants.{Nothing, Number, Byte}
use Rattle.register.specs.Registers.{Listed, registers, no_register, entry, count, place_in, index, at}
use Rattle.exact.specs.Sign.{minus}
use Rattle.exact.proofs.Z.{never, both}
use Rattle.register.proofs.Ranges.{range}

-- a test of each entry of a table with its place, and what it says of one entry
abbrev placed : {A : Type 0} → (ℕ → A → Bool) → ℕ → List A → Bool
placed f k [] = true
placed f k (x ∷ xs) = f k x && placed f (suc k) xs

placed_at : {A : Type 0} (f : ℕ → A → Bool) (k : ℕ) (xs : List A) (d : A) → placed f k xs ≡ true → (i : ℕ) → i < length xs → f (i + k) (get_or xs i d) ≡ true
placed_at f k [] d t i h = absurd (not-suc-le-zero h)
placed_at f k (x ∷ xs) d t zero h = let e : 0 + k ≡ k = omega arith in rw e (both (f k x) (placed f (suc k) xs) t).0
placed_at f k (x ∷ xs) d t (suc i) h =
    let e : suc i + k ≡ i + suc k = omega arith in
    rw e (placed_at f (suc k) xs d (both (f k x) (placed f (suc k) xs) t).1 i (le_of_suc-le-suc h))

placed_here : {A : Type 0} (f : ℕ → A → Bool) (xs : List A) (d : A) → placed f 0 xs ≡ true → (i : ℕ) → i < length xs → f i (get_or xs i d) ≡ true
placed_here f xs d t i h = let z : i + 0 ≡ i = omega arith in rw z at (placed_at f 0 xs d t i h)

-- two tests with one outcome
abbrev alike : Bool → Bool → Bool
alike true b = b
alike false b = not b

alike_eq : (a b : Bool) → alike a b ≡ true → a ≡ b
alike_eq true true t = refl
alike_eq true false t = never t
alike_eq false true t = never t
alike_eq false false t = refl

-- ── letters, widths of mnemonics, and which command takes which register ──

-- the letters stand in order from A, a mnemonic has three bytes, T takes A to J, R takes B to H
abbrev rule : ℕ → Listed → Bool
rule i x =
    eqb x.letter (byte "A" + i)
    && (eqb (length x.mnemonic) 3
    && (alike x.read (within (byte "A") (byte "J") x.letter)
    && alike x.reset (within (byte "B") (byte "H") x.letter)))

-- V writes a number of -19,999 to 99,999 to E to H, one of 0 to 4,095 to I, and a byte to J
abbrev display : Limits
display = record { low = minus 19_999; high = pos 99_999 }

abbrev analog : Limits
analog = record { low = pos 0; high = pos 4_095 }

abbrev pub written_to : ℕ → Writes
written_to letter =
    cond (within (byte "E") (byte "H") letter) (Number display)
    (cond (eqb letter (byte "I")) (Number analog)
    (cond (eqb letter (byte "J")) Byte
    Nothing))

-- what the rule says of the register at place i
pub record Ruled (i : ℕ) (x : Listed) : Type 0 where
  pub letter : x.letter ≡ byte "A" + i
  pub mnemonic : length x.mnemonic ≡ 3
  pub read : x.read ≡ within (byte "A") (byte "J") x.letter
  pub written : x.written ≡ written_to x.letter
  pub reset : x.reset ≡ within (byte "B") (byte "H") x.letter

ruled_by : (i : ℕ) (x : Listed) → rule i x ≡ true → x.written ≡ written_to x.letter → Ruled i x
ruled_by i x t w =
    let p = both _ _ t in
    let q = both _ _ p.1 in
    let r = both _ _ q.1 in
    record {
      letter = eqb-true x.letter (byte "A" + i) p.0;
      mnemonic = eqb-true (length x.mnemonic) 3 q.0;
      read = alike_eq x.read (within (byte "A") (byte "J") x.letter) r.0;
      written = w;
      reset = alike_eq x.reset (within (byte "B") (byte "H") x.letter) r.1;
    }

-- what V writes, computed of the whole list, and of one register
written_each : map (λ (x : Listed). x.written) registers ≡ map (λ (x : Listed). written_to x.letter) registers
written_each = refl

written_here : (i : ℕ) → (get_or registers i no_register).written ≡ written_to (get_or registers i no_register).letter
written_here i =
    sym (get_or-map (λ (x : Listed). x.written) registers i no_register)
    ∙ ap (λ (l : List Writes). get_or l i Nothing) written_each
    ∙ get_or-map (λ (x : Listed). written_to x.letter) registers i no_register

pub ruled : (i : ℕ) → i < count → Ruled i (entry i)
unfolding entry
ruled i h = ruled_by i (get_or registers i no_register) (placed_here rule registers no_register refl i h) (written_here i)

-- a register that V writes a number to: one of E to I, and its limits leave a number to write
pub record Numbered (letter : ℕ) (l : Limits) : Type 0 where
  pub from_e : byte "E" ≤ letter
  pub to_i : letter ≤ byte "I"
  pub limits : le_z l.low l.high ≡ true

numbered_by : (letter : ℕ) (l : Limits) (t u v : Bool) → within (byte "E") (byte "H") letter ≡ t → eqb letter (byte "I") ≡ u
    → cond t (Number display) (cond u (Number analog) (cond v Byte Nothing)) ≡ Number l
    → Numbered letter l
numbered_by letter l true u v e f k =
    let r = range (byte "E") (byte "H") letter e in
    let o : l ≡ display = cc in
    record { from_e = omega arith; to_i = omega arith; limits = rw o }
numbered_by letter l false true v e f k =
    let r = eqb-true letter (byte "I") f in
    let o : l ≡ analog = cc in
    record { from_e = omega arith; to_i = omega arith; limits = rw o }
numbered_by letter l false false true e f k = let z : ◌≡◌ {A = ℕ} 0 1 = cc in absurd (omega arith)
numbered_by letter l false false false e f k = let z : ◌≡◌ {A = ℕ} 0 1 = cc in absurd (omega arith)

pub numbered : (i : ℕ) (l : Limits) → i < count → (entry i).written ≡ Number l → Numbered (entry i).letter l
numbered i l h e =
    numbered_by (entry i).letter l (within (byte "E") (byte "H") (entry i).letter) (eqb (entry i).letter (byte "I")) (eqb (entry i).letter (byte "J")) refl refl
    (sym (ruled i h).written ∙ e)

-- and the register that V writes a byte to is J
byte_by : (letter : ℕ) (t u v : Bool) → eqb letter (byte "J") ≡ v → cond t (Number display) (cond u (Number analog) (cond v Byte Nothing)) ≡ Byte → letter ≡ byte "J"
byte_by letter true u v e k = let z : ◌≡◌ {A = ℕ} 0 1 = cc in absurd (omega arith)
byte_by letter false true v e k = let z : ◌≡◌ {A = ℕ} 0 1 = cc in absurd (omega arith)
byte_by letter false false true e k = eqb-true letter (byte "J") e
byte_by letter false false false e k = let z : ◌≡◌ {A = ℕ} 0 1 = cc in absurd (omega arith)

pub byte_at : (i : ℕ) → i < count → (entry i).written ≡ Byte → (entry i).letter ≡ byte "J"
byte_at i h e =
    byte_by (entry i).letter (within (byte "E") (byte "H") (entry i).letter) (eqb (entry i).letter (byte "I")) (eqb (entry i).letter (byte "J")) refl
    (sym (ruled i h).written ∙ e)

-- ── no two mnemonics are alike ──

-- a mnemonic as a number, for the test
abbrev spelled : List ℕ → ℕ
spelled [] = 0
spelled (b ∷ s) = b + 256 * spelled s

-- two registers at different places are spelled apart
abbrev apart : ℕ → Listed → ℕ → Listed → Bool
apart i x j y = eqb i j || not (eqb (spelled x.mnemonic) (spelled y.mnemonic))

apart_eq : (i j m n : ℕ) (t : Bool) → eqb i j ≡ t → (t || not (eqb m n)) ≡ true → m ≡ n → i ≡ j
apart_eq i j m n true e a k = eqb-true i j e
apart_eq i j m n false e a k = never (rw (eq-eqb m n k) at a)

pub mnemonics_differ : (i j : ℕ) → i < count → j < count → (entry i).mnemonic ≡ (entry j).mnemonic → i ≡ j
unfolding entry
mnemonics_differ i j h k e =
    let x = get_or registers i no_register in
    let y = get_or registers j no_register in
    let row : placed (apart i x) 0 registers ≡ true = placed_here (λ a (z : Listed). placed (apart a z) 0 registers) registers no_register refl i h in
    apart_eq i j (spelled x.mnemonic) (spelled y.mnemonic) (eqb i j) refl
    (placed_here (apart i x) registers no_register row j k)
    (ap spelled e)

-- ── letters and places ──

-- the search finds each letter of the list at its own place
abbrev found_here : ℕ → Listed → Bool
found_here i x = eqb (index x.letter) i

pub letter_index : (i : ℕ) → i < count → index (entry i).letter ≡ i
unfolding index entry
letter_index i h = eqb-true _ _ (placed_here found_here registers no_register refl i h)

-- and a byte either nowhere or at a register with that letter, whatever the list
abbrev Sought : List Listed → Listed → ℕ → ℕ → Type 0
Sought rs d b i = (i ≡ length rs) ⊎ ((i < length rs) × ((get_or rs i d).letter ≡ b))

sought_by : (r : Listed) (rs : List Listed) (d : Listed) (b : ℕ) (t : Bool) → eqb b r.letter ≡ t → Sought rs d b (place_in rs b) → Sought (r ∷ rs) d b (cond t 0 (suc (place_in rs b)))
sought_by r rs d b true e found = inr (omega arith, sym (eqb-true b r.letter e))
sought_by r rs d b false e (inl none) = inl (ap suc none)
sought_by r rs d b false e (inr some) = inr (omega arith, some.1)

sought : (rs : List Listed) (d : Listed) (b : ℕ) → Sought rs d b (place_in rs b)
sought [] d b = inl refl
sought (r ∷ rs) d b = sought_by r rs d b (eqb b r.letter) refl (sought rs d b)

pub index_of_letter : (b : ℕ) → (index b ≡ count) ⊎ ((index b < count) × ((entry (index b)).letter ≡ b))
unfolding index entry
index_of_letter b = sought registers no_register b

-- so the bytes A to J are found in their order, and no other byte is found
pub index_in : (b : ℕ) → byte "A" ≤ b → b ≤ byte "J" → index b ≡ b - byte "A"
index_in b h k =
    let i : b - byte "A" < count = omega arith in
    let e : (entry (b - byte "A")).letter ≡ b = (ruled (b - byte "A") i).letter ∙ omega arith in
    rw e at (letter_index (b - byte "A") i)

pub index_out : (b : ℕ) → (b < byte "A") ⊎ (byte "J" < b) → index b ≡ count
index_out b out =
    ⊎_elim (λ none. none)
    (λ some.
    let e = (ruled (index b) some.0).letter in
    absurd (⊎_elim (λ h. omega (arith, e, some)) (λ h. omega (arith, e, some)) out))
    (index_of_letter b)

-- ── the registers that definitions and code name ──

-- each letter, the place by which the code knows it, and its mnemonic
pub named : map {B = ℕ × List ℕ} (λ (l : Char). (at l, (entry (at l)).mnemonic)) ("A" ∷ "B" ∷ "C" ∷ "D" ∷ "E" ∷ "F" ∷ "G" ∷ "H" ∷ "I" ∷ "J" ∷ [])
    ≡ (0, ascii "INP")
    ∷ (1, ascii "TOT")
    ∷ (2, ascii "MAX")
    ∷ (3, ascii "MIN")
    ∷ (4, ascii "SP1")
    ∷ (5, ascii "SP2")
    ∷ (6, ascii "SP3")
    ∷ (7, ascii "SP4")
    ∷ (8, ascii "AOR")
    ∷ (9, ascii "CSR")
    ∷ []
unfolding entry
named = refl
