-- Bytes in hexadecimal as they are put, over plain values. Assumes nothing.
use mathlib.Core.Path.{◌≡◌, refl, sym, ap, ◌∙◌}
use mathlib.Core.List.{List, [], ◌∷◌, map}
use Prim.Native.Nat.{ℕ, zero, suc, ◌+◌, ◌<◌}
use native.Mathlib.Numerals.{add-one}
use native.Mathlib.Omega.{arith}
use lib.ListN.{length, drop, get_or}
use lib.Seq.{drop-cons, drop-length}
use Rattle.io.specs.Digits.{hex_digit_ascii}
use Rattle.register.specs.Bytes.{ascii}
use Rattle.text.specs.Output.{Waiting, put_in, puts}
use Rattle.hexadecimal.specs.Hex.{hex_byte, hex}

-- ---- byte for byte

pub hex_none : (s : List ℕ) → length s ≡ 0 → (ascii "-" ∷ []) ≡ hex s
unfolding hex
hex_none [] e = refl
hex_none (b ∷ s) e = absurd (omega arith)

pub hex_some : (s : List ℕ) → (length s ≡ 0 → ⊥) → map hex_byte s ≡ hex s
unfolding hex
hex_some [] e = absurd (e refl)
hex_some (b ∷ s) e = refl

pub hex_turn : (w v : Waiting) (s : List ℕ) (i : ℕ) → i < length s → v ≡ puts w (hex_byte (get_or s i 0) ∷ [])
    → puts w (map hex_byte (drop i s)) ≡ puts v (map hex_byte (drop (i + 1) s))
unfolding puts
hex_turn w v s i h e =
    ap (λ (l : List ℕ). puts w (map hex_byte l)) (drop-cons s i 0 h)
    ∙ ap (λ (k : ℕ). puts (put_in w (hex_byte (get_or s i 0))) (map hex_byte (drop k s))) (sym (add-one i))
    ∙ ap (λ (x : Waiting). puts x (map hex_byte (drop (i + 1) s))) (sym e)

pub hex_out : (w : Waiting) (s : List ℕ) (i : ℕ) → i ≡ length s → puts w (map hex_byte (drop i s)) ≡ w
unfolding puts
hex_out w s i e = ap (λ (l : List ℕ). puts w (map hex_byte l)) (ap (λ (k : ℕ). drop k s) e ∙ drop-length s)

-- ---- the sixteen digits

unfoldable glyphs : ℕ → ℕ → List ℕ
glyphs i zero = []
glyphs i (suc n) = hex_digit_ascii i ∷ glyphs (suc i) n

glyphs_at : (n i k : ℕ) → k < n → get_or (glyphs i n) k 0 ≡ hex_digit_ascii (i + k)
unfolding glyphs
glyphs_at zero i k h = absurd (omega arith)
glyphs_at (suc n) i zero h =
    let e : i ≡ i + 0 = omega arith in
    ap hex_digit_ascii e
glyphs_at (suc n) i (suc k) h =
    let e : suc i + k ≡ i + suc k = omega arith in
    glyphs_at n (suc i) k (omega arith) ∙ ap hex_digit_ascii e

sixteen : glyphs 0 16 ≡ ascii "0123456789abcdef"
unfolding glyphs
sixteen = refl

pub hex_digit : (d : ℕ) → d < 16 → get_or (ascii "0123456789abcdef") d 0 ≡ hex_digit_ascii d
hex_digit d h =
    let e : 0 + d ≡ d = omega arith in
    ap (λ (l : List ℕ). get_or l d 0) (sym sixteen) ∙ glyphs_at 16 0 d h ∙ ap hex_digit_ascii e
