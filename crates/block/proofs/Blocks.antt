-- What a block is made of: how long it is, and that it depends on the lines of A to H alone. Assumes nothing.
use mathlib.Core.Path.{◌≡◌, refl, sym, ap, ◌∙◌}
use mathlib.Core.Bool.{Bool, true, false, cond, ◌&&◌, ◌||◌}
use mathlib.Core.List.{List, [], ◌∷◌, ◌++◌, append_assoc, append-nil}
use Prim.Native.Nat.{ℕ, zero, suc, ◌+◌, ◌*◌, ◌≤◌, ◌<◌}
use native.Mathlib.Nat.{add-mul, mul-le-mul_right}
use native.Mathlib.Numerals.{add-one}
use native.Mathlib.Omega.{arith}
use lib.Dec.{leb}
use lib.ListN.{length, take, drop, get_or, length-append, take-append-drop}
use lib.Seq.{take-suc}
use mir.Val.{bool_byte as from_bool}
use borrow.Author.Tests.{leb-true}
use Rattle.exact.proofs.Z.{both}
use Rattle.register.specs.Registers.{at}
use Rattle.register.specs.declared.Print.{Print}
use Rattle.line.specs.declared.Style.{Style}
use Rattle.line.specs.Line.{line_length, Writable}
use Rattle.line.proofs.Lines.{line_length_lem}
use Rattle.block.specs.declared.Values.{Values}
use Rattle.block.specs.Block.{Option, setpoints, wants, order, option_at, chosen, chosen_lines, some, line_count, block_end, block, block_length}
use Rattle.block.specs.Values.{value_at, places_of, value_line, Printable}

-- ── some lines ──

-- one line of a block, where it is chosen
abbrev pub piece : Print → (ℕ → List ℕ) → ℕ × Option → List ℕ
piece p line x = chosen (wants p x.1) (line x.0)

pub lines_append : (p : Print) (line : ℕ → List ℕ) (xs ys : List (ℕ × Option)) → chosen_lines p line (xs ++ ys) ≡ chosen_lines p line xs ++ chosen_lines p line ys
unfolding chosen_lines
lines_append p line [] ys = refl
lines_append p line (x ∷ xs) ys = rw (lines_append p line xs ys, append_assoc (piece p line x) (chosen_lines p line xs) (chosen_lines p line ys))

-- one line more
lines_more : (p : Print) (line : ℕ → List ℕ) (xs : List (ℕ × Option)) (i : ℕ) (d : ℕ × Option) → i < length xs
    → chosen_lines p line (take (i + 1) xs) ≡ chosen_lines p line (take i xs) ++ piece p line (get_or xs i d)
unfolding chosen_lines
lines_more p line xs i d h =
    rw (add-one, take-suc xs i d, lines_append p line (take i xs) (get_or xs i d ∷ []), append-nil)

-- each register of the order stands at its own place, in the definition as in the code
at_place : (i : ℕ) → i < 8 → (get_or order i (at "H", setpoints)).0 ≡ i
at_place zero h = refl
at_place (suc zero) h = refl
at_place (suc (suc zero)) h = refl
at_place (suc (suc (suc zero))) h = refl
at_place (suc (suc (suc (suc zero)))) h = refl
at_place (suc (suc (suc (suc (suc zero))))) h = refl
at_place (suc (suc (suc (suc (suc (suc zero)))))) h = refl
at_place (suc (suc (suc (suc (suc (suc (suc zero))))))) h = refl
at_place (suc (suc (suc (suc (suc (suc (suc (suc i)))))))) h = absurd (omega arith)

abbrev pub ordered : List ℕ
ordered = 0 ∷ 1 ∷ 2 ∷ 3 ∷ 4 ∷ 5 ∷ 6 ∷ 7 ∷ []

pub at_its_place : (i : ℕ) → i < 8 → get_or ordered i 0 ≡ i
at_its_place zero h = refl
at_its_place (suc zero) h = refl
at_its_place (suc (suc zero)) h = refl
at_its_place (suc (suc (suc zero))) h = refl
at_its_place (suc (suc (suc (suc zero)))) h = refl
at_its_place (suc (suc (suc (suc (suc zero))))) h = refl
at_its_place (suc (suc (suc (suc (suc (suc zero)))))) h = refl
at_its_place (suc (suc (suc (suc (suc (suc (suc zero))))))) h = refl
at_its_place (suc (suc (suc (suc (suc (suc (suc (suc i)))))))) h = absurd (omega arith)

-- the lines up to a register, and its own behind them
pub one_more : (p : Print) (line : ℕ → List ℕ) (i : ℕ) → i < 8
    → chosen_lines p line (take (i + 1) order) ≡ chosen_lines p line (take i order) ++ chosen (wants p (option_at i)) (line i)
one_more p line i h =
    lines_more p line order i (at "H", setpoints) h
    ∙ ap (λ (r : ℕ). chosen_lines p line (take i order) ++ chosen (wants p (option_at i)) (line r)) (at_place i h)

-- the whole of a block has room for the lines up to a register and its own
pub fits_one_more : (p : Print) (line : ℕ → List ℕ) (i n : ℕ) → i < 8 → length (block p line) ≤ n
    → 0 + length (chosen_lines p line (take i order) ++ chosen (wants p (option_at i)) (line i)) ≤ n
unfolding block
fits_one_more p line i n h k =
    let a = chosen_lines p line (take (i + 1) order) in
    let b = chosen_lines p line (drop (i + 1) order) in
    let e : chosen_lines p line order ≡ a ++ b = ap (chosen_lines p line) (sym (take-append-drop (i + 1) order)) ∙ lines_append p line (take (i + 1) order) (drop (i + 1) order) in
    rw (← one_more p line i h) (omega (arith, length-append (chosen_lines p line order) (chosen (some p order) block_end), ap length e, length-append a b))

-- no register behind H stands in a list
abbrev to_h : List (ℕ × Option) → Bool
to_h [] = true
to_h (x ∷ xs) = leb x.0 (at "H") && to_h xs

-- lines that are alike from A to H
lines_same : (p : Print) (f g : ℕ → List ℕ) → ((r : ℕ) → r ≤ at "H" → f r ≡ g r) → (xs : List (ℕ × Option)) → to_h xs ≡ true → chosen_lines p f xs ≡ chosen_lines p g xs
unfolding chosen_lines
lines_same p f g e [] t = refl
lines_same p f g e (x ∷ xs) t =
    let h = both (leb x.0 (at "H")) (to_h xs) t in
    rw (e x.0 (leb-true x.0 (at "H") h.0), lines_same p f g e xs h.1)

-- a block depends on the lines of A to H alone
pub block_same : (p : Print) (f g : ℕ → List ℕ) → ((r : ℕ) → r ≤ at "H" → f r ≡ g r) → block p f ≡ block p g
unfolding block
block_same p f g e = rw (lines_same p f g e order refl)

-- ── how long it is, with lines of so many bytes ──

-- each line from A to H has so many
abbrev pub Each : (ℕ → List ℕ) → ℕ → Type 0
Each line bytes = (r : ℕ) → r ≤ at "H" → length (line r) ≡ bytes

chosen_length : (wanted : Bool) (text : List ℕ) (n : ℕ) → length text ≡ n → length (chosen wanted text) ≡ cond wanted 1 0 * n
chosen_length true text n e = e ∙ omega arith
chosen_length false text n e = omega arith

lines_length : (p : Print) (line : ℕ → List ℕ) (n : ℕ) → Each line n → (xs : List (ℕ × Option)) → to_h xs ≡ true → length (chosen_lines p line xs) ≡ line_count p xs * n
unfolding chosen_lines line_count
lines_length p line n e [] t = omega arith
lines_length p line n e (x ∷ xs) t =
    let h = both (leb x.0 (at "H")) (to_h xs) t in
    rw (
      length-append,
      chosen_length (wants p x.1) (line x.0) n (e x.0 (leb-true x.0 (at "H") h.0)),
      lines_length p line n e xs h.1,
      add-mul,
    )

end_length : (wanted : Bool) → length (chosen wanted block_end) ≡ cond wanted 3 0
end_length true = refl
end_length false = refl

pub block_length_lem : (p : Print) (line : ℕ → List ℕ) (n : ℕ) → Each line n → length (block p line) ≡ block_length p n
unfolding block
block_length_lem p line n e = rw (length-append, lines_length p line n e order refl, end_length (some p order))

-- ── at most 163 bytes, and abbreviated at most 115 ──

pub at_most : (wanted : Bool) (n : ℕ) → cond wanted n 0 ≤ n
at_most true n = omega arith
at_most false n = omega arith

count_most : (p : Print) (xs : List (ℕ × Option)) → line_count p xs ≤ length xs
unfolding line_count
count_most p [] = omega arith
count_most p (x ∷ xs) = omega (arith, at_most (wants p x.1) 1, count_most p xs)

most : (p : Print) (n : ℕ) → block_length p n ≤ 8 * n + 3
most p n = omega (arith, mul-le-mul_right n (count_most p order), at_most (some p order) 3)

pub block_most : (style : Style) (p : Print) (line : ℕ → List ℕ) → Each line (line_length style) → length (block p line) ≤ 163
block_most style p line e = rw (block_length_lem p line (line_length style) e) (by style.abbreviated (most p))
  where
    by : (t : Bool) → ((n : ℕ) → block_length p n ≤ 8 * n + 3) → block_length p (cond t 14 20) ≤ 163
    by true h = omega (arith, h 14)
    by false h = omega (arith, h 20)

pub abbreviated_most : (style : Style) (p : Print) (line : ℕ → List ℕ) → Each line (line_length style) → style.abbreviated ≡ true → length (block p line) ≤ 115
abbreviated_most style p line e a = rw (block_length_lem p line (line_length style) e, a) (omega (arith, most p 14))

-- both are reached where every line is chosen
abbrev pub every : Print
every = record { input = true; extremes = true; total = true; setpoints = true }

pub all_lines : (style : Style) (line : ℕ → List ℕ) → Each line (line_length style) → length (block every line) ≡ cond style.abbreviated 115 163
unfolding line_count some
all_lines style line e = block_length_lem every line (line_length style) e ∙ by style.abbreviated
  where
    by : (t : Bool) → 8 * cond t 14 20 + 3 ≡ cond t 115 163
    by true = refl
    by false = refl

-- nothing chosen is a reply of 0 bytes
abbrev pub none : Print
none = record { input = false; extremes = false; total = false; setpoints = false }

pub no_line : (line : ℕ → List ℕ) → block none line ≡ []
unfolding block chosen_lines some
no_line line = refl

-- ── what the code counts: max and min are chosen together, and so are the four setpoints ──

pub any_line : (p : Print) → some p order ≡ (p.input || p.total || p.extremes || p.setpoints)
unfolding some
any_line p = by p.input p.total p.extremes p.setpoints
  where
    by : (i t e s : Bool) → (i || (t || (e || (e || (s || (s || (s || (s || false)))))))) ≡ (i || t || e || s)
    by true t e s = refl
    by false true e s = refl
    by false false true s = refl
    by false false false true = refl
    by false false false false = refl

bit : (wanted : Bool) → from_bool wanted ≡ cond wanted 1 0
bit true = refl
bit false = refl

pub all_counted : (p : Print) → line_count p order ≡ from_bool p.input + from_bool p.total + 2 * from_bool p.extremes + 4 * from_bool p.setpoints
unfolding line_count
all_counted p = omega (arith, bit p.input, bit p.total, bit p.extremes, bit p.setpoints)

pub end_counted : (wanted : Bool) → cond wanted 3 0 ≡ 3 * from_bool wanted
end_counted true = refl
end_counted false = refl

-- ── the lines of some values ──

pub value_writable : (style : Style) (v : Values) → Printable style v → (r : ℕ) → r ≤ at "H" → Writable style r (places_of v r) (value_at v r)
value_writable style v p r h = record { named = p.named; known = omega arith; fits = p.fits r h }

pub value_length : (style : Style) (v : Values) → Printable style v → Each (value_line style v) (line_length style)
unfolding value_line
value_length style v p r h = line_length_lem style r (places_of v r) (value_at v r) (value_writable style v p r h)
