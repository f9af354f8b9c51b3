-- What a string says by its form the parser finds.
use mathlib.Core.Path.{◌≡◌, refl, sym, ap, subst, ◌∙◌}
use mathlib.Core.Bool.{Bool, true, false, cond}
use mathlib.Core.List.{List, [], ◌∷◌, ◌++◌}
use mathlib.Core.Logic.{◌≢◌}
use Prim.Native.Nat.{ℕ, ◌+◌, ◌-◌, ◌*◌, ◌≤◌}
use native.Mathlib.Omega.{arith}
use borrow.Author.Tests.{ne_eqb, le-leb}
use lib.IntN.{ℤ}
use Rattle.register.specs.Bytes.{byte}
use Rattle.exact.specs.Sign.{within, held_to}
use Rattle.exact.specs.Meaning.{IsHeld}
use Rattle.exact.proofs.Held.{held_same, held_only}
use Rattle.register.specs.Registers.{entry, index}
use Rattle.register.specs.declared.Limits.{Limits}
use Rattle.register.specs.declared.Writes.TheVariants.{Number as Limited}
use Rattle.numeral.specs.Number.{is_digit, figures, digits, filled, value, last, amount, held_by, number, plus}
use Rattle.command.specs.Parse.{sole, reading, resetting, printing, status, write_to, data_of, writing, body, first_digit, second_digit, parse}
use Rattle.form.specs.Grammar as form
use Rattle.form.specs.Grammar.{Digit, BeginsN, BeginsDigit, Address, Figures, LastFive, Worth, Counts, Numeral, Letter, Body}
use Rattle.std.specs.Prelude.{Some}
use Rattle.numeral.specs.declared.Number.TheVariants.{Is, Held}
use Rattle.command.specs.declared.Asked.{Asked}
use Rattle.command.specs.declared.Asked.TheVariants.{Read, Reset, Write, Status}
use Rattle.register.proofs.Ranges.{in_range, range}
use Rattle.register.proofs.Table.{letter_index}
use Rattle.numeral.proofs.Digits.{value_more, last_end, last_all}

-- ── digits ──

pub digit_test : {d b : ℕ} → Digit d b → is_digit b ≡ true
digit_test {d} {b} h = in_range (byte "0") (byte "9") b (omega arith) (omega arith)

pub digit_value : {d b : ℕ} → Digit d b → b - byte "0" ≡ d
digit_value h = omega arith

pub digit_of : (b : ℕ) → is_digit b ≡ true → Digit (b - byte "0") b
digit_of b e = let h = range (byte "0") (byte "9") b e in record { to_nine = omega arith; is = omega arith }

-- ── a V number ──

figures_said : {ds s : List ℕ} → Figures ds s → (figures s ≡ true) × (digits s ≡ ds)
figures_said form.end = (refl, refl)
figures_said (form.point f) = figures_said f
figures_said (form.digit h f) =
    let r = figures_said f in
    (rw (digit_test h) r.0, rw (digit_test h, digit_value h, r.1))

filled_some : (ds : List ℕ) → ds ≢ [] → filled ds ≡ true
filled_some [] h = absurd (h refl)
filled_some (d ∷ ds) h = refl

last_five_said : {ds fs : List ℕ} → LastFive ds fs → last 5 ds ≡ fs
last_five_said (form.all {ds} h) = last_all ds h
last_five_said (form.five before {fs} h) = last_end before fs h

worth_said : {n : ℕ} {ds : List ℕ} → Worth n ds → value ds ≡ n
worth_said form.zero = refl
worth_said (form.more {ds = ds} d w) = value_more ds d ∙ ap (λ (m : ℕ). 10 * m + d) (worth_said w)

counts_said : {n : ℕ} {s : List ℕ} → Counts n s → amount s ≡ Some n
unfolding amount
counts_said (form.counts {ds = ds} {s = s} f h l w) =
    let r = figures_said f in
    rw (r.0, r.1, filled_some ds h, last_five_said l, worth_said w)

plain_first : {ds s : List ℕ} (l : Limits) → Figures ds s → ds ≢ [] → number l s ≡ plus l (amount s)
unfolding number
plain_first l form.end h = absurd (h refl)
plain_first l (form.point f) h = refl
plain_first l (form.digit {d} {b} g f) h = rw (ne_eqb b (byte "-") (λ e. omega arith))

plain_said : {n : ℕ} {s : List ℕ} (l : Limits) → Counts n s → number l s ≡ plus l (amount s)
plain_said l (form.counts f h k w) = plain_first l f h

pub numeral_said : {z : ℤ} {s : List ℕ} (l : Limits) → Numeral z s → number l s ≡ held_by l z
unfolding number
numeral_said l (form.plain c) = plain_said l c ∙ ap (plus l) (counts_said c)
numeral_said l (form.minus c) = rw (counts_said c)

-- ── command, register, data ──

pub index_said : {r l : ℕ} → Letter r l → index l ≡ r
index_said {r} h = ap index (sym h.letter) ∙ letter_index r h.listed

read_said : {r l : ℕ} → Letter r l → (entry r).read ≡ true → reading (l ∷ []) ≡ Read r
unfolding reading sole
read_said h e = rw (index_said h, e)

reset_said : {r l : ℕ} → Letter r l → (entry r).reset ≡ true → resetting (l ∷ []) ≡ Reset r
unfolding resetting sole
reset_said h e = rw (index_said h, e)

-- held or not, what is written is the number that was held
held_by_lem : (r : ℕ) (l : Limits) (z : ℤ) (t : Bool) → within l.low l.high z ≡ t
    → write_to r (cond t (Is z) (Held (held_to l.low l.high z))) ≡ Write r (held_to l.low l.high z)
held_by_lem r l z true e = ap (Write r) (sym (held_same l.low l.high z e))
held_by_lem r l z false e = refl

pub held_said : (r : ℕ) (l : Limits) (z : ℤ) → write_to r (held_by l z) ≡ Write r (held_to l.low l.high z)
held_said r l z = held_by_lem r l z (within l.low l.high z) refl

write_said : {r c : ℕ} {l : Limits} {z y : ℤ} {s : List ℕ} → Letter r c → (entry r).written ≡ Limited l → Numeral z s → IsHeld l.low l.high z y
    → writing (c ∷ s) ≡ Write r y
unfolding writing data_of
write_said {r} {l = l} {z} {y} h e n i =
    rw (index_said h, e, numeral_said l n) (held_said r l z ∙ ap (Write r) (sym (held_only l.low l.high z y i)))

status_said : {b : ℕ} → b ≤ 127 → writing (byte "J" ∷ b ∷ []) ≡ Status b
unfolding writing data_of status index entry
status_said {b} h = rw (le-leb b 127 h)

pub body_said : {a : Asked} {s : List ℕ} → Body a s → body s ≡ a
unfolding body printing
body_said (form.read h e) = read_said h e
body_said (form.reset h e) = reset_said h e
body_said form.print = refl
body_said (form.write h e n i) = write_said h e n i
body_said (form.status h) = status_said h

-- ── the address, read as it stands ──

no_n_said : (rest : List ℕ) → (BeginsN rest → ⊥) → parse rest ≡ Some (0, body rest)
unfolding parse body
no_n_said [] h = refl
no_n_said (b ∷ s) h = rw (ne_eqb b (byte "N") (λ e. h (subst (λ (x : ℕ). BeginsN (x ∷ s)) (sym e) form.begins_n)))

second_by : (d b : ℕ) (s : List ℕ) (t : Bool) → is_digit b ≡ t → (BeginsDigit (b ∷ s) → ⊥) → second_digit d (b ∷ s) ≡ Some (d, body (b ∷ s))
unfolding second_digit
second_by d b s true e h = absurd (h (form.begins_digit (digit_of b e)))
second_by d b s false e h = rw e

one_said : (d : ℕ) (rest : List ℕ) → (BeginsDigit rest → ⊥) → second_digit d rest ≡ Some (d, body rest)
unfolding second_digit body
one_said d [] h = refl
one_said d (b ∷ s) h = second_by d b s (is_digit b) refl h

pub address_said : {n : ℕ} {part rest : List ℕ} → Address n part rest → parse (part ++ rest) ≡ Some (n, body rest)
unfolding parse first_digit second_digit
address_said (form.no_n {rest} h) = no_n_said rest h
address_said (form.one_digit {d} {b} {rest} g h) = rw (digit_test g, digit_value g) (one_said d rest h)
address_said (form.two_digits g h) = rw (digit_test g, digit_test h, digit_value g, digit_value h)
