-- What the parser finds a string says by its form: at each step it finds what the form says there, or nothing, and then the form says nothing.
use mathlib.Core.Path.{◌≡◌, refl, sym, ap, subst, ◌∙◌}
use mathlib.Core.Bool.{Bool, true, false, cond, ◌&&◌, ◌||◌}
use mathlib.Core.List.{List, [], ◌∷◌, ◌++◌, append_assoc, append-nil}
use mathlib.Core.Logic.{◌⊎◌, inl, inr, ◌≢◌}
use Prim.Native.Nat.{ℕ, ◌+◌, ◌-◌, ◌*◌, ◌≤◌, ◌<◌}
use native.Mathlib.Omega.{arith}
use borrow.Author.Tests.{eqb-true, eqb-false, leb-true, leb-false}
use lib.Dec.{leb, eqb}
use lib.IntN.{ℤ, pos, neg_ℤ}
use lib.ListN.{length, take, drop, take-append-drop, length-drop}
use Rattle.register.specs.Bytes.{byte}
use Rattle.register.specs.Registers.{Listed, no_register, entry, count, index}
use Rattle.numeral.specs.Number.{is_digit, is_point, figures, keep, digits, filled, onward, value, last, amount, held_by, number, plus, minus}
use Rattle.command.specs.Parse.{sole, reading, resetting, printing, status, write_to, data_of, writing, body, first_digit, second_digit, parse}
use Rattle.form.specs.Grammar as form
use Rattle.form.specs.Grammar.{Digit, BeginsN, BeginsDigit, Figures, LastFive, Worth, Counts, Numeral, Letter, Body, For}
use Rattle.register.specs.declared.Limits.{Limits}
use Rattle.register.specs.declared.Writes.{Writes}
use Rattle.register.specs.declared.Writes.TheVariants.{Nothing, Number as Limited, Byte}
use Rattle.std.specs.Prelude.{Option, None, Some}
use Rattle.numeral.specs.declared.Number.{Number}
use Rattle.numeral.specs.declared.Number.TheVariants.{NoNumber}
use Rattle.command.specs.declared.Asked.{Asked}
use Rattle.command.specs.declared.Asked.TheVariants.{Read, Reset, Status, BadForm}
use Rattle.command.specs.Parse.{Parsed}
use Rattle.exact.proofs.Z.{never, both}
use Rattle.exact.proofs.Held.{held_is}
use Rattle.register.proofs.Table.{index_of_letter, numbered, byte_at}
use Rattle.numeral.proofs.Digits.{last_all}
use Rattle.form.proofs.Said.{digit_test, digit_of, held_said}

-- ── a V number ──

figures_by : (b : ℕ) (s : List ℕ) (t u : Bool) → is_digit b ≡ t → is_point b ≡ u → (t || u) ≡ true → Figures (digits s) s → Figures (keep t (b - byte "0") (digits s)) (b ∷ s)
figures_by b s true u e k h f = form.digit (digit_of b e) f
figures_by b s false true e k h f = subst (λ (x : ℕ). Figures (digits s) (x ∷ s)) (sym (eqb-true b (byte ".") k)) (form.point f)
figures_by b s false false e k h f = never h

figures_found : (s : List ℕ) → figures s ≡ true → Figures (digits s) s
figures_found [] e = form.end
figures_found (b ∷ s) e =
    let p = both (is_digit b || is_point b) (figures s) e in
    figures_by b s (is_digit b) (is_point b) refl refl p.0 (figures_found s p.1)

last_five_by : (ds : List ℕ) (t : Bool) → leb 5 (length ds) ≡ t → LastFive ds (last 5 ds)
last_five_by ds true e =
    let k = length ds - 5 in
    subst (λ (l : List ℕ). LastFive l (last 5 ds)) (take-append-drop k ds)
    (form.five (take k ds) {fs = drop k ds} (length-drop k ds ∙ omega (arith, leb-true)))
last_five_by ds false e =
    let h : length ds ≤ 5 = omega (arith, leb-false) in
    subst (LastFive ds) (sym (last_all ds h)) (form.all h)

last_five_found : (ds : List ℕ) → LastFive ds (last 5 ds)
last_five_found ds = last_five_by ds (leb 5 (length ds)) refl

worth_onward : {n : ℕ} {a : List ℕ} → Worth n a → (ds : List ℕ) → Worth (onward n ds) (a ++ ds)
worth_onward {n} {a} w [] = subst (Worth n) (sym (append-nil a)) w
worth_onward {n} {a} w (d ∷ ds) = subst (Worth (onward (10 * n + d) ds)) (append_assoc a (d ∷ []) ds) (worth_onward {n = 10 * n + d} {a = a ++ d ∷ []} (form.more d w) ds)

worth_found : (ds : List ℕ) → Worth (value ds) ds
worth_found ds = worth_onward form.zero ds

filled_found : (ds : List ℕ) → filled ds ≡ true → ds ≢ []
filled_found [] e = never e
filled_found (d ∷ ds) e = λ k. never (ap filled (sym k))

-- an amount stands there, or none
abbrev Counted : List ℕ → Option ℕ → Type 0
Counted s a = (a ≡ None) ⊎ ((n : ℕ) × (a ≡ Some n) × Counts n s)

amount_by : (s : List ℕ) (t : Bool) → (figures s && filled (digits s)) ≡ t → Counted s (cond t (Some (value (last 5 (digits s)))) None)
amount_by s true e =
    let p = both (figures s) (filled (digits s)) e in
    inr (value (last 5 (digits s)), refl, form.counts (figures_found s p.0) (filled_found (digits s) p.1) (last_five_found (digits s)) (worth_found (last 5 (digits s))))
amount_by s false e = inl refl

amount_found : (s : List ℕ) → Counted s (amount s)
unfolding amount
amount_found s = amount_by s (figures s && filled (digits s)) refl

module _ (l : Limits) where
  -- a number stands there, which the limits hold, or none
  abbrev pub Numbered : List ℕ → Number → Type 0
  Numbered s n = (n ≡ NoNumber) ⊎ ((z : ℤ) × (n ≡ held_by l z) × Numeral z s)

  minus_found : (s : List ℕ) → Counted s (amount s) → Numbered (byte "-" ∷ s) (minus l (amount s))
  minus_found s (inl e) = inl (ap (minus l) e)
  minus_found s (inr r) = inr (neg_ℤ (pos r.0), ap (minus l) r.1, form.minus r.2)

  plus_found : (s : List ℕ) → Counted s (amount s) → Numbered s (plus l (amount s))
  plus_found s (inl e) = inl (ap (plus l) e)
  plus_found s (inr r) = inr (pos r.0, ap (plus l) r.1, form.plain r.2)

  number_by : (b : ℕ) (s : List ℕ) (t : Bool) → eqb b (byte "-") ≡ t → Numbered (b ∷ s) (cond t (minus l (amount s)) (plus l (amount (b ∷ s))))
  number_by b s true e =
      subst (λ (x : ℕ). Numbered (x ∷ s) (minus l (amount s))) (sym (eqb-true b (byte "-") e)) (minus_found s (amount_found s))
  number_by b s false e = plus_found (b ∷ s) (amount_found (b ∷ s))

  pub number_found : (s : List ℕ) → Numbered s (number l s)
  unfolding number
  number_found [] = inl refl
  number_found (b ∷ s) = number_by b s (eqb b (byte "-")) refl

-- ── command, register, data ──

-- a body is a command or bad form
abbrev pub Judged : Asked → List ℕ → Type 0
Judged c s = (c ≡ BadForm) ⊎ Body c s

-- a register that a command takes is one of the list
taken_by : (f : Listed → Bool) (l : ℕ) → f no_register ≡ false → f (entry (index l)) ≡ true → ((index l ≡ count) ⊎ ((index l < count) × ((entry (index l)).letter ≡ l))) → Letter (index l) l
unfolding entry
taken_by f l g e (inl h) = never (sym g ∙ rw h at e)
taken_by f l g e (inr h) = record { listed = h.0; letter = h.1 }

taken : (f : Listed → Bool) (l : ℕ) → f no_register ≡ false → f (entry (index l)) ≡ true → Letter (index l) l
taken f l g e = taken_by f l g e (index_of_letter l)

read_by : (l : ℕ) (t : Bool) → (entry (index l)).read ≡ t → Judged (cond t (Read (index l)) BadForm) (byte "T" ∷ l ∷ [])
read_by l true e = inr (form.read (taken (λ x. x.read) l refl e) e)
read_by l false e = inl refl

reset_by : (l : ℕ) (t : Bool) → (entry (index l)).reset ≡ t → Judged (cond t (Reset (index l)) BadForm) (byte "R" ∷ l ∷ [])
reset_by l true e = inr (form.reset (taken (λ x. x.reset) l refl e) e)
reset_by l false e = inl refl

status_by : (b : ℕ) (t : Bool) → leb b 127 ≡ t → Judged (cond t (Status b) BadForm) (byte "V" ∷ byte "J" ∷ b ∷ [])
status_by b true e = inr (form.status (leb-true b 127 e))
status_by b false e = inl refl

reading_found : (s : List ℕ) → Judged (reading s) (byte "T" ∷ s)
unfolding reading sole entry
reading_found [] = inl refl
reading_found (l ∷ []) = read_by l (entry (index l)).read refl
reading_found (l ∷ c ∷ s) = inl refl

resetting_found : (s : List ℕ) → Judged (resetting s) (byte "R" ∷ s)
unfolding resetting sole entry
resetting_found [] = inl refl
resetting_found (l ∷ []) = reset_by l (entry (index l)).reset refl
resetting_found (l ∷ c ∷ s) = inl refl

printing_found : (s : List ℕ) → Judged (printing s) (byte "P" ∷ s)
unfolding printing
printing_found [] = inr form.print
printing_found (b ∷ s) = inl refl

status_found : (s : List ℕ) → Judged (status s) (byte "V" ∷ byte "J" ∷ s)
unfolding status
status_found [] = inl refl
status_found (b ∷ []) = status_by b (leb b 127) refl
status_found (b ∷ c ∷ s) = inl refl

-- whether V writes anything to a register
abbrev is_any : Writes → Bool
is_any Nothing = false
is_any (Limited l) = true
is_any Byte = true

abbrev is_written : Listed → Bool
is_written x = is_any x.written

write_found : (r c : ℕ) (l : Limits) (s : List ℕ) (n : Number) → Letter r c → (entry r).written ≡ Limited l → Numbered l s n → Judged (write_to r n) (byte "V" ∷ c ∷ s)
write_found r c l s n h v (inl e) = inl (ap (write_to r) e)
write_found r c l s n h v (inr q) =
    inr
    (subst (λ (a : Asked). Body a (byte "V" ∷ c ∷ s)) (sym (ap (write_to r) q.1 ∙ held_said r l q.0))
    (form.write h v q.2 (held_is l.low l.high q.0 (numbered r l h.listed v).limits)))

data_found : (c : ℕ) (s : List ℕ) (w : Writes) → (entry (index c)).written ≡ w → Judged (data_of (index c) w s) (byte "V" ∷ c ∷ s)
unfolding data_of
data_found c s Nothing v = inl refl
data_found c s (Limited l) v = write_found (index c) c l s (number l s) (taken is_written c refl (rw v)) v (number_found l s)
data_found c s Byte v =
    let h = taken is_written c refl (rw v) in
    subst (λ (x : ℕ). Judged (status s) (byte "V" ∷ x ∷ s)) (sym (byte_at (index c) h.listed v) ∙ h.letter) (status_found s)

writing_found : (s : List ℕ) → Judged (writing s) (byte "V" ∷ s)
unfolding writing
writing_found [] = inl refl
writing_found (c ∷ s) = data_found c s (entry (index c)).written refl

one_of : (b k : ℕ) (c d : Asked) (s : List ℕ) (t : Bool) → eqb b k ≡ t → Judged c (k ∷ s) → Judged d (b ∷ s) → Judged (cond t c d) (b ∷ s)
one_of b k c d s true e p q = subst (λ (x : ℕ). Judged c (x ∷ s)) (sym (eqb-true b k e)) p
one_of b k c d s false e p q = q

pub body_found : (s : List ℕ) → Judged (body s) s
unfolding body
body_found [] = inl refl
body_found (b ∷ s) =
    one_of b (byte "T") (reading s) _ s (eqb b (byte "T")) refl (reading_found s)
    (one_of b (byte "V") (writing s) _ s (eqb b (byte "V")) refl (writing_found s)
    (one_of b (byte "R") (resetting s) _ s (eqb b (byte "R")) refl (resetting_found s)
    (one_of b (byte "P") (printing s) _ s (eqb b (byte "P")) refl (printing_found s)
    (inl refl))))

-- ── the address ──

pub n_first : {s : List ℕ} → BeginsN s → (b : ℕ) (t : List ℕ) → s ≡ b ∷ t → b ≡ byte "N"
n_first form.begins_n b t e = cc

pub n_some : {s : List ℕ} → BeginsN s → s ≢ []
n_some form.begins_n = λ e. let z : ◌≡◌ {A = ℕ} 0 1 = cc in omega arith

pub digit_first : {s : List ℕ} → BeginsDigit s → (b : ℕ) (t : List ℕ) → s ≡ b ∷ t → is_digit b ≡ true
digit_first (form.begins_digit {b = c} h) b t e = let k : c ≡ b = cc in subst (λ (x : ℕ). is_digit x ≡ true) k (digit_test h)

pub digit_some : {s : List ℕ} → BeginsDigit s → s ≢ []
digit_some (form.begins_digit h) = λ e. let z : ◌≡◌ {A = ℕ} 0 1 = cc in omega arith

-- a string names a node or not
abbrev pub Named : Parsed → List ℕ → Type 0
Named p s = (p ≡ None) ⊎ ((n : ℕ) × For s n)

two_by : (d b c : ℕ) (s : List ℕ) (t : Bool) → is_digit c ≡ t → Digit d b → (n : ℕ) × For (byte "N" ∷ b ∷ c ∷ s) n
two_by d b c s true e h =
    (10 * d + (c - byte "0"), record { part = byte "N" ∷ b ∷ c ∷ []; rest = s; whole = refl; address = form.two_digits h (digit_of c e) })
two_by d b c s false e h =
    (d, record { part = byte "N" ∷ b ∷ []; rest = c ∷ s; whole = refl; address = form.one_digit h (λ g. never (sym e ∙ digit_first g c s refl)) })

pub two_for : (d b : ℕ) (s : List ℕ) → Digit d b → (n : ℕ) × For (byte "N" ∷ b ∷ s) n
two_for d b [] h = (d, record { part = byte "N" ∷ b ∷ []; rest = []; whole = refl; address = form.one_digit h (λ g. digit_some g refl) })
two_for d b (c ∷ s) h = two_by d b c s (is_digit c) refl h

first_by : (b : ℕ) (s : List ℕ) (t : Bool) → is_digit b ≡ t → Named (cond t (second_digit (b - byte "0") s) None) (byte "N" ∷ b ∷ s)
first_by b s true e = inr (two_for (b - byte "0") b s (digit_of b e))
first_by b s false e = inl refl

first_found : (s : List ℕ) → Named (first_digit s) (byte "N" ∷ s)
unfolding first_digit
first_found [] = inl refl
first_found (b ∷ s) = first_by b s (is_digit b) refl

parse_by : (b : ℕ) (s : List ℕ) (t : Bool) → eqb b (byte "N") ≡ t → Named (cond t (first_digit s) (Some (0, body (b ∷ s)))) (b ∷ s)
parse_by b s true e = subst (λ (x : ℕ). Named (first_digit s) (x ∷ s)) (sym (eqb-true b (byte "N") e)) (first_found s)
parse_by b s false e =
    inr (0, record { part = []; rest = b ∷ s; whole = refl; address = form.no_n (λ g. eqb-false b (byte "N") e (n_first g b s refl)) })

pub address_found : (s : List ℕ) → Named (parse s) s
unfolding parse
address_found [] = inr (0, record { part = []; rest = []; whole = refl; address = form.no_n (λ g. n_some g refl) })
address_found (b ∷ s) = parse_by b s (eqb b (byte "N")) refl
