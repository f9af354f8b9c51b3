-- The parser and the form agree on every string.
use mathlib.Core.Path.{◌≡◌, refl, sym, ap, subst, ◌∙◌}
use mathlib.Core.Bool.{Bool, true, false}
use mathlib.Core.List.{List, [], ◌∷◌}
use mathlib.Core.Logic.{inl, inr, ◌≢◌, ◌↔◌}
use mathlib.Core.Option.{none, some}
use Prim.Native.Nat.{ℕ}
use native.Mathlib.Omega.{arith}
use borrow.Author.Tests.{eqb-true, eqb-false}
use lib.Dec.{eqb}
use Rattle.register.specs.Bytes.{byte}
use Rattle.exact.proofs.Z.{never}
use Rattle.numeral.specs.Number.{is_digit}
use Rattle.command.specs.Parse.{body, first_digit, parse}
use Rattle.command.specs.Addressed.{addressed, parsed_node}
use Rattle.command.proofs.Addressed.{parsed_node_lem}
use Rattle.command.specs.declared.Asked.{Asked}
use Rattle.command.specs.declared.Asked.TheVariants.{BadForm}
use Rattle.command.specs.Parse.{Parsed}
use Rattle.std.specs.Prelude.{None, Some}
use Rattle.form.specs.Grammar as form
use Rattle.form.specs.Grammar.{BeginsN, BeginsDigit, Address, Body, For, Says, NoDigit}
use Rattle.form.specs.Understood.{Silent}
use Rattle.form.proofs.Said.{digit_of, body_said, address_said}
use Rattle.form.proofs.Found.{Judged, Named, body_found, address_found, n_first, n_some, digit_first, two_for}

-- nothing that a string asks is bad form
pub never_bad : {a : Asked} {s : List ℕ} → Body a s → a ≢ BadForm
never_bad (form.read h e) = λ k. let z : ◌≡◌ {A = ℕ} 0 1 = cc in omega arith
never_bad (form.reset h e) = λ k. let z : ◌≡◌ {A = ℕ} 0 1 = cc in omega arith
never_bad form.print = λ k. let z : ◌≡◌ {A = ℕ} 0 1 = cc in omega arith
never_bad (form.write h e j n) = λ k. let z : ◌≡◌ {A = ℕ} 0 1 = cc in omega arith
never_bad (form.status h) = λ k. let z : ◌≡◌ {A = ℕ} 0 1 = cc in omega arith

pub same : {m n : ℕ} {a b : Asked} → ◌≡◌ {A = Parsed} (Some (m, a)) (Some (n, b)) → (m ≡ n) × (a ≡ b)
same {m = m} {n = n} {a = a} {b = b} e =
    let p : ◌≡◌ {A = ℕ × Asked} (m, a) (n, b) = cc in
    (ap (λ (x : ℕ × Asked). x.0) p, ap (λ (x : ℕ × Asked). x.1) p)

pub apart : {n : ℕ} {a : Asked} {p : Parsed} → p ≡ Some (n, a) → p ≡ None → ⊥
apart e k = let z : ◌≡◌ {A = ℕ} 0 1 = cc in omega arith

-- ── what is asked ──

pub for_parse : {s : List ℕ} {n : ℕ} (f : For s n) → parse s ≡ Some (n, body f.rest)
for_parse f = ap parse f.whole ∙ address_said f.address

pub says_parse : {s : List ℕ} {n : ℕ} {a : Asked} → Says s n a → parse s ≡ Some (n, a)
says_parse {n = n} h = for_parse h.to ∙ ap (λ (x : Asked). Some (n, x)) (body_said h.body)

said_by : {s : List ℕ} {m n : ℕ} {a : Asked} (f : For s m) → m ≡ n → body f.rest ≡ a → a ≢ BadForm → Judged (body f.rest) f.rest → Says s n a
said_by f e k h (inl b) = absurd (h (sym k ∙ b))
said_by f e k h (inr b) =
    record {
      to = record {
        part = f.part;
        rest = f.rest;
        whole = f.whole;
        address = subst (λ (i : ℕ). Address i f.part f.rest) e f.address;
      };
      body = subst (λ (x : Asked). Body x f.rest) k b;
    }

parse_says : (s : List ℕ) (n : ℕ) (a : Asked) → parse s ≡ Some (n, a) → a ≢ BadForm → Named (parse s) s → Says s n a
parse_says s n a p h (inl e) = absurd (apart p e)
parse_says s n a p h (inr q) = let e = same (sym (for_parse q.1) ∙ p) in said_by q.1 e.0 e.1 h (body_found q.1.rest)

pub asked : (s : List ℕ) (n : ℕ) (a : Asked) → Says s n a ↔ ((parse s ≡ Some (n, a)) × (a ≢ BadForm))
asked s n a =
    (λ h. (says_parse h, never_bad h.body), λ p. parse_says s n a p.0 p.1 (address_found s))

pub one_node : (s : List ℕ) (m n : ℕ) → For s m → For s n → m ≡ n
one_node s m n f g = (same (sym (for_parse f) ∙ for_parse g)).0

pub one_meaning : (s : List ℕ) (m n : ℕ) (a b : Asked) → Says s m a → Says s n b → (m ≡ n) × (a ≡ b)
one_meaning s m n a b f g = same (sym (says_parse f) ∙ says_parse g)

-- ── bad form ──

for_bad : (s : List ℕ) (n : ℕ) → parse s ≡ Some (n, BadForm) → Named (parse s) s → For s n
for_bad s n p (inl e) = absurd (apart p e)
for_bad s n p (inr q) = subst (For s) (same (sym (for_parse q.1) ∙ p)).0 q.1

bad_for : (s : List ℕ) (n : ℕ) (f : For s n) → Silent s n → Judged (body f.rest) f.rest → parse s ≡ Some (n, BadForm)
bad_for s n f h (inl e) = for_parse f ∙ ap (λ (x : Asked). Some (n, x)) e
bad_for s n f h (inr b) = absurd (h (body f.rest) (said_by f refl refl (never_bad b) (inr b)))

pub bad_form : (s : List ℕ) (n : ℕ) → (parse s ≡ Some (n, BadForm)) ↔ (For s n × Silent s n)
bad_form s n = (
  λ p. (for_bad s n p (address_found s), λ a h. never_bad h.body (same (sym (says_parse h) ∙ p)).1),
  λ q. bad_for s n q.0 q.1 (body_found q.0.rest),
)

-- ── no node ──

first_none_by : (b : ℕ) (s : List ℕ) (t : Bool) → is_digit b ≡ t → (BeginsDigit (b ∷ s) → ⊥) → first_digit (b ∷ s) ≡ None
unfolding first_digit
first_none_by b s true e h = absurd (h (form.begins_digit (digit_of b e)))
first_none_by b s false e h = rw e

first_none : (s : List ℕ) → (BeginsDigit s → ⊥) → first_digit s ≡ None
unfolding first_digit
first_none [] h = refl
first_none (b ∷ s) h = first_none_by b s (is_digit b) refl h

digitless : {s : List ℕ} → NoDigit s → parse s ≡ None
unfolding parse
digitless (form.no_digit {s} h) = first_none s h

digit_for : {s : List ℕ} → BeginsDigit s → (n : ℕ) × For (byte "N" ∷ s) n
digit_for (form.begins_digit {d} {b} {s} h) = two_for d b s h

node_zero : (s : List ℕ) → (BeginsN s → ⊥) → For s 0
node_zero s h = record { part = []; rest = s; whole = refl; address = form.no_n h }

alone_by : (b : ℕ) (s : List ℕ) (t : Bool) → eqb b (byte "N") ≡ t → ((n : ℕ) → For (b ∷ s) n → ⊥) → NoDigit (b ∷ s)
alone_by b s true e h =
    let k = eqb-true b (byte "N") e in
    subst (λ (x : ℕ). NoDigit (x ∷ s)) (sym k)
    (form.no_digit (λ g. let q = digit_for g in h q.0 (subst (λ (x : ℕ). For (x ∷ s) q.0) (sym k) q.1)))
alone_by b s false e h = absurd (h 0 (node_zero (b ∷ s) (λ g. eqb-false b (byte "N") e (n_first g b s refl))))

alone : (s : List ℕ) → ((n : ℕ) → For s n → ⊥) → NoDigit s
alone [] h = absurd (h 0 (node_zero [] (λ g. n_some g refl)))
alone (b ∷ s) h = alone_by b s (eqb b (byte "N")) refl h

pub nobody : (s : List ℕ) → NoDigit s ↔ ((n : ℕ) → For s n → ⊥)
nobody s = (λ g n f. apart (for_parse f) (digitless g), alone s)

pub no_node : (s : List ℕ) → (parse s ≡ None) ↔ NoDigit s
no_node s = (λ e. alone s (λ n f. apart (for_parse f) e), λ g. digitless g)

-- ── no choice ──

not_first : (b : ℕ) (s : List ℕ) → b ≢ byte "N" → is_digit b ≡ false → (BeginsN (b ∷ s) → ⊥) × (BeginsDigit (b ∷ s) → ⊥)
not_first b s n d = (λ g. n (n_first g b s refl), λ g. never (sym d ∙ digit_first g b s refl))

free : {a : Asked} {s : List ℕ} → Body a s → (BeginsN s → ⊥) × (BeginsDigit s → ⊥)
free (form.read {l = l} h e) = not_first (byte "T") (l ∷ []) (λ k. omega arith) refl
free (form.reset {l = l} h e) = not_first (byte "R") (l ∷ []) (λ k. omega arith) refl
free form.print = not_first (byte "P") [] (λ k. omega arith) refl
free (form.write {l = l} {s = s} h e n i) = not_first (byte "V") (l ∷ s) (λ k. omega arith) refl
free (form.status {b} h) = not_first (byte "V") (byte "J" ∷ b ∷ []) (λ k. omega arith) refl

pub no_choice : (s : List ℕ) (a : Asked) → Body a s → (BeginsN s → ⊥) × (BeginsDigit s → ⊥)
no_choice s a b = free b

-- ── which node a string is addressed to ──

addressed_for : (s : List ℕ) (n : ℕ) → addressed s ≡ some n → Named (parse s) s → For s n
addressed_for s n e (inl k) =
    let h = sym (ap parsed_node k) ∙ parsed_node_lem s ∙ e in
    let z : ◌≡◌ {A = ℕ} 0 1 = cc in absurd (omega arith)
addressed_for s n e (inr q) =
    let h = sym (ap parsed_node (for_parse q.1)) ∙ parsed_node_lem s ∙ e in
    let k : q.0 ≡ n = cc in
    subst (For s) k q.1

pub addressed_to : (s : List ℕ) (n : ℕ) → (addressed s ≡ some n) ↔ For s n
addressed_to s n = (λ e. addressed_for s n e (address_found s), λ f. sym (parsed_node_lem s) ∙ ap parsed_node (for_parse f))

nowhere : (s : List ℕ) → addressed s ≡ none → (n : ℕ) → For s n → ⊥
nowhere s e n f = let h = sym ((addressed_to s n).1 f) ∙ e in let z : ◌≡◌ {A = ℕ} 0 1 = cc in omega arith

pub addressed_to_none : (s : List ℕ) → (addressed s ≡ none) ↔ NoDigit s
addressed_to_none s = (λ e. alone s (nowhere s e), λ g. sym (parsed_node_lem s) ∙ ap parsed_node (digitless g))
