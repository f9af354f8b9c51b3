-- Whatever is found is within what its type may hold, and the test for a V or R says what the form says.
use mathlib.Core.Path.{◌≡◌, refl, sym, ap, subst, ◌∙◌}
use mathlib.Core.Bool.{true, not}
use mathlib.Core.List.{List}
use mathlib.Core.Logic.{inl, inr, ◌≢◌, ◌↔◌}
use Prim.Native.Nat.{ℕ, ◌≤◌}
use native.Mathlib.Omega.{arith}
use borrow.Author.Tests.{eqb-true, eq-eqb, le-ltb, ltb-false}
use lib.Dec.{eqb}
use lib.ListN.{length}
use Rattle.exact.proofs.Z.{never, both, turned_true}
use Rattle.register.specs.Bytes.{byte}
use Rattle.register.specs.Registers.{entry}
use Rattle.register.proofs.Ranges.{range}
use Rattle.register.proofs.Table.{ruled, numbered}
use Rattle.receiver.specs.Receiver.{limit, over}
use Rattle.command.specs.Parse.{body, parse}
use Rattle.command.specs.declared.Asked.{Asked}
use Rattle.command.specs.declared.Asked.TheVariants.{Read, Print, Reset, Write, Status, BadForm}
use Rattle.command.specs.Parse.{Parsed}
use Rattle.std.specs.Prelude.{None, Some}
use Rattle.form.specs.Grammar as form
use Rattle.form.specs.Grammar.{Address, Body, Says}
use Rattle.form.specs.Change as change
use Rattle.form.specs.Change.{alters, alters_at, VOrR, Change}
use Rattle.form.specs.Understood.{Permitted}
use Rattle.form.proofs.Found.{Judged, Named, body_found, address_found}
use Rattle.form.proofs.Meaning.{same, apart, for_parse, says_parse, asked}

-- ── what can be asked ──

node_99 : {n : ℕ} {part rest : List ℕ} → Address n part rest → n ≤ 99
node_99 (form.no_n h) = omega arith
node_99 (form.one_digit g h) = omega arith
node_99 (form.two_digits g h) = omega arith

permitted_body : {a : Asked} {s : List ℕ} → Body a s → Permitted a
permitted_body (form.read h e) = h.listed
permitted_body (form.reset {r} h e) =
    let t = ruled r h.listed in
    let l = range (byte "B") (byte "H") (entry r).letter (sym t.reset ∙ e) in
    let k = t.letter in
    (omega arith, omega arith)
permitted_body form.print = tt
permitted_body (form.write {r} {limits = l} h e n i) =
    let t = numbered r l h.listed e in
    let k = (ruled r h.listed).letter in
    (omega arith, omega arith, rw e i.inside)
permitted_body (form.status h) = h

permitted_by : (a : Asked) (s : List ℕ) → Judged a s → Permitted a
permitted_by a s (inl e) = subst Permitted (sym e) tt
permitted_by a s (inr b) = permitted_body b

permitted_named : (s : List ℕ) (n : ℕ) (a : Asked) → parse s ≡ Some (n, a) → Named (parse s) s → (n ≤ 99) × Permitted a
permitted_named s n a p (inl e) = absurd (apart p e)
permitted_named s n a p (inr q) =
    let e = same (sym (for_parse q.1) ∙ p) in
    (rw (← e.0) (node_99 q.1.address), subst Permitted e.1 (permitted_by (body q.1.rest) q.1.rest (body_found q.1.rest)))

pub permitted : (s : List ℕ) (n : ℕ) (a : Asked) → parse s ≡ Some (n, a) → (n ≤ 99) × Permitted a
permitted s n a p = permitted_named s n a p (address_found s)

-- ── a V or R ──

found : (s : List ℕ) (n : ℕ) (a : Asked) → parse s ≡ Some (n, a) → a ≢ BadForm → Says s n a
found s n a p h = (asked s n a).1 (p, h)

alters_says : (s : List ℕ) (n : ℕ) (a : Asked) → parse s ≡ Some (n, a) → alters a ≡ true → VOrR s n
alters_says s n (Read r) p e = never e
alters_says s n Print p e = never e
alters_says s n (Reset r) p e = change.reset (found s n (Reset r) p (λ k. let z : ◌≡◌ {A = ℕ} 0 1 = cc in omega arith))
alters_says s n (Write r z) p e = change.write (found s n (Write r z) p (λ k. let y : ◌≡◌ {A = ℕ} 0 1 = cc in omega arith))
alters_says s n (Status b) p e = change.status (found s n (Status b) p (λ k. let z : ◌≡◌ {A = ℕ} 0 1 = cc in omega arith))
alters_says s n BadForm p e = never e

alters_at_says : (s : List ℕ) (n : ℕ) (p : Parsed) → parse s ≡ p → alters_at n p ≡ true → VOrR s n
alters_at_says s n None k e = never e
alters_at_says s n (Some (m, a)) k e =
    let q = both (eqb m n) (alters a) e in
    alters_says s n a (k ∙ ap (λ (i : ℕ). Some (i, a)) (eqb-true m n q.0)) q.1

says_alters : {s : List ℕ} {n : ℕ} → VOrR s n → alters_at n (parse s) ≡ true
says_alters {n = n} (change.reset h) = rw (says_parse h, eq-eqb n n refl)
says_alters {n = n} (change.write h) = rw (says_parse h, eq-eqb n n refl)
says_alters {n = n} (change.status h) = rw (says_parse h, eq-eqb n n refl)

tested : (s : List ℕ) (n : ℕ) → change.change n s ≡ true → Change s n
unfolding change.change
tested s n e =
    let q = both (not (over (length s))) (alters_at n (parse s)) e in
    record { short = ltb-false limit (length s) (turned_true (over (length s)) q.0); says = alters_at_says s n (parse s) refl q.1 }

passes : (s : List ℕ) (n : ℕ) → Change s n → change.change n s ≡ true
unfolding change.change
passes s n h = rw (le-ltb limit (length s) h.short, says_alters h.says)

pub changes : (s : List ℕ) (n : ℕ) → (change.change n s ≡ true) ↔ Change s n
changes s n = (tested s n, passes s n)
