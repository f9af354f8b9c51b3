-- Bytes that end nothing stand in the string half received, and nothing is kept at them. A read has only such bytes, and few.
use mathlib.Core.Path.{◌≡◌, refl, sym, ap, ◌∙◌}
use mathlib.Core.Bool.{true, false}
use mathlib.Core.List.{List, [], ◌∷◌, ◌++◌, append-nil, append_assoc}
use Prim.Native.Nat.{ℕ, ◌+◌, ◌≤◌}
use native.Mathlib.Omega.{arith}
use borrow.Author.Tests.{ne_eqb}
use lib.ListN.{length, length-append}
use Rattle.register.specs.Bytes.{byte as char}
use Rattle.register.proofs.Table.{ruled}
use Rattle.receiver.specs.Receiver.{ends}
use Rattle.receiver.specs.Since.{ending, since, Unbroken, none, more}
use Rattle.command.specs.declared.Asked.{Asked}
use Rattle.command.specs.declared.Asked.TheVariants.{Read, Print}
use Rattle.form.specs.Grammar as form
use Rattle.form.specs.Grammar.{Digit, Letter, Address, Body}
use Rattle.config.specs.declared.Config.{Config}
use Rattle.looking.specs.History.{byte, History, half}
use Rattle.looking.specs.Kept.{kept}
use Rattle.looking.specs.Sent as sent
use Rattle.looking.specs.Sent.{Sent, Reads}
use Rattle.looking.proofs.Ends.{not_ends}

-- ── one byte ──

pub half_more : (b place : ℕ) (buffer : List ℕ) (h : History) → ending b ≡ false → half (byte b place buffer ∷ h) ≡ half h ++ b ∷ []
unfolding since
half_more b place buffer h e = rw e

pub half_none : (b place : ℕ) (buffer : List ℕ) (h : History) → ending b ≡ true → half (byte b place buffer ∷ h) ≡ []
unfolding since
half_none b place buffer h e = rw e

pub kept_none : (c : Config) (b place : ℕ) (buffer : List ℕ) (h : History) → ends b ≡ false → kept c (byte b place buffer ∷ h) ≡ kept c h
kept_none c b place buffer h e = rw e

-- ── bytes sent one after another ──

unbroken_front : (s : List ℕ) (b : ℕ) → Unbroken (s ++ b ∷ []) → Unbroken s × (ending b ≡ false)
unbroken_front [] b (more e u) = (none, e)
unbroken_front (a ∷ s) b (more e u) = let p = unbroken_front s b u in (more e p.0, p.1)

pub sent_half : {h g : History} {s : List ℕ} → Sent h s g → Unbroken s → half g ≡ half h ++ s
sent_half {h} sent.none u = sym (append-nil (half h))
sent_half {h} (sent.more {s} {g} b place buffer x) u =
    let p = unbroken_front s b u in
    half_more b place buffer g p.1 ∙ ap (λ (l : List ℕ). l ++ b ∷ []) (sent_half x p.0) ∙ append_assoc (half h) s (b ∷ [])

pub sent_kept : (c : Config) {h g : History} {s : List ℕ} → Sent h s g → Unbroken s → kept c g ≡ kept c h
sent_kept c sent.none u = refl
sent_kept c (sent.more {s} {g} b place buffer x) u =
    let p = unbroken_front s b u in
    kept_none c b place buffer g (not_ends b p.1) ∙ sent_kept c x p.0

-- ── a read ──

-- a byte behind the star is no ending byte
plain : (b : ℕ) → char "*" + 1 ≤ b → ending b ≡ false
plain b h =
    rw (ne_eqb b (char "*") (λ e. omega arith), ne_eqb b (char "$") (λ e. omega arith), ne_eqb b (char "\r") (λ e. omega arith), ne_eqb b (char "\n") (λ e. omega arith))

plain_digit : {d b : ℕ} → Digit d b → ending b ≡ false
plain_digit {b} g = plain b (omega (arith, g.is))

plain_letter : {r l : ℕ} → Letter r l → ending l ≡ false
plain_letter {r} {l} g = plain l (omega (arith, g.letter, (ruled r g.listed).letter))

unbroken_append : {s t : List ℕ} → Unbroken s → Unbroken t → Unbroken (s ++ t)
unbroken_append none v = v
unbroken_append (more e u) v = more e (unbroken_append u v)

-- so many bytes at most, and none of them ends a string
pub record Short (s : List ℕ) (n : ℕ) : Type 0 where
  pub unbroken : Unbroken s
  pub short : length s ≤ n

short_address : {n : ℕ} {part rest : List ℕ} → Address n part rest → Short part 3
short_address (form.no_n h) = record { unbroken = none; short = omega arith }
short_address (form.one_digit g h) = record { unbroken = more refl (more (plain_digit g) none); short = omega arith }
short_address (form.two_digits g h) = record { unbroken = more refl (more (plain_digit g) (more (plain_digit h) none)); short = omega arith }

short_read : {r : ℕ} {s : List ℕ} → Body (Read r) s → Short s 2
short_read (form.read h e) = record { unbroken = more refl (more (plain_letter h) none); short = omega arith }

short_print : {s : List ℕ} → Body Print s → Short s 2
short_print form.print = record { unbroken = more refl none; short = omega arith }

short_both : (s part rest : List ℕ) → s ≡ part ++ rest → Short part 3 → Short rest 2 → Short s 5
short_both s part rest e a b =
    rw e (record { unbroken = unbroken_append a.unbroken b.unbroken; short = omega (arith, length-append part rest, a.short, b.short) })

pub short_reads : {s : List ℕ} {n : ℕ} {a : Asked} → Reads s n a → Short s 5
short_reads {s} (sent.read x) = short_both s x.to.part x.to.rest x.to.whole (short_address x.to.address) (short_read x.body)
short_reads {s} (sent.print x) = short_both s x.to.part x.to.rest x.to.whole (short_address x.to.address) (short_print x.body)
