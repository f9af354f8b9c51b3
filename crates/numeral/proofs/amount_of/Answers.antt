-- `numeral::amount_of` meets its contract: the loop's invariant is that the whole number says what the rest of it makes of what was read. Assumes nothing.
use Rattle.std.proofs.Common.{◌≡◌, sym, ◌∙◌, ℕ, ◌+◌, ◌*◌, ◌<◌, Bool, List, ◌∷◌, length, drop, get_or, add-one, drop-cons, arith}
use native.Mathlib.Nat.{mod-lt}
use lib.Seq.{drop-length}
use Rattle.register.specs.Bytes.{byte}
use Rattle.numeral.specs.Number.{amount}
use Rattle.numeral.proofs.Digits.{left, left_start, left_digit, left_point, left_other, left_end}
use Rattle.register.proofs.Ranges.{in_range, below_range, above_range}
use Rattle.numeral.proofs.amount_of.Goals as goal
use Rattle.numeral.proofs.amount_of.Goals.{in-46, in-48-to-57}

pub loop-b-init : goal.loop-b-init
loop-b-init c = (omega arith, left_start c.args.s.now)

module _ (s : List ℕ) (n i : ℕ) (seen : Bool) (inv : amount s ≡ left n seen (drop i s)) (h : i < length s) where
  -- the byte at i and the rest
  cut : amount s ≡ left n seen (get_or s i 0 ∷ drop (i + 1) s)
  cut = inv ∙ rw (add-one, drop-cons s i 0)

pub returns-in_default : goal.returns-in_default
returns-in_default c =
    let d = c.args.s.now in
    let l = c.loop-b in
    let i = l.b-index in
    let h : i < length d = omega arith in
    sym
    (cut d l.n i l.seen l.invariant.1 h
    ∙ left_other l.n l.seen (get_or d i 0) (drop (i + 1) d) (below_range (byte "0") (byte "9") (get_or d i 0) (omega arith)) c.in_default.in_default-own.rest.1)

pub returns-in_default-2 : goal.returns-in_default-2
returns-in_default-2 c =
    let d = c.args.s.now in
    let l = c.loop-b in
    let i = l.b-index in
    let h : i < length d = omega arith in
    sym
    (cut d l.n i l.seen l.invariant.1 h
    ∙ left_other l.n l.seen (get_or d i 0) (drop (i + 1) d) (above_range (byte "0") (byte "9") (get_or d i 0) (omega arith)) c.in_default.in_default-own.rest.1)

pub loop-b-preserved : goal.loop-b-preserved
loop-b-preserved c =
    let d = c.args.s.now in
    let l = c.loop-b in
    let i = l.b-index in
    let h : i < length d = omega arith in
    let e = cut d l.n i l.seen l.invariant.1 h in
    let b = get_or d i 0 in
    let t = drop (i + 1) d in (
      elim c.match-b.branch [ in-46 w ↦ rw w.n-is (omega arith) | in-48-to-57 w ↦ rw w.n-is (mod-lt (10 * l.n + w.from.result) (omega arith)) ],
      elim c.match-b.branch [
        | in-46 w ↦ e ∙ left_point l.n l.seen b t w.in-46.is ∙ rw (w.n-is, w.seen-is)
        | in-48-to-57 w ↦ e ∙ left_digit l.n l.seen b t (in_range (byte "0") (byte "9") b (omega arith) (omega arith)) ∙ rw (w.seen-is, w.n-is, w.from.ensures)
      ],
    )

pub returns-then-seen : goal.returns-then-seen
returns-then-seen c =
    let d = c.args.s.now in
    let l = c.loop-b in
    let h : l.b-index ≡ length d = omega arith in
    sym (l.invariant.1 ∙ rw (h, drop-length d, left_end l.n l.seen l.invariant.0, c.if-seen.true))

pub returns-else-seen : goal.returns-else-seen
returns-else-seen c =
    let d = c.args.s.now in
    let l = c.loop-b in
    let h : l.b-index ≡ length d = omega arith in
    sym (l.invariant.1 ∙ rw (h, drop-length d, left_end l.n l.seen l.invariant.0, c.if-seen.false))
