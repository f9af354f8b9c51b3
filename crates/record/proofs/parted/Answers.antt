-- The first word ends at the first space.
use Rattle.std.proofs.Common.{◌≡◌, ◌∙◌, ap, ℕ, ◌+◌, ◌-◌, take, arith}
use Rattle.text.proofs.Laws.{rest}
use Rattle.record.proofs.Words.{word_is, behind, spaced, unspaced}
use Rattle.record.proofs.parted.Goals as goal

pub returns-then-end-s : goal.returns-then-end-s
returns-then-end-s c =
    let s = c.args.s.now in
    let e = c.word_end-end in
    let w = e.ensures.value in
    let z : e.result ≡ e.result - 0 = omega arith in
    (spaced s 0 e.result w c.if-end-s.true, ap (λ (n : ℕ). take n s) z ∙ word_is s 0 e.result w, rest (e.result + 1) s ∙ behind s 0 e.result w)

pub returns-else-end-s : goal.returns-else-end-s
returns-else-end-s c =
    let e = c.word_end-end in
    unspaced c.args.s.now 0 e.result e.ensures.value c.if-end-s.false (omega arith)
