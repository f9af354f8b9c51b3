-- `field::put_whole` meets its contract. The invariant: the number is what is left in decimal and then what stands from i on, and before i nothing
-- has changed. Assumes nothing.
use borrow.Author.Rules.{rules}
use native.Mathlib.Omega.{arith}
use mathlib.Core.Path.{refl, sym, ap, ◌∙◌}
use mathlib.Core.List.{List, [], ◌∷◌, ◌++◌, append-nil}
use Prim.Native.Nat.{ℕ, ◌-◌, ◌/◌}
use lib.ListN.{length, drop, length-append, length-set}
use lib.Seq.{drop-length, take-set-le}
use Rattle.field.specs.Field.{digit, whole}
use Rattle.field.proofs.Digits.{whole_one, whole_some, whole_tens, one_down, agree_before, first_put}
use Rattle.field.proofs.put_whole.Goals as goal

pub loop-left-init : goal.loop-left-init
loop-left-init c =
    (search rules, refl, c.requires.0, c.requires.1, rw drop-length (sym (append-nil _)), refl)

pub overflow_sub-i : goal.overflow_sub-i
overflow_sub-i c = omega (arith, whole_some c.loop-left.left)

pub bounds-buf-i : goal.bounds-buf-i
bounds-buf-i c = omega (arith, whole_some c.loop-left.left)

pub loop-left-smaller : goal.loop-left-smaller
loop-left-smaller c = omega arith

pub loop-left-preserved : goal.loop-left-preserved
loop-left-preserved c =
    let l = c.loop-left in
    let t = whole_tens l.left (omega arith) l.invariant.2 in
    let w = whole_some (l.left / 10) in
    let n = ap length t ∙ length-append (whole (l.left / 10)) (digit l.left ∷ []) in (
      simp length-set (omega arith),
      simp length-set l.invariant.1,
      omega arith,
      omega arith,
      l.invariant.4
          ∙ rw (t, c.last_digit.ensures) (one_down (whole (l.left / 10)) l.buf l.i _ (omega arith) (omega arith)),
      take-set-le (l.i - 1) l.buf (l.i - 1) _ (omega arith)
          ∙ agree_before l.buf _ l.i (l.i - 1) (omega arith) l.invariant.5,
    )

pub returns-then-left-lt10 : goal.returns-then-left-lt10
returns-then-left-lt10 c =
    let l = c.loop-left in
    let t = whole_one l.left (omega arith) in
    rw c.last_digit.ensures
    (first_put l.buf _ _ l.i _ (omega (arith, whole_some l.left)) l.invariant.0 l.invariant.1
    (l.invariant.4 ∙ ap (λ (p : List ℕ). p ++ drop l.i l.buf) t) l.invariant.5)
