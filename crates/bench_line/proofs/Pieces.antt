-- What is printed of an answer, over plain values. Assumes nothing.
use mathlib.Core.Path.{◌≡◌}
use mathlib.Core.List.{List, [], ◌∷◌, ◌++◌}
use Prim.Native.Nat.{ℕ, ◌≤◌, ◌<◌}
use lib.ListN.{length, take}
use borrow.Author.Tests.{le-leb, lt-leb, eq-eqb, ne_eqb}
use Rattle.answer.specs.Answer.{number, value}
use Rattle.answer.specs.declared.Answer.{Answer}
use Rattle.bench_line.specs.Show.{number_line, reply_pieces, answer_pieces}

-- ---- a reply

pub reply_there : (n : ℕ) (reply : List ℕ) → n ≤ length reply → (take n reply ∷ []) ≡ reply_pieces n reply
unfolding reply_pieces
reply_there n reply h = rw (le-leb n (length reply) h)

pub reply_none : (n : ℕ) (reply : List ℕ) → length reply < n → [] ≡ reply_pieces n reply
unfolding reply_pieces
reply_none n reply h = rw (lt-leb n (length reply) h)

-- ---- an answer: a 2, and any other

module _ (a : Answer) (reply : List ℕ) where
  pub after_2 : number a ≡ 2 → number_line (number a) ++ reply_pieces (value a) reply ≡ answer_pieces a reply
  unfolding answer_pieces
  after_2 e = rw (eq-eqb (number a) 2 e)

  pub after_other : (number a ≡ 2 → ⊥) → number_line (number a) ≡ answer_pieces a reply
  unfolding answer_pieces
  after_other e = rw (ne_eqb (number a) 2 e)
