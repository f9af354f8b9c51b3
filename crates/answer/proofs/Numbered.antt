-- The numbers are those of the table. Assumes nothing.
use mathlib.Core.Path.{◌≡◌, refl, sym, ◌∙◌}
use mathlib.Core.Bool.{cond}
use mathlib.Core.Logic.{◌≢◌}
use Prim.Native.Nat.{ℕ}
use native.Mathlib.Omega.{arith}
use lib.Dec.{eqb}
use Rattle.answer.specs.Answer.{number, value}
use Rattle.answer.specs.Numbered.{Numbered}
use Rattle.answer.specs.declared.Answer.{Answer}
use Rattle.answer.specs.declared.Answer.TheVariants.{Done, Stored, Replied, OtherNode, BadForm, Dropped, TooLong, InAutomatic, NoRoom, UnknownKey, Refused, NotStarted}

carry_none : (a : Answer) → number a ≢ 2 → number a ≢ 11 → value a ≡ 0
carry_none Done p q = refl
carry_none Stored p q = refl
carry_none (Replied n) p q = absurd (p refl)
carry_none OtherNode p q = refl
carry_none BadForm p q = refl
carry_none Dropped p q = refl
carry_none TooLong p q = refl
carry_none InAutomatic p q = refl
carry_none NoRoom p q = refl
carry_none UnknownKey p q = refl
carry_none (Refused rule) p q = absurd (q refl)
carry_none NotStarted p q = refl

withdrawn : (a : Answer) → number a ≢ 7
withdrawn Done e = omega arith
withdrawn Stored e = omega arith
withdrawn (Replied n) e = omega arith
withdrawn OtherNode e = omega arith
withdrawn BadForm e = omega arith
withdrawn Dropped e = omega arith
withdrawn TooLong e = omega arith
withdrawn InAutomatic e = omega arith
withdrawn NoRoom e = omega arith
withdrawn UnknownKey e = omega arith
withdrawn (Refused rule) e = omega arith
withdrawn NotStarted e = omega arith

-- the answer of a number and a value
told_by : ℕ → ℕ → Answer
told_by n v =
    cond (eqb n 0) Done
    (cond (eqb n 1) Stored
    (cond (eqb n 2) (Replied v)
    (cond (eqb n 3) OtherNode
    (cond (eqb n 4) BadForm
    (cond (eqb n 5) Dropped
    (cond (eqb n 6) TooLong
    (cond (eqb n 8) InAutomatic
    (cond (eqb n 9) NoRoom
    (cond (eqb n 10) UnknownKey
    (cond (eqb n 11) (Refused v) NotStarted))))))))))

told : (a : Answer) → told_by (number a) (value a) ≡ a
unfolding told_by
told Done = refl
told Stored = refl
told (Replied n) = refl
told OtherNode = refl
told BadForm = refl
told Dropped = refl
told TooLong = refl
told InAutomatic = refl
told NoRoom = refl
told UnknownKey = refl
told (Refused rule) = refl
told NotStarted = refl

apart : (a b : Answer) → number a ≡ number b → value a ≡ value b → a ≡ b
apart a b p q = sym (told a) ∙ rw (p, q) (told b)

pub numbered : Numbered
numbered = record { numbers = λ n rule. refl; values = λ n rule. refl; withdrawn = withdrawn; carry_none = carry_none; apart = apart }
