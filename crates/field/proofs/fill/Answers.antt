-- `field::fill` meets its contract: spaces stand in the whole part, and the mark or the number is put at their right end. Assumes nothing.
use Rattle.std.proofs.Common.{rules}
use native.Mathlib.Omega.{arith}
use mathlib.Core.Path.{◌≡◌, ap, ◌∙◌}
use mathlib.Core.List.{List, ◌++◌}
use Prim.Native.Nat.{ℕ, ◌-◌, ◌<◌, ◌^◌}
use lib.IntN.{nat_abs}
use lib.ListN.{length, replicate}
use mir.Syntax.{w32}
use mir.Facts.{to_z-of_z}
use Rattle.field.specs.Field.{text, field, at_right}
use Rattle.field.proofs.Number.{number_short, over_blank}
use Rattle.field.proofs.fill.Goals as goal
use Rattle.field.proofs.fill.Goals.{After-fill}

-- whatever stood in the part, it is twelve spaces now
blank : (c : After-fill) → c.fill.new.self ≡ replicate 12 32
blank c = c.fill.ensures.after (λ y h. search rules) ∙ ap (λ (n : ℕ). replicate n 32) c.requires.1

-- and a text at its right end has spaces in front
right : (c : After-fill) (t : List ℕ) → at_right c.fill.new.self t ≡ replicate (12 - length t) 32 ++ t
right c t = rw (blank c) (over_blank t)

pub put_number-requires : goal.put_number-requires
put_number-requires c =
    let f = (goal.at.put_number-requires c).After-fill in
    let n : nat_abs c.in-Number.n < 10 ^ 9 = rw c.in-Number.is at c.requires.0.short in
    rw (to_z-of_z {w = w32} (record { sfits = c.in-Number.known_told-1-own.given.0.1 }))
    (c.requires.0.few, n, rw (blank f) (omega (arith, number_short c.args.places c.in-Number.n c.requires.0.few n)))

pub returns-in-Nothing : goal.returns-in-Nothing
unfolding field text
returns-in-Nothing c =
    rw c.in-Nothing.is (c.put_mark.ensures ∙ right (goal.at.returns-in-Nothing c).After-fill _)

pub returns-in-Under : goal.returns-in-Under
unfolding field text
returns-in-Under c =
    rw c.in-Under.is (c.put_mark-in-Under.ensures ∙ right (goal.at.returns-in-Under c).After-fill _)

pub returns-in-Over : goal.returns-in-Over
unfolding field text
returns-in-Over c =
    rw c.in-Over.is (c.put_mark-in-Over.ensures ∙ right (goal.at.returns-in-Over c).After-fill _)

pub returns-in-Number : goal.returns-in-Number
unfolding field text
returns-in-Number c =
    rw c.in-Number.is
    (c.put_number.ensures
    ∙ rw (to_z-of_z {w = w32} (record { sfits = c.in-Number.known_told-1-own.given.0.1 })) (right (goal.at.returns-in-Number c).After-fill _))
