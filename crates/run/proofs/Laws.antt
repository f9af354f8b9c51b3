-- What makes the definitions of a run and its count believed. Assumes nothing.
use mathlib.Core.Path.{◌≡◌, refl, sym, ap, ◌∙◌}
use mathlib.Core.Bool.{Bool, true, false, cond}
use mathlib.Core.List.{List, [], ◌∷◌, ◌++◌}
use Prim.Native.Nat.{ℕ, zero, suc, ◌+◌, ◌*◌, ◌≤◌, ◌<◌}
use native.Mathlib.Numerals.{add-one}
use native.Mathlib.Omega.{arith}
use borrow.Author.Tests.{lt-ltb, le-ltb, ltb-true, ltb-false}
use lib.Dec.{ltb}
use lib.ListN.{take, replicate}
use lib.IntN.{ℤ, pos, negsuc}
use Rattle.run.specs.Run.{samples, counted}
use Rattle.run.specs.Successive.{left, run_after}
use Rattle.run.specs.declared.Run.TheVariants.{Broken, Going, Complete}

-- ---- the count of a delay

-- it is at least 1, whatever the tenths
pub samples_some : (tenths : ℤ) → 1 ≤ samples tenths
unfolding samples
samples_some (pos n) = omega arith
samples_some (negsuc n) = omega arith

-- of one tenth and more it is twice the tenths
pub samples_twice : (n : ℕ) → 1 ≤ n → samples (pos n) ≡ 2 * n
unfolding samples
samples_twice n h = omega arith

-- ---- one sample

-- where the condition holds and the run stays below its count, the run grows by one
pub grows : (run count : ℕ) → run + 1 < count → counted run true count ≡ Going (run + 1)
unfolding counted
grows run count h = ap (λ (t : Bool). cond t (Going (run + 1)) Complete) (lt-ltb (run + 1) count h)

-- where the condition holds and the run reaches its count, it is complete
pub completes : (run count : ℕ) → count ≤ run + 1 → counted run true count ≡ Complete
unfolding counted
completes run count h = ap (λ (t : Bool). cond t (Going (run + 1)) Complete) (le-ltb (run + 1) count h)

-- where the condition does not hold, the run is broken
pub breaks : (run count : ℕ) → counted run false count ≡ Broken
unfolding counted
breaks run count = refl

below_by : (run count : ℕ) (t : Bool) → ltb (run + 1) count ≡ t → 1 ≤ count → left (counted run true count) < count
unfolding counted left
below_by run count true e h = rw e (ltb-true (run + 1) count e)
below_by run count false e h = rw e h

-- what is left of any run lies below its count
pub left_below : (run : ℕ) (holds : Bool) (count : ℕ) → 1 ≤ count → left (counted run holds count) < count
unfolding counted left
left_below run true count h = below_by run count (ltb (run + 1) count) refl h
left_below run false count h = h

-- ---- any history of samples

-- a run that began at 0 always stays below its count
pub stays_below : (count : ℕ) (past : List Bool) → 1 ≤ count → run_after count past < count
unfolding run_after
stays_below count [] h = h
stays_below count (holds ∷ past) h = left_below (run_after count past) holds count h

-- after k successive samples with the condition, from run 0, the run is k while k is below the count
pub so_many : (count k : ℕ) (past : List Bool) → run_after count past ≡ 0 → k < count → run_after count (replicate k true ++ past) ≡ k
unfolding run_after left
so_many count zero past e h = e
so_many count (suc k) past e h =
    ap (λ (n : ℕ). left (counted n true count)) (so_many count k past e (omega arith))
    ∙ ap left (grows k count (omega arith))
    ∙ add-one k

-- the sample after k of them completes the run where it is the count-th
pub complete_at : (count k : ℕ) (past : List Bool) → run_after count past ≡ 0 → k + 1 ≡ count → counted (run_after count (replicate k true ++ past)) true count ≡ Complete
complete_at count k past e h =
    ap (λ (n : ℕ). counted n true count) (so_many count k past e (omega arith)) ∙ completes k count (omega arith)

going≢complete : (n : ℕ) → Going n ≡ Complete → ⊥
going≢complete n e = let z : ◌≡◌ {A = ℕ} 0 1 = cc in omega arith

broken≢complete : Broken ≡ Complete → ⊥
broken≢complete e = let z : ◌≡◌ {A = ℕ} 0 1 = cc in omega arith

complete_by : (run count : ℕ) (t : Bool) → ltb (run + 1) count ≡ t → counted run true count ≡ Complete → count ≤ run + 1
unfolding counted
complete_by run count true e c = absurd (going≢complete (run + 1) (rw e at c))
complete_by run count false e c = ltb-false (run + 1) count e

-- a run is complete only where the condition holds and the run reaches its count
pub complete_only : (run : ℕ) (holds : Bool) (count : ℕ) → counted run holds count ≡ Complete → (holds ≡ true) × (count ≤ run + 1)
complete_only run true count c = (refl, complete_by run count (ltb (run + 1) count) refl c)
complete_only run false count c = absurd (broken≢complete (sym (breaks run count) ∙ c))

-- the sample after k of them does not complete the run before it is the count-th
pub not_before : (count k : ℕ) (past : List Bool) → run_after count past ≡ 0 → k + 1 < count → counted (run_after count (replicate k true ++ past)) true count ≡ Complete → ⊥
not_before count k past e h c =
    let n = so_many count k past e (omega arith) in
    let o = complete_only (run_after count (replicate k true ++ past)) true count c in
    omega arith

held_by : (run count : ℕ) (past : List Bool) (t : Bool) → ltb (run + 1) count ≡ t → take run past ≡ replicate run true → take (left (counted run true count)) (true ∷ past) ≡ replicate (left (counted run true count)) true
unfolding counted left
held_by run count past true e h = rw (e, add-one run, h)
held_by run count past false e h = rw e

-- the run is the number of newest samples: at each of so many the condition held
pub held : (count : ℕ) (past : List Bool) → take (run_after count past) past ≡ replicate (run_after count past) true
unfolding counted left run_after
held count [] = refl
held count (true ∷ past) = held_by (run_after count past) count past (ltb (run_after count past + 1) count) refl (held count past)
held count (false ∷ past) = refl

-- a run is completed only by the last of so many successive samples with the condition as its count says
pub complete_held : (count : ℕ) (holds : Bool) (past : List Bool) → 1 ≤ count → counted (run_after count past) holds count ≡ Complete → take count (holds ∷ past) ≡ replicate count true
complete_held count holds past h c =
    let o = complete_only (run_after count past) holds count c in
    let b = stays_below count past h in
    let n : count ≡ suc (run_after count past) = omega arith in
    rw (n, o.0, held count past)
