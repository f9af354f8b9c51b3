-- What a receiver has heard goes on by itself: one byte does to it what it does to a string, whatever stands behind the string.
use mathlib.Core.Path.{◌≡◌, refl, ap, ◌∙◌}
use mathlib.Core.Bool.{Bool, true, false, cond, ◌||◌}
use mathlib.Core.List.{List, [], ◌∷◌, ◌++◌}
use Prim.Native.Nat.{ℕ, suc, ◌+◌, ◌≤◌, ◌<◌}
use native.Mathlib.Omega.{arith}
use native.Mathlib.Numerals.{add-one}
use lib.Dec.{ltb}
use lib.ListN.{length, take, set, length-append, length-set}
use lib.Seq.{length-take-le, take-suc-set}
use borrow.Author.Tests.{lt-ltb, le-ltb, ltb-true, ltb-false}
use Rattle.receiver.specs.Receiver.{Heard, bytes, too_long, limit, over, ends, drops, kind, store, emptied, taken, next, heard}
use Rattle.receiver.specs.Since.{ending, since, hearing, after}
use Rattle.receiver.specs.declared.Receiver.{Receiver}
use Rattle.receiver.specs.declared.Kind.{Kind}
use Rattle.receiver.specs.declared.Kind.TheVariants.{End, Drop, Part}

-- one byte more to what is heard
abbrev pub more : Heard → ℕ → Heard
more (bytes s) b = hearing (s ++ b ∷ [])
more too_long b = too_long

-- what a byte does to what is heard
abbrev pub onward : Kind → Heard → ℕ → Heard
onward End h b = bytes []
onward Drop h b = bytes []
onward Part h b = more h b

one_more : (s : List ℕ) (b : ℕ) → length (s ++ b ∷ []) ≡ suc (length s)
one_more s b = rw (length-append, add-one)

-- ── a receiver ──

stored_room : (l : List ℕ) (n b : ℕ) → length l ≡ limit → n < limit
    → cond (over (n + 1)) too_long (bytes (take (n + 1) (set l n b))) ≡ more (cond (over n) too_long (bytes (take n l))) b
stored_room l n b e h =
    let i : n < length l = omega arith in
    let k : length (take n l) ≡ n = length-take-le _ _ (omega arith) in
    rw (le-ltb limit n (omega arith), one_more (take n l) b, k, add-one, take-suc-set l n b i)

stored_full : (l : List ℕ) (n b : ℕ) → length l ≡ limit → limit ≤ n → (t : Bool) → over n ≡ t → too_long ≡ more (cond t too_long (bytes (take n l))) b
stored_full l n b e h true p = refl
stored_full l n b e h false p =
    let i : n ≤ limit = ltb-false _ _ p in
    let k : length (take n l) ≡ n = length-take-le _ _ (omega arith) in
    rw (one_more (take n l) b, k, lt-ltb limit (suc n) (omega arith))

stored_by : (r : Receiver) (b : ℕ) → length r.bytes ≡ limit → (t : Bool) → ltb r.length limit ≡ t
    → heard (cond t (record { bytes = set r.bytes r.length b; length = r.length + 1 }) (record { bytes = r.bytes; length = limit + 1 })) ≡ more (heard r) b
unfolding heard
stored_by r b e true p = stored_room r.bytes r.length b e (ltb-true _ _ p)
stored_by r b e false p = stored_full r.bytes r.length b e (ltb-false _ _ p) (over r.length) refl

pub stored_heard : (r : Receiver) (b : ℕ) → length r.bytes ≡ limit → heard (store r b) ≡ more (heard r) b
unfolding store
stored_heard r b e = stored_by r b e (ltb r.length limit) refl

pub emptied_heard : (r : Receiver) → heard (emptied r) ≡ bytes []
unfolding heard
emptied_heard r = refl

taken_heard : (k : Kind) (r : Receiver) (b : ℕ) → length r.bytes ≡ limit → heard (taken k r b) ≡ onward k (heard r) b
taken_heard End r b e = emptied_heard r
taken_heard Drop r b e = emptied_heard r
taken_heard Part r b e = stored_heard r b e

pub next_heard : (r : Receiver) (b : ℕ) → length r.bytes ≡ limit → heard (next r b) ≡ onward (kind b) (heard r) b
next_heard r b e = taken_heard (kind b) r b e

-- ── a string ──

more_long : (s : List ℕ) (b : ℕ) (t : Bool) → over (length s) ≡ t → more (cond t too_long (bytes s)) b ≡ hearing (s ++ b ∷ [])
more_long s b true e = let h = ltb-true limit (length s) e in rw (one_more s b, lt-ltb limit (suc (length s)) (omega arith))
more_long s b false e = refl

pub more_hearing : (s : List ℕ) (b : ℕ) → more (hearing s) b ≡ hearing (s ++ b ∷ [])
more_hearing s b = more_long s b (over (length s)) refl

on_tests : (s : List ℕ) (b : ℕ) (t u : Bool) → onward (cond t End (cond u Drop Part)) (hearing s) b ≡ hearing (cond (t || u) [] (s ++ b ∷ []))
on_tests s b true u = refl
on_tests s b false true = refl
on_tests s b false false = more_hearing s b

on_hearing : (s : List ℕ) (b : ℕ) → onward (kind b) (hearing s) b ≡ hearing (cond (ending b) [] (s ++ b ∷ []))
unfolding kind
on_hearing s b = on_tests s b (ends b) (drops b)

-- ── every byte since power-up ──

wide_by : (r : Receiver) (b : ℕ) → length r.bytes ≡ limit → (t : Bool)
    → length (cond {A = Receiver} t (record { bytes = set r.bytes r.length b; length = r.length + 1 }) (record { bytes = r.bytes; length = limit + 1 })).bytes ≡ limit
wide_by r b e true = rw length-set e
wide_by r b e false = e

pub wide_taken : (k : Kind) (r : Receiver) (b : ℕ) → length r.bytes ≡ limit → length (taken k r b).bytes ≡ limit
unfolding store
wide_taken End r b e = e
wide_taken Drop r b e = e
wide_taken Part r b e = wide_by r b e (ltb r.length limit)

pub wide : (h : List ℕ) → length (after h).bytes ≡ limit
unfolding after
wide [] = refl
wide (b ∷ h) = wide_taken (kind b) (after h) b (wide h)

pub hears : (h : List ℕ) → heard (after h) ≡ hearing (since h)
unfolding after since heard
hears [] = refl
hears (b ∷ h) = next_heard (after h) b (wide h) ∙ ap (λ (x : Heard). onward (kind b) x b) (hears h) ∙ on_hearing (since h) b
