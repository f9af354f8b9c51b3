-- `since` is every byte since power-up or the last ending byte, and nothing else is.
use mathlib.Core.Path.{◌≡◌, refl, sym, ap, ◌∙◌}
use mathlib.Core.Bool.{Bool, true, false, cond}
use mathlib.Core.List.{List, [], ◌∷◌, ◌++◌, reverse, reverse-cons, reverse-append, reverse-reverse, append_assoc}
use Prim.Native.Nat.{ℕ}
use Rattle.receiver.specs.Since.{ending, since, Unbroken, none, more, Begun, at_power_up, behind}

unbroken_end : {s : List ℕ} → Unbroken s → (b : ℕ) → ending b ≡ false → Unbroken (s ++ b ∷ [])
unbroken_end none b e = more e none
unbroken_end (more k u) b e = more k (unbroken_end u b e)

unbroken_reverse : {s : List ℕ} → Unbroken s → Unbroken (reverse s)
unbroken_reverse none = none
unbroken_reverse (more {b} {s} e u) = rw (reverse-cons b s) (unbroken_end (unbroken_reverse u) b e)

-- ── `since` is one ──

begun_more : {all s : List ℕ} → Begun all s → (b : ℕ) → ending b ≡ false → Begun (all ++ b ∷ []) (s ++ b ∷ [])
begun_more (at_power_up u) b e = at_power_up (unbroken_end u b e)
begun_more (behind before a {s} k u) b e = rw (append_assoc before (a ∷ s) (b ∷ [])) (behind before a k (unbroken_end u b e))

begun_by : (h : List ℕ) (b : ℕ) (t : Bool) → ending b ≡ t → Begun (reverse h) (since h) → Begun (reverse h ++ b ∷ []) (cond t [] (since h ++ b ∷ []))
begun_by h b true e g = behind (reverse h) b e none
begun_by h b false e g = begun_more g b e

pub begun : (h : List ℕ) → Begun (reverse h) (since h)
unfolding since
begun [] = at_power_up none
begun (b ∷ h) = rw (reverse-cons b h) (begun_by h b (ending b) refl (begun h))

-- ── and the only one ──

since_power_up : {u : List ℕ} → Unbroken u → since u ≡ reverse u
unfolding since
since_power_up none = refl
since_power_up (more {b} {s} e k) = rw (e, reverse-cons b s, since_power_up k)

since_ending : {u : List ℕ} → Unbroken u → (b : ℕ) (h : List ℕ) → ending b ≡ true → since (u ++ b ∷ h) ≡ reverse u
unfolding since
since_ending none b h e = rw e
since_ending (more {b = a} {s} k w) b h e = rw (k, reverse-cons a s, since_ending w b h e)

newest : (before s : List ℕ) (b : ℕ) → reverse (before ++ b ∷ s) ≡ reverse s ++ b ∷ reverse before
newest before s b = reverse-append before (b ∷ s) ∙ rw (reverse-cons b s, append_assoc (reverse s) (b ∷ []) (reverse before))

only_by : {all s : List ℕ} → Begun all s → since (reverse all) ≡ s
only_by (at_power_up {s} u) = since_power_up (unbroken_reverse u) ∙ reverse-reverse s
only_by (behind before b {s} e u) =
    ap since (newest before s b) ∙ since_ending (unbroken_reverse u) b (reverse before) e ∙ reverse-reverse s

pub only : (h s : List ℕ) → Begun (reverse h) s → since h ≡ s
only h s g = ap since (sym (reverse-reverse h)) ∙ only_by g
