-- `hexadecimal::fill` meets its contract: after n pairs the array has the first n bytes. Assumes nothing.
use Rattle.std.proofs.Common.{◌≡◌, true, List, [], ◌∷◌, ◌++◌, ℕ, zero, suc, ◌+◌, ◌*◌, ◌≤◌, ◌<◌, length, take, drop, get_or, take_all, ◌∙◌, refl, sym, ap, arith, rules}
use Rattle.std.proofs.lemmas.List.{get_or-drop, length-drop}
use Rattle.std.specs.Iterator.Adapters.{enumerate_source, enumerate_count}
use Rattle.std.specs.Slice.Iter.{chunks_exact_rest}
use Rattle.hexadecimal.specs.Hex.{most, is_digit, digit_of, is_text, bytes_of, over}
use Rattle.hexadecimal.proofs.Digits.{below_16, digit_at, text_digits, text_few, bytes_count, byte_at, over_none, over_next, over_all}
use Rattle.hexadecimal.proofs.fill.Goals as goal
use Rattle.hexadecimal.proofs.fill.Goals.{After-digit-low}

-- the two bytes that a turn is given, of what is left of a text from place i on
record Two (s p r : List ℕ) (i : ℕ) : Type 0 where
  room : i + 1 < length s
  first : get_or p 0 0 ≡ get_or s i 0
  second : get_or p 1 0 ≡ get_or s (i + 1) 0
  left : r ≡ drop (suc (suc i)) s

dropped : (i : ℕ) (s : List ℕ) → drop 2 (drop i s) ≡ drop (suc (suc i)) s
dropped zero s = refl
dropped (suc i) [] = refl
dropped (suc i) (b ∷ s) = dropped i s

two : (s p r : List ℕ) (i : ℕ) → drop i s ≡ p ++ r → length p ≡ 2 → Two s p r i
two s [] r i e l = absurd (omega arith)
two s (a ∷ []) r i e l = absurd (omega arith)
two s (a ∷ b ∷ []) r i e l =
    let count : length (drop i s) ≡ suc (suc (length r)) = ap length e in
    let z : i + 0 ≡ i = omega arith in
    record {
      room = omega (arith, length-drop i s, count);
      first = ap (λ (l : List ℕ). get_or l 0 0) (sym e) ∙ get_or-drop i s 0 0 ∙ ap (λ (k : ℕ). get_or s k 0) z;
      second = ap (λ (l : List ℕ). get_or l 1 0) (sym e) ∙ get_or-drop i s 1 0;
      left = ap (drop 2) (sym e) ∙ dropped i s;
    }
two s (a ∷ b ∷ d ∷ p) r i e l = absurd (omega arith)

-- the turn n
turn : (s p r rest : List ℕ) (n count size : ℕ) → size ≡ 2 → rest ≡ drop (2 * count) s → n ≡ count → rest ≡ p ++ r → length p ≡ size → Two s p r (2 * n)
turn s p r rest n count size h left e cut l =
    let z : 2 * n ≡ 2 * count = omega arith in
    two s p r (2 * n) (ap (λ (k : ℕ). drop k s) z ∙ sym left ∙ cut) (l ∙ h)

digits : (s : List ℕ) (i : ℕ) → is_text s ≡ true → i < length s → 1 < length s → is_digit (get_or s i 0) ≡ true
digits s i e h k = digit_at s i (text_digits s e k) h

worth : (s : List ℕ) (i : ℕ) → is_text s ≡ true → i < length s → 1 < length s → digit_of (get_or s i 0) ≤ 15
worth s i e h k = below_16 (get_or s i 0) (digits s i e h k)

pub loop-n-init : goal.loop-n-init
loop-n-init c =
    let none : enumerate_count c.into_iter-n-iterator.result ≡ 0 = search rules in
    let rest : chunks_exact_rest (enumerate_source c.into_iter-n-iterator.result) ≡ c.args.text.now = search (rules, take_all) in
    (search rules, rw none rest, omega (arith, none), over_none c.args.bytes.now (bytes_of c.args.text.now) (enumerate_count c.into_iter-n-iterator.result) none)

pub digit-high-requires : goal.digit-high-requires
digit-high-requires c =
    let i = c.loop-n.invariant in
    let t = c.in-Some.ensures.steps in
    let w = turn c.args.text.now c.in-Some.pair.now _ _ c.in-Some.n _ _ i.0 i.1 t.1 t.0.1.0 t.0.1.1 in
    rw w.first (digits c.args.text.now (2 * c.in-Some.n) c.requires (omega (arith, w.room)) (omega (arith, w.room)))

pub digit-low-requires : goal.digit-low-requires
digit-low-requires c =
    let i = c.loop-n.invariant in
    let t = c.in-Some.ensures.steps in
    let w = turn c.args.text.now c.in-Some.pair.now _ _ c.in-Some.n _ _ i.0 i.1 t.1 t.0.1.0 t.0.1.1 in
    rw w.second (digits c.args.text.now (2 * c.in-Some.n + 1) c.requires w.room (omega (arith, w.room)))

told : (c : After-digit-low) → Two c.args.text.now c.in-Some.pair.now (chunks_exact_rest (enumerate_source c.next.new.self)) (2 * c.in-Some.n)
told c =
    let i = c.loop-n.invariant in
    let t = c.in-Some.ensures.steps in
    turn c.args.text.now c.in-Some.pair.now _ _ c.in-Some.n _ _ i.0 i.1 t.1 t.0.1.0 t.0.1.1

high : (c : After-digit-low) → c.digit-high.result ≤ 15
high c =
    let w = told c in
    omega (arith, c.digit-high.ensures ∙ ap digit_of w.first, worth c.args.text.now (2 * c.in-Some.n) c.requires (omega (arith, w.room)) (omega (arith, w.room)))

low : (c : After-digit-low) → c.digit-low.result ≤ 15
low c =
    let w = told c in
    omega (arith, c.digit-low.ensures ∙ ap digit_of w.second, worth c.args.text.now (2 * c.in-Some.n + 1) c.requires w.room (omega (arith, w.room)))

pub overflow_mul-bytes : goal.overflow_mul-bytes
overflow_mul-bytes c =
    let d = (goal.at.overflow_mul-bytes c).After-digit-low in
    record { fits = omega (arith, high d, low d) }

pub overflow_add-bytes : goal.overflow_add-bytes
overflow_add-bytes c =
    let d = (goal.at.overflow_add-bytes c).After-digit-low in
    record { fits = omega (arith, high d, low d) }

pub bounds-bytes-n : goal.bounds-bytes-n
bounds-bytes-n c =
    let w = told (goal.at.bounds-bytes-n c).After-digit-low in
    omega (arith, w.room, text_few c.args.text.now c.requires (omega (arith, w.room)))

pub loop-n-preserved : goal.loop-n-preserved
loop-n-preserved c =
    let i = c.loop-n.invariant in
    let t = c.in-Some.ensures.steps in
    let w = told (goal.at.loop-n-preserved c).After-digit-low in
    let s = c.args.text.now in
    let n = c.in-Some.n in
    let d = c.args.bytes.now in
    let wide : length d ≡ most = search rules in
    let few = text_few s c.requires (omega (arith, w.room)) in
    let two_on : suc (suc (2 * n)) ≡ 2 * enumerate_count c.next.new.self = omega (arith, t.1, t.2) in
    let one_on : n + 1 ≡ enumerate_count c.next.new.self = omega (arith, t.1, t.2) in
    let v : c.digit-high.result * 16 + c.digit-low.result ≡ get_or (bytes_of s) n 0 =
    rw (c.digit-high.ensures, c.digit-low.ensures, w.first, w.second) (byte_at s n (2 * n) refl w.room) in
    let was = i.3 ∙ ap (λ (k : ℕ). over d (take k (bytes_of s))) (sym t.1) in (
      t.0.0 ∙ i.0,
      w.left ∙ ap (λ (k : ℕ). drop k s) two_on,
      omega (arith, w.room, two_on),
      over_next _ (bytes_of s) n (omega (arith, bytes_count s, w.room)) (omega (arith, few, w.room, wide)) was v ∙ ap (λ (k : ℕ). over d (take k (bytes_of s))) one_on,
    )

pub returns-clause-value : goal.returns-clause-value
returns-clause-value c = omega (arith, bytes_count c.args.text.now)

pub returns-clause-bytes_after : goal.returns-clause-bytes_after
returns-clause-bytes_after c =
    let i = c.loop-n.invariant in
    let t = c.in-None.ensures.steps in
    let s = c.args.text.now in
    let left = ap length i.1 ∙ length-drop (2 * enumerate_count c.loop-n.n-iterator) s in
    i.3 ∙ over_all c.args.bytes.now (bytes_of s) (enumerate_count c.loop-n.n-iterator) (omega (arith, bytes_count s, i.0, i.2, left, t.0.1.0))
