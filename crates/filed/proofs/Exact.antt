-- The reader takes exactly what the writer writes. Assumes nothing.
use mathlib.Core.Path.{◌≡◌, refl, sym, ap, ap₂, ◌∙◌, subst}
use mathlib.Core.Bool.{Bool, true, false, cond, not, ◌||◌}
use mathlib.Core.List.{List, ◌∷◌}
use Prim.Native.Nat.{ℕ, zero, suc, ◌+◌, ◌-◌, ◌^◌, ◌≤◌, ◌<◌}
use native.Mathlib.Nat.{add-zero, le_antisymm, le_of_suc-le-suc, lt_of_not-le}
use native.Mathlib.Omega.{arith}
use Rattle.std.specs.Prelude.{Result, Ok, Err}
use borrow.Author.Tests.{le-ltb, ltb-true, ltb-false, eqb-true, eqb-false, ne_eqb}
use lib.Dec.{eqb, ltb, lit<, lit≤}
use lib.IntN.{ℤ, pos, nat_abs}
use lib.ListN.{length, take, get_or}
use lib.Seq.{take_all, take-take, get_or-take}
use Rattle.exact.proofs.Z.{never}
use Rattle.reading.specs.Reading.{in_display, displayable}
use Rattle.reading.specs.declared.Reading.{Reading}
use Rattle.reading.specs.declared.Reading.TheVariants as reading
use Rattle.binary32.specs.Binary32.{bits, display_of}
use Rattle.binary32.specs.Meaning.{Told}
use Rattle.binary32.proofs.Told.{told}
use Rattle.binary32.proofs.Gives.{gives_is}
use Rattle.binary32.proofs.Judge.{zero_given}
use Rattle.filed.specs.Filed.{datum_of, kind_of, bits_of, low_first, record_of, bits_at, fitting, datum_at, record_at, taken_of}
use Rattle.filed.specs.Meaning.{IsRecord, Begins, Says, Judges, Bytes, Exact}
use Rattle.filed.specs.declared.Record.{Record}
use Rattle.filed.specs.declared.Refusal.{Refusal}
use Rattle.filed.specs.declared.Refusal.TheVariants as refusal
use Rattle.filed.proofs.Bytes.{eight, eight_is, whole_bits, split_bits, narrow, kind_most, fits, datum_again}

-- ---- reading back

-- the tests before the last, of a kind, places and no filler
pub passes : (kind places b : ℕ) → kind ≤ 3 → places ≤ 4 → b < 2 ^ 32 → taken_of (kind ∷ places ∷ 0 ∷ 0 ∷ low_first b) ≡ record_at kind places b
unfolding taken_of
passes kind places b k p h =
    rw (le-ltb 3 kind k, le-ltb 4 places p, whole_bits b h)

pub back : (places : ℕ) (shown : Reading) → places ≤ 4 → displayable shown ≡ true
    → taken_of (record_of places (datum_of places shown)) ≡ Ok (record { places = places; datum = datum_of places shown })
unfolding record_of record_at
back places shown p h =
    let x = datum_of places shown in
    passes (kind_of x) places (bits_of x) (kind_most places p shown) p (narrow places p shown h)
    ∙ rw (fits places p shown h, datum_again places p shown h)

-- ---- a record tells its reading

-- what stands at each place of a record
record Parts (s : List ℕ) (r : IsRecord s) : Type 0 where
  kind : get_or s 0 0 ≡ kind_of (datum_of r.places r.shown)
  places : get_or s 1 0 ≡ r.places
  filler : get_or s 2 0 ≡ 0
  filler_2 : get_or s 3 0 ≡ 0
  whole : bits_at s ≡ bits_of (datum_of r.places r.shown)
  long : length s ≡ 8

parts : (s : List ℕ) (r : IsRecord s) → Parts s r
unfolding record_of
parts s r =
    let t = r.text in
    record {
      kind = ap (λ (l : List ℕ). get_or l 0 0) t;
      places = ap (λ (l : List ℕ). get_or l 1 0) t;
      filler = ap (λ (l : List ℕ). get_or l 2 0) t;
      filler_2 = ap (λ (l : List ℕ). get_or l 3 0) t;
      whole = ap bits_at t ∙ whole_bits (bits_of (datum_of r.places r.shown)) (narrow r.places r.few r.shown r.displayed);
      long = ap length t;
    }

-- the reading of which a kind and bits can be
abbrev reading_at : ℕ → ℕ → ℕ → Reading
reading_at places kind b =
    cond (eqb kind 0) (reading.Number (cond (eqb b 0) (pos 0) (display_of places b)))
    (cond (eqb kind 1) reading.Over (cond (eqb kind 2) reading.Under reading.Nothing))

display_again : (places : ℕ) (z : ℤ) → places ≤ 4 → in_display z ≡ true → cond (eqb (bits places z) 0) (pos 0) (display_of places (bits places z)) ≡ z
display_again places z p h = go (eqb (bits places z) 0) refl
  where
    t : Told places z
    t = told places p z h

    some : eqb (bits places z) 0 ≡ false → (n : ℕ) → nat_abs z ≡ n → 1 ≤ nat_abs z
    some e zero is = absurd (eqb-false (bits places z) 0 e (t.zero is))
    some e (suc n) is = omega arith

    go : (b : Bool) → eqb (bits places z) 0 ≡ b → cond b (pos 0) (display_of places (bits places z)) ≡ z
    go true e = t.only (pos 0) refl ((told places p (pos 0) refl).zero refl ∙ sym (eqb-true (bits places z) 0 e))
    go false e = t.tells (some e (nat_abs z) refl)

reading_again : (places : ℕ) (shown : Reading) → places ≤ 4 → displayable shown ≡ true
    → reading_at places (kind_of (datum_of places shown)) (bits_of (datum_of places shown)) ≡ shown
unfolding displayable bits
reading_again places reading.Nothing p h = refl
reading_again places reading.Under p h = refl
reading_again places (reading.Number z) p h = ap reading.Number (display_again places z p h)
reading_again places reading.Over p h = refl

-- so it is read off the bytes
reading_is : (s : List ℕ) (r : IsRecord s) → r.shown ≡ reading_at (get_or s 1 0) (get_or s 0 0) (bits_at s)
reading_is s r =
    let q = parts s r in
    sym (reading_again r.places r.shown r.few r.displayed) ∙ rw (q.kind, q.places, q.whole)

tells : (s : List ℕ) (r q : IsRecord s) → (r.places ≡ q.places) × (r.shown ≡ q.shown)
tells s r q = (sym (parts s r).places ∙ (parts s q).places, reading_is s r ∙ sym (reading_is s q))

-- ---- how far bytes begin as a record does

-- a reading whose record has a kind and bits
record Held (places kind b : ℕ) : Type 0 where
  shown : Reading
  displayed : displayable shown ≡ true
  kind_is : kind_of (datum_of places shown) ≡ kind
  bits_are : bits_of (datum_of places shown) ≡ b

-- where the bits fit their kind there is one
held : (places kind b : ℕ) → kind ≤ 3 → fitting kind places b ≡ true → Held places kind b
unfolding displayable bits
held places zero b k f =
    let g = gives_is places b f in
    record { shown = reading.Number g.display; displayed = g.shown; kind_is = refl; bits_are = g.same }
held places (suc zero) b k f = record { shown = reading.Over; displayed = refl; kind_is = refl; bits_are = sym (eqb-true b 0 f) }
held places (suc (suc zero)) b k f = record { shown = reading.Under; displayed = refl; kind_is = refl; bits_are = sym (eqb-true b 0 f) }
held places (suc (suc (suc zero))) b k f = record { shown = reading.Nothing; displayed = refl; kind_is = refl; bits_are = sym (eqb-true b 0 f) }
held places (suc (suc (suc (suc kind)))) b k f = absurd (omega arith)

-- the record of a reading
record_of_lem : (places : ℕ) (shown : Reading) → places ≤ 4 → displayable shown ≡ true → IsRecord (record_of places (datum_of places shown))
record_of_lem places shown p h = record { shown = shown; places = places; few = p; displayed = h; text = refl }

-- a value's bits are 0 with any places, where the display is; so there is a record of every kind and all places
zero_fits : (places kind : ℕ) → places ≤ 4 → fitting kind places 0 ≡ true
zero_fits places zero p = zero_given places p
zero_fits places (suc kind) p = rw (ne_eqb (suc kind) 0 (λ e. omega arith))

-- bytes of which so many are those of a record of zero or of a mark
begun : (count kind places : ℕ) (s : List ℕ) → kind ≤ 3 → places ≤ 4 → length s ≡ 8 → take count (eight kind places 0 0 0 0 0 0) ≡ take count s → Begins count s
unfolding record_of
begun count kind places s k p l alike =
    let r = held places kind 0 k (zero_fits places kind p) in
    let e : record_of places (datum_of places r.shown) ≡ eight kind places 0 0 0 0 0 0 = rw (r.kind_is, r.bits_are) in
    record {
      other = record_of places (datum_of places r.shown);
      is = record_of_lem places r.shown p r.displayed;
      long = sym l;
      alike = ap (take count) e ∙ alike;
    }

-- what bytes have that begin as a record does
module _ (count : ℕ) (s : List ℕ) (x : Begins count s) where
  begins_long : length s ≡ 8
  begins_long = sym x.long ∙ (parts x.other x.is).long

  same_at : (i : ℕ) → i < count → get_or s i 0 ≡ get_or x.other i 0
  same_at i h = sym (get_or-take count s i 0 h) ∙ ap (λ (l : List ℕ). get_or l i 0) (sym x.alike) ∙ get_or-take count x.other i 0 h

  begins_kind : 1 ≤ count → get_or s 0 0 ≤ 3
  begins_kind h =
      omega (arith, same_at 0 h, (parts x.other x.is).kind, kind_most x.is.places x.is.few x.is.shown)

  begins_places : 4 ≤ count → (get_or s 1 0 ≤ 4) × (get_or s 2 0 ≡ 0) × (get_or s 3 0 ≡ 0)
  begins_places h =
      let q = parts x.other x.is in (
        omega (arith, same_at 1 (omega arith), q.places, x.is.few),
        same_at 2 (omega arith) ∙ q.filler,
        same_at 3 (omega arith) ∙ q.filler_2,
      )

  begins_record : 8 ≤ count → IsRecord s
  begins_record h =
      subst IsRecord
      (sym (take_all count x.other (omega (arith, x.long, begins_long))) ∙ x.alike ∙ take_all count s (omega (arith, begins_long)))
      x.is

-- bytes that begin so far begin less far too
begins_less : (m n : ℕ) (s : List ℕ) → m ≤ n → Begins n s → Begins m s
begins_less m n s h x =
    record {
      other = x.other;
      is = x.is;
      long = x.long;
      alike = sym (take-take m n x.other h) ∙ ap (take m) x.alike ∙ take-take m n s h;
    }

-- ---- the answer of eight bytes judges them

module _ (s : List ℕ) (l : length s ≡ 8) (small : Bytes s) where
  abbrev kind : ℕ
  kind = get_or s 0 0

  abbrev places : ℕ
  places = get_or s 1 0

  -- with bits that fit their kind they are a record
  says : kind ≤ 3 → places ≤ 4 → get_or s 2 0 ≡ 0 → get_or s 3 0 ≡ 0 → fitting kind places (bits_at s) ≡ true → Says s (record { places = places; datum = datum_at kind (bits_at s) })
  unfolding record_of
  says k p x y f =
      let r = held places kind (bits_at s) k f in
      let four = split_bits (get_or s 4 0) (get_or s 5 0) (get_or s 6 0) (get_or s 7 0) (small 4) (small 5) (small 6) (small 7) in
      record {
        is =
            record {
              shown = r.shown;
              places = places;
              few = p;
              displayed = r.displayed;
              text = eight_is s l ∙ rw (x, y, r.kind_is, r.bits_are, four);
            };
        places = refl;
        datum = ap₂ datum_at (sym r.kind_is) (sym r.bits_are) ∙ datum_again places p r.shown r.displayed;
      }

  -- with bits that do not fit they are none
  no_record : fitting kind places (bits_at s) ≡ false → Begins 8 s → ⊥
  no_record f x =
      let r = begins_record 8 s x (lit≤ tt) in
      let q = parts s r in
      let t : fitting kind places (bits_at s) ≡ true = rw (q.kind, q.places, q.whole) (fits r.places r.few r.shown r.displayed) in
      never (sym f ∙ t)

  judges_bits : kind ≤ 3 → places ≤ 4 → get_or s 2 0 ≡ 0 → get_or s 3 0 ≡ 0 → (t : Bool) → fitting kind places (bits_at s) ≡ t
      → Judges s (cond t (Ok (record { places = places; datum = datum_at kind (bits_at s) })) (Err refusal.Value))
  judges_bits k p x y true f = says k p x y f
  judges_bits k p x y false f =
      let alike : take 4 s ≡ take 4 (eight kind places 0 0 0 0 0 0) = ap (take 4) (eight_is s l) ∙ rw (x, y) in
      (begun 4 kind places s k p l (sym alike), no_record f)

  begins_1 : kind ≤ 3 → Begins 1 s
  begins_1 k = begun 1 kind 0 s k (lit≤ tt) l (sym (ap (take 1) (eight_is s l)))

  judges_places : kind ≤ 3 → (x y z : Bool) → eqb (get_or s 2 0) 0 ≡ x → eqb (get_or s 3 0) 0 ≡ y → ltb 4 places ≡ z
      → Judges s (cond ((not x || not y) || z) (Err refusal.Places) (record_at kind places (bits_at s)))
  unfolding record_at
  judges_places k true true false x y z =
      judges_bits k (ltb-false 4 places z) (eqb-true (get_or s 2 0) 0 x) (eqb-true (get_or s 3 0) 0 y) (fitting kind places (bits_at s)) refl
  judges_places k true true true x y z = (begins_1 k, λ b. omega (arith, (begins_places 4 s b (lit≤ tt)).0, ltb-true 4 places z))
  judges_places k true false t x y z = (begins_1 k, λ b. eqb-false (get_or s 3 0) 0 y (begins_places 4 s b (lit≤ tt)).2)
  judges_places k false u t x y z = (begins_1 k, λ b. eqb-false (get_or s 2 0) 0 x (begins_places 4 s b (lit≤ tt)).1)

  judges_kind : (t : Bool) → ltb 3 kind ≡ t
      → Judges s
      (cond t (Err refusal.Kind)
      (cond ((not (eqb (get_or s 2 0) 0) || not (eqb (get_or s 3 0) 0)) || ltb 4 places) (Err refusal.Places)
      (record_at kind places (bits_at s))))
  judges_kind true e = (begun 0 0 0 s (lit≤ tt) (lit≤ tt) l refl, λ b. omega (arith, begins_kind 1 s b (lit≤ tt), ltb-true 3 kind e))
  judges_kind false e = judges_places (ltb-false 3 kind e) (eqb (get_or s 2 0) 0) (eqb (get_or s 3 0) 0) (ltb 4 places) refl refl refl

judges : (s : List ℕ) → Bytes s → Judges s (taken_of s)
unfolding taken_of
judges s small = go (eqb (length s) 8) refl
  where
    go : (t : Bool) → eqb (length s) 8 ≡ t
        → Judges s
        (cond (not t) (Err refusal.Length)
        (cond (ltb 3 (get_or s 0 0)) (Err refusal.Kind)
        (cond ((not (eqb (get_or s 2 0) 0) || not (eqb (get_or s 3 0) 0)) || ltb 4 (get_or s 1 0)) (Err refusal.Places)
        (record_at (get_or s 0 0) (get_or s 1 0) (bits_at s)))))
    go true e = judges_kind s (eqb-true (length s) 8 e) small (ltb 3 (get_or s 0 0)) refl
    go false e = λ b. eqb-false (length s) 8 e (begins_long 0 s b)

-- ---- and no other answer does

-- how far the bytes come as a record does, by the answer: 0 for another length, then the kind, the places and the bits, and 4 for a record
abbrev rank : Result Record Refusal → ℕ
rank (Err refusal.Length) = 0
rank (Err refusal.Kind) = 1
rank (Err refusal.Places) = 2
rank (Err refusal.Value) = 3
rank (Ok x) = 4

abbrev Reaches : List ℕ → ℕ → Type 0
Reaches s zero = Unit
Reaches s (suc zero) = Begins 0 s
Reaches s (suc (suc zero)) = Begins 1 s
Reaches s (suc (suc (suc zero))) = Begins 4 s
Reaches s (suc (suc (suc (suc zero)))) = Begins 8 s
Reaches s (suc (suc (suc (suc (suc n))))) = ⊥

-- what reaches so far reaches less far
reaches_less : (s : List ℕ) (n : ℕ) → Reaches s (suc n) → Reaches s n
reaches_less s zero x = tt
reaches_less s (suc zero) x = begins_less 0 1 s (lit≤ tt) x
reaches_less s (suc (suc zero)) x = begins_less 1 4 s (lit≤ tt) x
reaches_less s (suc (suc (suc zero))) x = begins_less 4 8 s (lit≤ tt) x
reaches_less s (suc (suc (suc (suc n)))) x = absurd x

reaches_any : (s : List ℕ) (k n : ℕ) → Reaches s (n + k) → Reaches s n
reaches_any s zero n x = subst (Reaches s) (add-zero n) x
reaches_any s (suc k) n x =
    let e : n + suc k ≡ suc n + k = omega arith in
    reaches_less s n (reaches_any s k (suc n) (subst (Reaches s) e x))

-- an answer that judges the bytes says just how far they come
reached : (s : List ℕ) (r : Result Record Refusal) → Judges s r → Reaches s (rank r)
reached s (Err refusal.Length) j = tt
reached s (Err refusal.Kind) j = j.0
reached s (Err refusal.Places) j = j.0
reached s (Err refusal.Value) j = j.0
reached s (Ok x) j =
    record { other = s; is = j.is; long = refl; alike = refl }

no_further : (s : List ℕ) (r : Result Record Refusal) → Judges s r → Reaches s (suc (rank r)) → ⊥
no_further s (Err refusal.Length) j x = j x
no_further s (Err refusal.Kind) j x = j.1 x
no_further s (Err refusal.Places) j x = j.1 x
no_further s (Err refusal.Value) j x = j.1 x
no_further s (Ok y) j x = x

not_below : (s : List ℕ) (r q : Result Record Refusal) → Judges s r → Judges s q → rank q ≤ rank r
not_below s r q j k =
    le_of_suc-le-suc (lt_of_not-le (λ (h : rank r < rank q).
    let e : rank q ≡ suc (rank r) + (rank q - suc (rank r)) = omega arith in
    no_further s r j (reaches_any s (rank q - suc (rank r)) (suc (rank r)) (subst (Reaches s) e (reached s q k)))))

-- the refusal of each rank
abbrev refusal_at : ℕ → Result Record Refusal
refusal_at n =
    Err (cond (eqb n 0) refusal.Length (cond (eqb n 1) refusal.Kind (cond (eqb n 2) refusal.Places refusal.Value)))

at_rank : (why : Refusal) → Err why ≡ refusal_at (rank (Err why))
at_rank refusal.Length = refl
at_rank refusal.Kind = refl
at_rank refusal.Places = refl
at_rank refusal.Value = refl

refused_below : (why : Refusal) → rank (Err why) < 4
refused_below refusal.Length = lit< tt
refused_below refusal.Kind = lit< tt
refused_below refusal.Places = lit< tt
refused_below refusal.Value = lit< tt

same_record : (x y : Record) → x.places ≡ y.places → x.datum ≡ y.datum → x ≡ y
same_record x y p d = λ i. record { places = p i; datum = d i }

agree : (s : List ℕ) (r q : Result Record Refusal) → Judges s r → Judges s q → rank r ≡ rank q → r ≡ q
agree s (Err v) (Err w) j k e = at_rank v ∙ ap refusal_at e ∙ sym (at_rank w)
agree s (Err v) (Ok y) j k e = absurd (omega (arith, refused_below v))
agree s (Ok x) (Err w) j k e = absurd (omega (arith, refused_below w))
agree s (Ok x) (Ok y) j k e =
    let t = tells s j.is k.is in
    ap Ok
    (same_record x y (j.places ∙ t.0 ∙ sym k.places)
    (j.datum ∙ ap₂ datum_of t.0 t.1 ∙ sym k.datum))

only : (s : List ℕ) (answer : Result Record Refusal) → Bytes s → Judges s answer → answer ≡ taken_of s
only s answer small j =
    let k = judges s small in
    agree s answer (taken_of s) j k (le_antisymm (not_below s (taken_of s) answer k j) (not_below s answer (taken_of s) j k))

-- ---- and writing what is read gives the bytes again

again : (s : List ℕ) (x : Record) → Bytes s → taken_of s ≡ Ok x → record_of x.places x.datum ≡ s
again s x small e =
    let j : Says s x = subst (Judges s) e (judges s small) in
    ap₂ record_of j.places j.datum ∙ sym j.is.text

pub exact : Exact
exact = record { back = back; judges = judges; only = only; tells = tells; again = again }
