-- The bytes of a record, one by one. Assumes nothing.
use mathlib.Core.Path.{◌≡◌, refl, sym, ap, ◌∙◌}
use mathlib.Core.Bool.{true}
use mathlib.Core.List.{List, [], ◌∷◌}
use Prim.Native.Nat.{ℕ, zero, suc, ◌+◌, ◌*◌, ◌/◌, ◌%◌, ◌^◌, ◌≤◌, ◌<◌}
use native.Mathlib.Nat.{div-div-eq-div-mul, div-add-mod', mod-eq_of_lt}
use native.Mathlib.Omega.{arith}
use lib.Dec.{lit<}
use lib.ListN.{length, drop, get_or}
use lib.Seq.{drop-cons, drop-length}
use Rattle.reading.specs.Reading.{displayable}
use Rattle.reading.specs.declared.Reading.{Reading}
use Rattle.reading.specs.declared.Reading.TheVariants as reading
use Rattle.binary32.specs.Binary32.{bits}
use Rattle.binary32.proofs.Told.{told}
use Rattle.binary32.proofs.Gives.{given_gives}
use Rattle.filed.specs.Filed.{datum_of, kind_of, bits_of, low_first, fitting, datum_at}
use Rattle.filed.specs.declared.Datum.TheVariants.{Value}

-- ---- eight bytes

abbrev pub eight : (a b c d e f g h : ℕ) → List ℕ
eight a b c d e f g h = a ∷ b ∷ c ∷ d ∷ e ∷ f ∷ g ∷ h ∷ []

-- the n elements of a list from place i on
abbrev elements : List ℕ → ℕ → ℕ → List ℕ
elements s i zero = []
elements s i (suc n) = get_or s i 0 ∷ elements s (suc i) n

listed : (n i : ℕ) (s : List ℕ) → length s ≡ i + n → drop i s ≡ elements s i n
listed zero i s e =
    let all : i ≡ length s = omega arith in
    ap (λ (k : ℕ). drop k s) all ∙ drop-length s
listed (suc n) i s e = drop-cons s i 0 (omega arith) ∙ ap (◌∷◌ (get_or s i 0)) (listed n (suc i) s (omega arith))

-- what a list of eight is made of
pub eight_is : (s : List ℕ) → length s ≡ 8
    → s ≡ eight (get_or s 0 0) (get_or s 1 0) (get_or s 2 0) (get_or s 3 0) (get_or s 4 0) (get_or s 5 0) (get_or s 6 0) (get_or s 7 0)
eight_is s l = listed 8 0 s l

-- ---- four bytes and their number, by quotients by 256 one after another

by_256 : (b : ℕ) → (b / 256 ^ 2 ≡ b / 256 / 256) × (b / 256 ^ 3 ≡ b / 256 / 256 / 256)
by_256 b = (
  sym (div-div-eq-div-mul b 256 256),
  sym (ap (λ (x : ℕ). x / 256) (div-div-eq-div-mul b 256 256) ∙ div-div-eq-div-mul b (256 ^ 2) 256),
)

pub whole_bits : (b : ℕ) → b < 2 ^ 32 → b % 256 + 256 * (b / 256 % 256) + 256 ^ 2 * (b / 256 ^ 2 % 256) + 256 ^ 3 * (b / 256 ^ 3 % 256) ≡ b
whole_bits b h =
    let q = by_256 b in
    let zero = div-add-mod' b 256 in
    let one = div-add-mod' (b / 256) 256 in
    let two = div-add-mod' (b / 256 / 256) 256 in
    let last : b / 256 / 256 / 256 < 256 = omega arith in
    rw (q.0, q.1) (omega (arith, mod-eq_of_lt last))

pub split_bits : (e f g h : ℕ) → e < 256 → f < 256 → g < 256 → h < 256 → low_first (e + 256 * f + 256 ^ 2 * g + 256 ^ 3 * h) ≡ e ∷ f ∷ g ∷ h ∷ []
split_bits e f g h p q r s =
    let n = e + 256 * f + 256 ^ 2 * g + 256 ^ 3 * h in
    let k = by_256 n in
    let one : n / 256 ≡ f + 256 * g + 256 ^ 2 * h = omega arith in
    let two : n / 256 / 256 ≡ g + 256 * h = rw one (omega arith) in
    let three : n / 256 / 256 / 256 ≡ h = rw two (omega arith) in
    let x : n % 256 ≡ e = omega arith in
    let y : n / 256 % 256 ≡ f = rw one (omega arith) in
    let z : n / 256 ^ 2 % 256 ≡ g = rw (k.0, two) (omega arith) in
    let w : n / 256 ^ 3 % 256 ≡ h = rw (k.1, three) (omega arith) in
    rw (x, y, z, w)

-- ---- what the bytes of a reading's record are

module _ (places : ℕ) (p : places ≤ 4) where
  -- the bits of a datum fit 32 bits
  pub narrow : (shown : Reading) → displayable shown ≡ true → bits_of (datum_of places shown) < 2 ^ 32
  unfolding displayable bits
  narrow reading.Nothing h = lit< tt
  narrow reading.Under h = lit< tt
  narrow (reading.Number z) h = (told places p z h).narrow
  narrow reading.Over h = lit< tt

  pub kind_most : (shown : Reading) → kind_of (datum_of places shown) ≤ 3
  kind_most reading.Nothing = omega arith
  kind_most reading.Under = omega arith
  kind_most (reading.Number z) = omega arith
  kind_most reading.Over = omega arith

  -- they fit their kind, and the datum is read of them again
  pub fits : (shown : Reading) → displayable shown ≡ true → fitting (kind_of (datum_of places shown)) places (bits_of (datum_of places shown)) ≡ true
  unfolding displayable bits
  fits reading.Nothing h = refl
  fits reading.Under h = refl
  fits (reading.Number z) h = rw (given_gives places (bits places z) (record { display = z; shown = h; same = refl }))
  fits reading.Over h = refl

  pub datum_again : (shown : Reading) → displayable shown ≡ true → datum_at (kind_of (datum_of places shown)) (bits_of (datum_of places shown)) ≡ datum_of places shown
  unfolding displayable bits
  datum_again reading.Nothing h = refl
  datum_again reading.Under h = refl
  datum_again (reading.Number z) h = ap Value (told places p z h).stands
  datum_again reading.Over h = refl
