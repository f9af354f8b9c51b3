-- T of each of the ten registers and P, with a node's two digits in front, are reads for that node.
use mathlib.Core.Path.{refl, subst, ◌∙◌}
use mathlib.Core.List.{List, [], ◌∷◌, ◌++◌}
use Prim.Native.Nat.{ℕ, ◌%◌, ◌≤◌, ◌<◌}
use native.Mathlib.Nat.{div-add-mod, mod-lt}
use native.Mathlib.Omega.{arith}
use Rattle.register.specs.Bytes.{byte as char}
use Rattle.register.specs.Registers.{entry, count}
use Rattle.register.proofs.Ranges.{in_range}
use Rattle.register.proofs.Table.{ruled}
use Rattle.command.specs.declared.Asked.{Asked}
use Rattle.command.specs.declared.Asked.TheVariants.{Read, Print}
use Rattle.form.specs.Grammar as form
use Rattle.form.specs.Grammar.{Address, Body, Says}
use Rattle.looking.specs.Sent.{Reads, read, print, to_node, t_string, p_string}

-- what is asked behind the node's two digits is asked of that node
module _ (n : ℕ) (small : n ≤ 99) where
  address : (rest : List ℕ) → Address n (to_node n) rest
  address rest =
      let whole = div-add-mod n 10 in
      let last : n % 10 < 10 = mod-lt n (omega arith) in
      subst (λ (k : ℕ). Address k (to_node n) rest) whole
      (form.two_digits (record { to_nine = omega arith; is = refl }) (record { to_nine = omega arith; is = refl }))

  asks : (a : Asked) (rest : List ℕ) → Body a rest → Says (to_node n ++ rest) n a
  asks a rest b = record { to = record { part = to_node n; rest = rest; whole = refl; address = address rest }; body = b }

  pub t_reads : (r : ℕ) → r < count → Reads (t_string n r) n (Read r)
  t_reads r h =
      let t = ruled r h in
      read (asks (Read r) (char "T" ∷ (entry r).letter ∷ [])
      (form.read (record { listed = h; letter = refl }) (t.read ∙ in_range (char "A") (char "J") (entry r).letter (omega (arith, t.letter)) (omega (arith, t.letter)))))

  pub p_reads : Reads (p_string n) n Print
  p_reads = print (asks Print (char "P" ∷ []) form.print)
