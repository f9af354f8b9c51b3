-- `historian_line::put_read` meets its contract: the bytes that the text says are read. Assumes nothing.
use Rattle.std.proofs.Common.{◌≡◌, ◌≤◌, List, ℕ, length, take, Some, sym, ap, ◌∙◌, subst, length-take-le}
use Rattle.filed.specs.Filed.{has_bits_in, taken_of}
use Rattle.text.proofs.Pieces.{alike}
use Rattle.hexadecimal.specs.Hex.{hexed}
use Rattle.historian_line.specs.Line.{taken_line}
use Rattle.historian_line.proofs.Texts.{fits_in, said_first, read_known, read_unknown, shows}
use Rattle.historian_line.proofs.put_read.Goals as goal
use Rattle.historian_line.proofs.put_read.Goals.{In-Some}

-- so many bytes are said
says : (c : In-Some) → Some c.in-Some.n ≡ hexed c.args.s.now
says c = sym c.in-Some.is ∙ c.read_hex.ensures.value

inside : (c : In-Some) → c.in-Some.n ≤ length c.read_hex.new.bytes
inside c = subst (λ (l : List ℕ). c.in-Some.n ≤ length l) (sym c.read_hex.ensures.bytes_after) (fits_in c.args.s.now c.in-Some.n (says c) _)

pub slice_bounds-bytes-end : goal.slice_bounds-bytes-end
slice_bounds-bytes-end c = inside (goal.at.slice_bounds-bytes-end c).In-Some

pub slice_bounds-read-end : goal.slice_bounds-read-end
slice_bounds-read-end c = sym (length-take-le _ _ (inside (goal.at.slice_bounds-read-end c).In-Some))

pub put_taken-requires : goal.put_taken-requires
put_taken-requires c = ap has_bits_in c.read.ensures ∙ shows _

pub returns-in-Some : goal.returns-in-Some
returns-in-Some c =
    let s = c.args.s.now in
    let n = c.in-Some.n in
    let e = says (goal.at.returns-in-Some c).In-Some in
    alike _ _ _ _
    (ap taken_line
    (c.read.ensures
    ∙ ap (λ (l : List ℕ). taken_of (take n l)) c.read_hex.ensures.bytes_after
    ∙ ap taken_of (said_first s n e _))
    ∙ read_known s n e)
    c.put_taken.ensures

pub returns-in-None : goal.returns-in-None
returns-in-None c = alike _ _ _ _ (read_unknown c.args.s.now (sym c.in-None.is ∙ c.read_hex.ensures.value)) c.put_unknown.ensures
