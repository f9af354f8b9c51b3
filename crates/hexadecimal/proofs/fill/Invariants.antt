use Rattle.std.proofs.Common.{◌≡◌, ◌*◌, ◌≤◌, length, take, drop}
use Rattle.std.specs.Iterator.Adapters.{enumerate_source, enumerate_count}
use Rattle.std.specs.Slice.Iter.{chunks_exact_rest, chunks_exact_size}
use Rattle.hexadecimal.specs.Hex.{bytes_of, over}
use Rattle.hexadecimal.proofs.fill.Given as goal

abbrev pub invariant-loop-n : goal.invariant-loop-n
invariant-loop-n l =
    let n = enumerate_count l.n-iterator in
    (chunks_exact_size (enumerate_source l.n-iterator) ≡ 2)
    × (chunks_exact_rest (enumerate_source l.n-iterator) ≡ drop (2 * n) l.text)
    × (2 * n ≤ length l.text)
    × (l.bytes ≡ over l.initial.bytes (take n (bytes_of l.text)))
