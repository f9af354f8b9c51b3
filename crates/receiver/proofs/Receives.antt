-- A receiver hears every byte since a string's beginning, and means nothing else.
use mathlib.Core.Path.{◌≡◌, sym, ap, ◌∙◌}
use mathlib.Core.Bool.{true}
use Prim.Native.Nat.{ℕ}
use lib.ListN.{length, take}
use Rattle.receiver.specs.Receiver.{Heard, too_long, limit, over, kind, next, heard}
use Rattle.receiver.specs.Since.{Receives}
use Rattle.receiver.specs.declared.Receiver.{Receiver}
use Rattle.receiver.proofs.Hearing.{onward, next_heard, hears}
use Rattle.receiver.proofs.Beginning.{begun, only}

by_view : (r q : Receiver) (b : ℕ) → length r.bytes ≡ limit → length q.bytes ≡ limit → heard r ≡ heard q → heard (next r b) ≡ heard (next q b)
by_view r q b h k e = next_heard r b h ∙ ap (λ (x : Heard). onward (kind b) x b) e ∙ sym (next_heard q b k)

by_string : (r q : Receiver) → r.length ≡ q.length → take r.length r.bytes ≡ take r.length q.bytes → heard r ≡ heard q
unfolding heard
by_string r q e k = rw (k, e)

one_state : (r : Receiver) → over r.length ≡ true → heard r ≡ too_long
unfolding heard
one_state r e = rw e

pub receives : Receives
receives = record { hears = hears; begun = begun; only = only; by_view = by_view; by_string = by_string; one_state = one_state }
