-- Polls leave the instrument as it was, and an off delay is not lengthened by them: small numbers of polls are computed, any number follows.
use mathlib.Core.Path.{◌≡◌, refl}
use mathlib.Core.List.{List, [], ◌∷◌, ◌++◌, append-nil}
use mathlib.Core.Option.{none, some}
use Prim.Native.Nat.{ℕ, zero, suc}
use lib.IntN.{ℤ}
use lib.Seq.{append_snoc}
use Rattle.config.specs.Config.{judged}
use Rattle.config.specs.declared.Config.{Config}
use Rattle.config.specs.Verdict.{Accepted}
use Rattle.register.specs.Bytes.{byte as char}
use Rattle.receiver.specs.Since.{since, Unbroken, more}
use Rattle.command.specs.declared.Asked.{Asked}
use Rattle.looking.specs.History.{sample, History, node_of, half}
use Rattle.looking.specs.Sent.{sending, Reads}
use Rattle.looking.specs.Inserted.{read, Inserted, power_up, event, begins, part, ended}
use Rattle.looking.specs.Polls.{lent, poll, polls, polled, Unmoved}
use Rattle.looking.proofs.Unmoved.{unmoved}
use Rattle.looking.proofs.Whole.{half_none, short_reads}

module _ (c : Config) (s : List ℕ) (a : Asked) (x : Reads s (node_of c) a) where
  sending_in : {h g : History} (t done : List ℕ) → Unbroken t → Inserted c h g (some done) → Inserted c h (sending 0 lent t g) (some (done ++ t))
  sending_in [] done u i = rw append-nil i
  sending_in {h} (b ∷ t) done (more e u) i = rw (append_snoc done b t) at (sending_in t (done ++ b ∷ []) u (part b 0 lent e i))

  poll_in : {h g : History} → half g ≡ [] → Inserted c h g none → Inserted c h (poll s g) none
  poll_in n i = ended (char "*") 0 lent refl (read a x) (sending_in s [] (short_reads x).unbroken (begins n i))

  poll_half : (g : History) → half (poll s g) ≡ []
  poll_half g = half_none (char "*") 0 lent (sending 0 lent s g) refl

  polls_in : {h g : History} (n : ℕ) → half g ≡ [] → Inserted c h g none → (half (polls s n g) ≡ []) × Inserted c h (polls s n g) none
  polls_in zero e i = (e, i)
  polls_in {h} {g} (suc n) e i = let p = polls_in n e i in (poll_half (polls s n g), poll_in p.0 p.1)

  polled_in : (n : ℕ) (xs : List ℤ) → (half (polled s n xs) ≡ []) × Inserted c (polled s 0 xs) (polled s n xs) none
  unfolding since
  polled_in n [] = (refl, power_up)
  polled_in n (y ∷ xs) = let p = polled_in n xs in polls_in n p.0 (event (sample y) p.1)

pub polls_unmoved : (c : Config) → judged c ≡ Accepted → Unmoved c
polls_unmoved c accepted s a x n xs = unmoved c accepted (polled s 0 xs) (polled s n xs) (polled_in c s a x n xs).1
