-- Where the kept list grows, and where it stays as it was.
use mathlib.Core.Path.{◌≡◌, refl, ap}
use mathlib.Core.Bool.{false}
use mathlib.Core.Option.{Option}
use Prim.Native.Nat.{ℕ}
use native.Mathlib.Omega.{arith}
use lib.IntN.{pos}
use Rattle.exact.proofs.Z.{eq_z_false}
use Rattle.config.specs.declared.Config.{Config}
use Rattle.form.specs.Change.{change}
use Rattle.form.proofs.Permitted.{changes}
use Rattle.looking.specs.History.{History, node_of, half}
use Rattle.looking.specs.Kept.{Entry, add, kept}
use Rattle.looking.specs.Sent.{read, print}
use Rattle.looking.specs.Pinned.{Stays, Pinned}
use Rattle.looking.proofs.Ends.{not_ends, drop_not_ends, drop_ending}
use Rattle.looking.proofs.Whole.{half_none, kept_none}
use Rattle.looking.proofs.NoChange.{no_change, read_changes_not, silent_changes_not, no_digit_changes_not, other_changes_not, keeps_idle}

module _ (c : Config) (h : History) where
  -- nothing is kept of a string that is no V or R to this meter
  stays : (b : ℕ) → change (node_of c) (half h) ≡ false → Stays c h b
  stays b e place buffer = ap (λ (o : Option Entry). add o (kept c h)) (keeps_idle c (half h) b place buffer e)

  pub pinned : Pinned c h
  pinned =
      record {
        at_sample = λ x. refl;
        at_key = λ k place buffer n. rw (eq_z_false k (pos 6) n);
        at_change = λ b place buffer e x. rw (e, (changes (half h) (node_of c)).1 x);
        at_print_key = λ place buffer. refl;
        at_part = λ b e place buffer. kept_none c b place buffer h (not_ends b e);
        at_drop = λ b e place buffer. kept_none c b place buffer h (drop_not_ends b e);
        dropped = λ b place buffer e. half_none b place buffer h (drop_ending b e);
        at_read = λ b n r x. stays b (read_changes_not (node_of c) (half h) (read x));
        at_print = λ b n x. stays b (read_changes_not (node_of c) (half h) (print x));
        at_bad_form = λ b x. stays b (silent_changes_not (node_of c) (half h) x);
        at_no_digit = λ b x. stays b (no_digit_changes_not (node_of c) (half h) x);
        at_other_node = λ b n e d. stays b (other_changes_not (node_of c) (half h) n e d);
        at_too_long = λ b l. stays b (no_change (node_of c) (half h) (λ y. omega (arith, y.short)));
      }
