-- Demand 3 for one accepted configuration, sentence by sentence.
use mathlib.Core.Path.{◌≡◌, refl, subst}
use Prim.Native.Nat.{◌≤◌}
use Rattle.exact.proofs.Z.{from_to}
use Rattle.config.specs.Config.{judged}
use Rattle.config.proofs.Acceptance.{node_in}
use Rattle.config.specs.declared.Config.{Config}
use Rattle.config.specs.Verdict.{Accepted}
use Rattle.instrument.specs.declared.Instrument.{Instrument}
use Rattle.looking.specs.History.{node_of}
use Rattle.looking.specs.Looking.{Alike, Looking}
use Rattle.looking.proofs.State.{holds, same_instrument}
use Rattle.looking.proofs.Replay.{replay_keeps, replayed}
use Rattle.looking.proofs.Replies.{same_reply, same_print}
use Rattle.looking.proofs.Strangers.{coming_in, dropping, other_node, only_ours}
use Rattle.looking.proofs.Asking.{t_reads, p_reads}
use Rattle.looking.proofs.Unmoved.{unmoved}

alike_self : (c : Config) (i : Instrument) → Alike c i i
alike_self c i =
    record {
      reading = refl;
      total = refl;
      sum = refl;
      range = refl;
      max = refl;
      max_run = refl;
      min = refl;
      min_run = refl;
      setpoint = λ k h. refl;
      alarm_state = λ k h. refl;
      delay_run = λ k h. refl;
      analog_code = refl;
      mode = refl;
      manual_outputs = refl;
      status = refl;
    }

node_99 : (c : Config) → judged c ≡ Accepted → node_of c ≤ 99
node_99 c accepted = (from_to c.talking.node 0 99 (node_in c accepted)).1.1

pub looking : (c : Config) → judged c ≡ Accepted → Looking c
looking c accepted =
    record {
      holds = holds c accepted;
      alike = λ h₁ h₂ e. subst (Alike c _) (same_instrument c accepted h₁ h₂ e) (alike_self c _);
      replayed = replayed c accepted;
      kept_again = replay_keeps c;
      t_reads = λ r h. t_reads (node_of c) (node_99 c accepted) r h;
      p_reads = p_reads (node_of c) (node_99 c accepted);
      same_reply = same_reply c accepted;
      same_print = same_print c accepted;
      coming_in = coming_in c accepted;
      dropping = dropping c accepted;
      other_node = other_node c accepted;
      only_ours = only_ours c accepted;
      unmoved = unmoved c accepted;
    }
