-- A sample is read by what the meter holds, and so as its configuration says. Assumes nothing.
use mathlib.Core.Path.{◌≡◌, ap}
use mathlib.Core.List.{◌∷◌}
use Rattle.config.specs.Config.{judged}
use Rattle.config.specs.declared.Config.{Config}
use Rattle.config.specs.Verdict.{Accepted}
use Rattle.instrument.specs.declared.Instrument.{Instrument}
use Rattle.looking.specs.History.{sample}
use Rattle.looking.specs.Sampled.{ReadAsConfigured}
use Rattle.looking.proofs.State.{holds}

pub read_as_configured : (c : Config) → judged c ≡ Accepted → ReadAsConfigured c
read_as_configured c accepted h x = ap (λ (i : Instrument). i.measured.reading) (holds c accepted (sample x ∷ h))
