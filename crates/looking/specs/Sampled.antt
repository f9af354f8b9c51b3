-- The reading of a sample, after any history: the one by the source of the configuration, though the meter holds segments.
use Rattle.std.specs.Prelude.{◌≡◌, ◌∷◌, ℤ}
use Rattle.config.specs.declared.Config.{Config}
use Rattle.instrument.specs.Instrument.{read}
use Rattle.looking.specs.History.{sample, History, meter_after}

abbrev pub ReadAsConfigured : Config → Type 0
ReadAsConfigured c = (h : History) (x : ℤ) → (meter_after c (sample x ∷ h)).instrument.measured.reading ≡ read c.scale x
