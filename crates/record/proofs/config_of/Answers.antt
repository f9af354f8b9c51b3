-- Each part is what the words at its places say.
use Rattle.std.proofs.Common.{◌≡◌, refl, ℕ, ◌+◌, ◌*◌, [], ◌∷◌, rules}
use Rattle.record.specs.Configuration.{number, config_of}
use Rattle.record.proofs.Settings.{tabled, drawn}
use Rattle.record.proofs.config_of.Goals as goal

pub returns-clause-value : goal.returns-clause-value
unfolding config_of tabled
returns-clause-value c =
    let s = c.args.s.now in
    let items = c.from_fn.ensures.items in
    let setpoints : c.from_fn.result ≡ number s 40 ∷ number s 46 ∷ number s 52 ∷ number s 58 ∷ [] =
    drawn _ (λ p. p.0.now ≡ s) (λ (k : ℕ). number s (40 + 6 * k)) 4 (λ p q i y h k w. (search rules, search rules)) _ c.from_fn.result 0 4 items.long refl refl items.each in
    rw (setpoints, c.scale_of.ensures, c.working_of.ensures, c.talking_of.ensures)
