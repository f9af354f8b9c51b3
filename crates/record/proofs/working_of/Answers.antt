-- Each alarm is what its six words say.
use Rattle.std.proofs.Common.{◌≡◌, refl, ℕ, ◌+◌, ◌*◌, [], ◌∷◌, w32, to_z, of_z, rules}
use Rattle.record.specs.Configuration.{number, alarm_of}
use Rattle.record.proofs.Settings.{tabled, drawn}
use Rattle.record.proofs.working_of.Goals as goal

pub returns : goal.returns
unfolding tabled
returns c =
    let s = c.args.s.now in
    let items = c.from_fn.ensures.items in
    let alarms : c.from_fn.result ≡ alarm_of s 40 ∷ alarm_of s 46 ∷ alarm_of s 52 ∷ alarm_of s 58 ∷ [] =
    drawn _ (λ p. p.0.now ≡ s) (λ (k : ℕ). alarm_of s (40 + 6 * k)) 4 (λ p q i y h k w. (search rules, search rules)) _ c.from_fn.result 0 4 items.long refl refl items.each in
    let capture : to_z w32 (of_z w32 (number s 64)) ≡ number s 64 = search rules in
    let low : to_z w32 (of_z w32 (number s 65)) ≡ number s 65 = search rules in
    let high : to_z w32 (of_z w32 (number s 66)) ≡ number s 66 = search rules in
    rw (alarms, capture, low, high, c.totalizer_of.ensures)
