-- `meter::Meter::byte` meets its contract: a meter that a string's end is let into has what strings lean on. Assumes nothing.
use Rattle.std.proofs.Common.{rules, ◌≡◌, true, sym, ◌∙◌, inl, inr}
use Rattle.meter.proofs.Started.{passed}
use Rattle.meter.proofs.Meter.byte.Goals as goal
use Rattle.meter.proofs.Meter.byte.Goals.{in-End, in-Part}

pub end-settled-requires : goal.end-settled-requires
end-settled-requires c =
    let holds : c.match-kind.is_open ≡ true = search rules in
    elim c.match-kind.branch [
      | in-End w ↦ (passed c.args.self _ w.is_sound-is_open.ensures (sym w.is_open-is ∙ holds)).able
      | in-Part w ↦ let end = c.in-End-kind.is in absurd (elim w.in-Part.is [ inl part ↦ cc | inr drop ↦ cc ])
    ]
