-- `hexadecimal::all_digits` meets its contract: std's test of every byte is the definition's. Assumes nothing.
use Rattle.std.proofs.Common.{◌≡◌, ◌∙◌, rules, tests}
use Rattle.std.proofs.lemmas.Iterator.{YieldsList-from_slice}
use Rattle.std.proofs.lemmas.Iterator.Search.{all_from_yields_List}
use Rattle.std.specs.Char.{is_ascii_hexdigit}
use Rattle.std.specs.List.{list_all}
use Rattle.hexadecimal.proofs.Digits.{digits_are}
use Rattle.hexadecimal.proofs.all_digits.Goals as goal

pub returns : goal.returns
returns c =
    let each : c.all.result ≡ list_all is_ascii_hexdigit c.args.text.now =
    all_from_yields_List is_ascii_hexdigit _ _ c.all.result c.all.ensures.ran (YieldsList-from_slice _ c.iter.ensures.rest) (λ x b q k. search (rules, tests)) in
    each ∙ digits_are c.args.text.now
