-- Whether the line begins with the four bytes says whether its first word is `CFG`.
use Rattle.std.proofs.Common.{◌≡◌, ◌∙◌, ap, ◌++◌, Some, None}
use Rattle.std.proofs.lemmas.Bool.Decides.{Decides-eqb}
use Rattle.std.proofs.lemmas.Slice.Eq.{strip_prefix_is}
use Rattle.register.specs.Bytes.{ascii}
use Rattle.record.specs.Record.{stored}
use Rattle.record.proofs.Said.{short_is, none_read, configuration_is, settings_are, untouched}
use Rattle.record.proofs.parse.Goals as goal

pub returns-in-Some : goal.returns-in-Some
returns-in-Some c =
    let s = c.args.s.now in
    let is : s ≡ ascii "CFG " ++ c.in-Some.rest.now = strip_prefix_is Decides-eqb s (ascii "CFG ") (Some c.in-Some.rest) c.in-Some.ensures.cases in
    record {
      value = c.configuration.ensures.value ∙ configuration_is s _ is;
      settings_after = c.configuration.ensures.settings_after ∙ ap (stored 0 c.args.settings.now) (settings_are s _ is);
    }

pub returns-in-None : goal.returns-in-None
returns-in-None c =
    let s = c.args.s.now in
    let other = strip_prefix_is Decides-eqb s (ascii "CFG ") None c.in-None.ensures.cases in
    record { value = c.brief.ensures ∙ short_is s other; settings_after = untouched c.args.settings.now (none_read s other) }
