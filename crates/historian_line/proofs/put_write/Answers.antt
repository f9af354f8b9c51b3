-- `historian_line::put_write` meets its contract: the words on either side of the first space. Assumes nothing.
use Rattle.std.proofs.Common.{◌≡◌, ap, ap₂, ◌∙◌}
use Rattle.text.specs.Number.{number_of}
use Rattle.text.proofs.Pieces.{alike}
use Rattle.historian_line.specs.Line.{unknown, reading_named, asked_line, write_line}
use Rattle.historian_line.proofs.Words.{spaced, unspaced, first_word, second_word}
use Rattle.historian_line.proofs.put_write.Goals as goal

pub returns-then-end-s : goal.returns-then-end-s
unfolding write_line
returns-then-end-s c =
    let s = c.args.s.now in
    let end = c.word_end-end.result in
    let e = c.word_end-end.ensures.value in
    let known : asked_line c.reading_named-reading.result c.read_number-places.result ≡ write_line s =
    rw (spaced s end e c.if-end-s.true)
    (ap₂ asked_line (c.reading_named-reading.ensures ∙ ap reading_named (first_word s end e)) (c.read_number-places.ensures ∙ ap number_of (second_word s end e c.if-end-s.true))) in
    alike _ _ _ _ known c.put_asked.ensures

pub returns-else-end-s : goal.returns-else-end-s
unfolding write_line
returns-else-end-s c =
    let s = c.args.s.now in
    let known : unknown ≡ write_line s = rw (unspaced s c.word_end-end.result c.word_end-end.ensures.value c.if-end-s.false) in
    alike _ _ _ _ known c.put_unknown.ensures
