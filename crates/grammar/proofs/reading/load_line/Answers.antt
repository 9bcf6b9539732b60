-- The first field is the length, and those behind it are the words.
use Rattle.std.proofs.Common.{arith}
use Rattle.text.specs.Text.{fields_left}
use Rattle.grammar.specs.Lines.{hex_words, load_of}
use Rattle.grammar.proofs.reading.load_line.Goals as goal

pub returns-in_err-length : goal.returns-in_err-length
unfolding load_of
returns-in_err-length c = rw (c.from_residual.ensures, c.first_field.ensures.fields, ← c.in_err-length.ensures)

pub returns-in_err-count-in-Some : goal.returns-in_err-count-in-Some
unfolding load_of fields_left
returns-in_err-count-in-Some c =
    let read = c.in_err-count-in-Some.ensures in
    rw (c.from_residual-in_err-count-in-Some.ensures, c.first_field.ensures.fields, c.in-Some.is, ← c.in_ok-length.ensures, read)

pub returns-in_ok-count-in-Some : goal.returns-in_ok-count-in-Some
unfolding load_of fields_left
returns-in_ok-count-in-Some c =
    let read = c.in_ok-count-in-Some.ensures in
    (read.0, rw (c.first_field.ensures.fields, c.in-Some.is, ← c.in_ok-length.ensures, read.1))

pub returns-in-None : goal.returns-in-None
unfolding load_of fields_left hex_words
returns-in-None c = (omega arith, rw (c.first_field.ensures.fields, c.in-None.is, ← c.in_ok-length.ensures))
