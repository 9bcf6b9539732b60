-- The first field is the name.
use Rattle.grammar.specs.Lines.{Reads, wanted, wanted_of}
use Rattle.grammar.proofs.reading.read.Goals as goal

pub returns-in_err-name_of : goal.returns-in_err-name_of
unfolding Reads wanted wanted_of
returns-in_err-name_of c = rw (c.from_residual.ensures, c.first_field.ensures.fields, ← c.in_err-name_of.ensures)

pub returns : goal.returns
unfolding Reads wanted wanted_of
returns c = rw (c.first_field.ensures.fields, ← c.in_ok-name_of.ensures) c.asked.ensures
