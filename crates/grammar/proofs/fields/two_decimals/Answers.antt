-- The first field and what stands behind it are read as decimals.
use Rattle.std.proofs.Common.{◌∙◌}
use Rattle.text.specs.Text.{fields_left}
use Rattle.grammar.specs.Lines.{two_numbers}
use Rattle.grammar.proofs.Asking.{two_alone, two_more}
use Rattle.grammar.proofs.fields.two_decimals.Goals as goal

pub returns-in_err-decimal : goal.returns-in_err-decimal
unfolding two_numbers
returns-in_err-decimal c = λ ask. rw (c.from_residual.ensures, c.first_field.ensures.fields, ← c.in_err-decimal.ensures)

pub returns-in_err-rest : goal.returns-in_err-rest
unfolding fields_left
returns-in_err-rest c =
    λ ask. rw (c.from_residual-in_err-rest.ensures, c.first_field.ensures.fields, c.in_err-rest.was) (two_alone _ ask)

pub returns-in_err-decimal-2 : goal.returns-in_err-decimal-2
unfolding fields_left
returns-in_err-decimal-2 c =
    λ ask. rw (c.from_residual-in_err-decimal-2.ensures, c.first_field.ensures.fields, c.in_ok-rest.was)
    (two_more _ _ ask ∙ rw (← c.in_ok-decimal.ensures, ← c.in_err-decimal-2.ensures))

pub returns : goal.returns
unfolding fields_left
returns c =
    λ ask. rw (c.first_field.ensures.fields, c.in_ok-rest.was) (two_more _ _ ask ∙ rw (← c.in_ok-decimal.ensures, ← c.in_ok-decimal-2.ensures))
