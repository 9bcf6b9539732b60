-- 18 decimal digits stay within a word.
use Rattle.std.proofs.Common.{arith, sym, ◌∙◌}
use Rattle.text.proofs.Digits.{decimal_reads, decimal_not}
use Rattle.text.proofs.numbers.decimal.Goals as goal

pub returns-in-1-to-18 : goal.returns-in-1-to-18
returns-in-1-to-18 c = c.numeral.ensures ∙ sym (decimal_reads c.args.field.now (omega arith) (omega arith))

pub returns-in_default : goal.returns-in_default
returns-in_default c = sym (decimal_not c.args.field.now (λ l h. omega arith))

pub returns-in_default-2 : goal.returns-in_default-2
returns-in_default-2 c = sym (decimal_not c.args.field.now (λ l h. omega arith))
