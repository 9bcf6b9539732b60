-- Each range of bytes has its law.
use Rattle.std.proofs.Common.{arith, sym}
use Rattle.text.proofs.Digits.{worth_figure, worth_letter, worth_neither}
use Rattle.text.proofs.numbers.digit.Goals as goal

pub returns-in-48-to-57 : goal.returns-in-48-to-57
returns-in-48-to-57 c = (sym (worth_figure c.args.byte (omega arith) (omega arith)), omega arith)

pub returns-in-97-to-102 : goal.returns-in-97-to-102
returns-in-97-to-102 c = (omega (arith, worth_letter c.args.byte (omega arith) (omega arith)), omega arith)

pub returns-in_default : goal.returns-in_default
returns-in_default c = sym (worth_neither c.args.byte (λ l h. omega arith) (λ l h. omega arith))

pub returns-in_default-2 : goal.returns-in_default-2
returns-in_default-2 c = sym (worth_neither c.args.byte (λ l h. omega arith) (λ l h. omega arith))

pub returns-in_default-3 : goal.returns-in_default-3
returns-in_default-3 c = sym (worth_neither c.args.byte (λ l h. omega arith) (λ l h. omega arith))
