-- 16 hexadecimal digits are a word.
use Rattle.std.proofs.Common.{arith, sym, ◌∙◌}
use Rattle.text.proofs.Digits.{hex_reads, hex_not}
use Rattle.text.proofs.numbers.hex_word.Goals as goal

pub returns-in-16 : goal.returns-in-16
returns-in-16 c = c.numeral.ensures ∙ sym (hex_reads c.args.field.now (omega arith))

pub returns-in_default : goal.returns-in_default
returns-in_default c = sym (hex_not c.args.field.now (λ e. omega arith))
