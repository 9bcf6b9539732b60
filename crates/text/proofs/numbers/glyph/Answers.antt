use Rattle.std.proofs.Common.{arith, sym}
use Rattle.text.proofs.Digits.{glyph_figure, glyph_letter}
use Rattle.text.proofs.numbers.glyph.Goals as goal

pub returns-then-worth-lt10 : goal.returns-then-worth-lt10
returns-then-worth-lt10 c = sym (glyph_figure c.args.worth c.if-worth-lt10.true)

pub returns : goal.returns
returns c = omega (arith, glyph_letter c.args.worth c.if-worth-lt10.false)
