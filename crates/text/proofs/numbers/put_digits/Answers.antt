use Rattle.text.proofs.Stepwise.{put_all, put_one}
use Rattle.text.proofs.numbers.put_digits.Goals as goal

pub loop-i-preserved : goal.loop-i-preserved
loop-i-preserved c = put_one c.loop-i.invariant c.loop-i-test.true c.requires.2 c.glyph.ensures

pub returns : goal.returns
returns c = put_all c.loop-i.invariant c.loop-i-test.false
