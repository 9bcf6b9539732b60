-- The machine's count of ones is the count of the word's set bits. Assumes nothing.
use Rattle.bits.proofs.Ones.{counted}
use Rattle.bits.proofs.word.U64Word.ones.Goals as goal

pub returns : goal.returns
returns c = counted 64 c.args.self c.ranges.self.fits
