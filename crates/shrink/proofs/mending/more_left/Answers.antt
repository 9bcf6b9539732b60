-- The mark counts as what its word holds. Assumes nothing.
use Rattle.descent.proofs.Digits.{byte_digit}
use Rattle.shrink.proofs.mending.more_left.Goals as goal

pub returns : goal.returns
returns c = rw (byte_digit c.args.bit)
