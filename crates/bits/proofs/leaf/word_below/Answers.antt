-- A mask of n ones keeps the n lowest bits. Assumes nothing.
use lib.Bits.{and_mask}
use Rattle.bits.proofs.Packed.{one_shl}
use Rattle.bits.proofs.leaf.word_below.Goals as goal

pub returns : goal.returns
returns c = rw (one_shl c.args.n c.requires) (and_mask c.args.word c.args.n)
