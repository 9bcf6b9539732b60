-- The first bits stay, and the other word comes in above them. Assumes nothing.
use Rattle.bits.proofs.Packed.{joined_word}
use Rattle.bits.proofs.leaf.word_join.Goals as goal

pub returns : goal.returns
returns c =
    let s = c in
    rw c.word_below.ensures (joined_word s.args.len s.requires s.args.word s.args.other)
