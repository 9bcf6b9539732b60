-- The bits below the place stay, the rest move down, and the new one comes in on top. Assumes nothing.
use Rattle.bits.proofs.Packed.{digit_byte, removed_word}
use Rattle.bits.proofs.leaf.word_remove.Goals as goal

pub returns : goal.returns
returns c =
    let s = c in
    let a = s.args in
    rw (c.word_below.ensures, digit_byte a.next) (removed_word a.at s.requires a.word s.ranges.word.fits a.next)
